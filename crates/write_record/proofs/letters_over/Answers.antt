-- The first i letters are stored.
use Rattle.write_record.proofs.letters_over.Invariants.{letter}
use mathlib.Core.Path.{sym, ap, ◌∙◌}
use mathlib.Core.List.{map-map}
use native.Mathlib.Omega.{arith}
use Rattle.model.specs.{Placed.front, Stored.level_of}
use Rattle.model_sheet.specs.Sheet.{letter_of}
use Rattle.write_record.proofs.Laws.{filling-begins, each_more, each-ends}
use Rattle.write_record.proofs.letters_over.Goals as goal

pub loop-i-init : goal.loop-i-init
loop-i-init c = filling-begins

pub loop-i-preserved : goal.loop-i-preserved
loop-i-preserved c =
    each_more (letter c.args.form) c.args.turns.now c.loop-i.i c.loop-i.invariant 0 c.letter_of.result c.loop-i-test.true c.letter_of.ensures

pub returns : goal.returns
returns c =
    each-ends (letter c.args.form) c.args.turns.now c.loop-i.i c.loop-i.invariant c.loop-i-test.false (omega (arith, c.loop-i.auto))
    ∙ ap (front c.args.letters.now) (sym (map-map (letter_of c.args.form) level_of c.args.turns.now))
