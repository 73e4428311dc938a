-- Whether those so far are none of B's, and those that are left, is whether all are.
use mathlib.Core.Path.{sym, ◌∙◌}
use native.Mathlib.{Numerals.add-one}
use lib.{ListN.get_or, ListN.drop_of_length-le, Seq.drop-cons}
use Rattle.model.specs.Stored.{level_of}
use Rattle.model_forms.specs.Forms.{turn_a}
use Rattle.model_text.proofs.Tests.{told_more, told-end, all_map}
use Rattle.turn_form.proofs.Laws.{letter-a}
use Rattle.turn_form.proofs.turns_a.Goals as goal

pub loop-b-preserved : goal.loop-b-preserved
loop-b-preserved c =
    let xs = c.args.turns.now in
    let i = c.loop-b.b-index in
    told_more c.loop-b.invariant {x = get_or xs i 0} (rw add-one (drop-cons xs i 0 c.loop-b-test.true)) (letter-a (get_or xs i 0))

pub returns : goal.returns
returns c = told-end c.loop-b.invariant (drop_of_length-le c.args.turns.now c.loop-b-test.false) ∙ sym (all_map turn_a level_of c.args.turns.now)
