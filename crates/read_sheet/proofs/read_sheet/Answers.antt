-- The refusals 1 and 2 in their order, and then the lines.
use Rattle.std.proofs.Common.{◌≡◌, ◌∙◌, sym, ap, arith}
use Rattle.model.specs.Sheet.{refused}
use Rattle.model_text.proofs.TextLaws.{spoilt-most}
use Rattle.read_sheet.proofs.Laws.{answers, denied, sheet-long, sheet-spoilt, sheet-lines}
use Rattle.read_sheet.proofs.read_sheet.Goals as goal

pub returns-then-s-gt-MOST_BYTES : goal.returns-then-s-gt-MOST_BYTES
returns-then-s-gt-MOST_BYTES c = denied (sheet-long _ (omega arith))

pub overflow_cast-result : goal.overflow_cast-result
overflow_cast-result c = let h = spoilt-most c.args.s.now in let e = c.spoilt_line-n.ensures in omega arith

pub returns-then-n-ne0 : goal.returns-then-n-ne0
returns-then-n-ne0 c = let e = c.spoilt_line-n.ensures in denied (sheet-spoilt _ (omega arith) (omega arith) ∙ ap (refused 2) (sym e))

pub returns : goal.returns
returns c = let e = sym c.spoilt_line-n.ensures in answers (sheet-lines _ (omega arith) (omega arith)) c.read_lines.ensures
