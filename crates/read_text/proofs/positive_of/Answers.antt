-- A number up to the greatest, as an i32.
use Rattle.std.proofs.Common.{◌≤◌, ◌∙◌, sym, ap, arith}
use mir.{ValLaws.to_z_pos, Syntax.w32}
use Rattle.model.specs.{Limits.greatest_number, Parsed.got}
use Rattle.model.proofs.{Accepted.up-to-bound, Handed.refused-handed}
use Rattle.model_text.proofs.TextLaws.{positive-bad, positive_ok}
use Rattle.read_text.proofs.positive_of.Goals as goal
use Rattle.read_text.proofs.positive_of.Goals.{In_ok-n}

bound : (c : In_ok-n) → c.in_ok-n.n ≤ greatest_number
bound c = up-to-bound _ _ _ (sym c.in_ok-n.ensures)

pub returns-in_err-n : goal.returns-in_err-n
returns-in_err-n c = refused-handed _ _ c.from_residual.ensures.1 ∙ sym (positive-bad _ _ (sym c.in_err-n.ensures))

pub overflow_cast-result : goal.overflow_cast-result
overflow_cast-result c = let b = bound c in record { sfits = omega arith }

pub returns : goal.returns
returns c = let b = bound c in ap got (to_z_pos w32 c.in_ok-n.n (omega arith)) ∙ sym (positive_ok _ _ (sym c.in_ok-n.ensures))
