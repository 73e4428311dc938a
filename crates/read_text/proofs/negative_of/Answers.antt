-- A number from 1 to the least's magnitude, negated by way of an i64.
use Rattle.std.proofs.Common.{◌≤◌, ◌∙◌, sym, ap, arith}
use mir.{Syntax.w64, ValLaws.to_z-of_z}
use Rattle.model.specs.{Limits.least_number, Parsed.got}
use Rattle.model.proofs.{Accepted.from-one-bound, Handed.refused-handed}
use Rattle.model_text.proofs.TextLaws.{negative-bad, negative_ok}
use Rattle.read_text.proofs.{Signed.negated, Signed.fits64, Signed.fits32, Signed.back}
use Rattle.read_text.proofs.negative_of.Goals as goal
use Rattle.read_text.proofs.negative_of.Goals.{In_ok-n}

bound : (c : In_ok-n) → (1 ≤ c.in_ok-n.n) × (c.in_ok-n.n ≤ least_number)
bound c = from-one-bound _ _ _ (sym c.in_ok-n.ensures)

pub returns-in_err-n : goal.returns-in_err-n
returns-in_err-n c = refused-handed _ _ c.from_residual.ensures.1 ∙ sym (negative-bad _ _ (sym c.in_err-n.ensures))

pub overflow_cast-result : goal.overflow_cast-result
overflow_cast-result c = let b = bound c in record { sfits = omega arith }

pub overflow_sub-result : goal.overflow_sub-result
overflow_sub-result c = let (p, q) = bound c in rw (negated _ p q) (fits64 _ q)

pub overflow_cast-result-2 : goal.overflow_cast-result-2
overflow_cast-result-2 c = let (p, q) = bound c in rw (negated _ p q, to_z-of_z w64 _ (fits64 _ q)) (fits32 _ p q)

pub returns : goal.returns
returns c = let (p, q) = bound c in ap got (back _ p q) ∙ sym (negative_ok _ _ (sym c.in_ok-n.ensures))
