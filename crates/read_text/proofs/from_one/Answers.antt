-- A number from 1: the cases of what is read up to the limit.
use Rattle.std.proofs.Common.{◌∙◌, sym, arith}
use Rattle.model.proofs.Handed.{refused-handed}
use Rattle.model_text.proofs.TextLaws.{from-one-bad, from-one-zero, from-one-ok}
use Rattle.read_text.proofs.from_one.Goals as goal

pub returns-in_err-n : goal.returns-in_err-n
returns-in_err-n c = refused-handed _ _ c.from_residual.ensures.1 ∙ sym (from-one-bad _ _ _ (sym c.in_err-n.ensures))

pub returns-then-n-eq0 : goal.returns-then-n-eq0
returns-then-n-eq0 c = sym (from-one-zero _ _ _ (sym c.in_ok-n.ensures) c.if-n-eq0.true)

pub returns : goal.returns
returns c = sym (from-one-ok _ _ _ (sym c.in_ok-n.ensures) (omega arith))
