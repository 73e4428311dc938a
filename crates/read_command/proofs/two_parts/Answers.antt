-- Two parts, read from left to right on either side of their space.
use Rattle.std.proofs.Common.{◌∙◌, refl}
use Rattle.model.proofs.Handed.{refused-handed}
use Rattle.read_command.proofs.Laws.{two-not, two-read}
use Rattle.read_command.proofs.two_parts.Goals as goal

pub returns-in_err-first : goal.returns-in_err-first
returns-in_err-first c = refused-handed _ _ c.from_residual.ensures.1 ∙ two-not _ _ _ c.in_err-first.ensures

pub returns-in_err-x : goal.returns-in_err-x
returns-in_err-x c = refused-handed _ _ c.from_residual-in_err-x.ensures.1 ∙ two-read _ _ _ c.in_ok-first.ensures c.in_err-x.ensures refl

pub returns-in_err-y : goal.returns-in_err-y
returns-in_err-y c = refused-handed _ _ c.from_residual-in_err-y.ensures.1 ∙ two-read _ _ _ c.in_ok-first.ensures c.in_ok-x.ensures c.in_err-y.ensures

pub returns : goal.returns
returns c = two-read _ _ _ c.in_ok-first.ensures c.in_ok-x.ensures c.in_ok-y.ensures
