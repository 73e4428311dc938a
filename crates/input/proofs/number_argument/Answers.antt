-- What is read is at most the limit.
use Rattle.std.proofs.Common.{sym}
use native.Mathlib.Omega.{arith}
use Rattle.model.proofs.Accepted.{up-to-bound}
use Rattle.input.proofs.number_argument.Goals as goal

pub overflow_cast-result : goal.overflow_cast-result
overflow_cast-result g c = omega (arith, up-to-bound _ c.in_ok-number.number _ (sym c.in_ok-number.ensures))

pub returns : goal.returns
returns g c = up-to-bound _ c.in_ok-number.number _ (sym c.in_ok-number.ensures)
