-- The target is as near as a command can have it.
use mathlib.Core.Path.{ap}
use Prim.Native.Nat.{ℕ}
use Rattle.model_blocks.specs.Block.{test_to}
use Rattle.read_blocks.proofs.test_to.Goals as goal

pub returns : goal.returns
returns c = ap (λ (t : ℕ). test_to t c.args.v) c.near.ensures
