-- The target is as near as a command can have it.
use mathlib.Core.Path.{ap}
use Rattle.model_blocks.specs.Block.{jump_to}
use Rattle.read_blocks.proofs.jump_to.Goals as goal

pub returns : goal.returns
returns c = ap jump_to c.near.ensures
