-- What is clamped tells whether the exact result lay outside.
use Rattle.run_arith.proofs.Laws.{computed-is}
use Rattle.run_arith.proofs.computed.Goals as goal

pub returns : goal.returns
returns c = let k = c.clamp-value.ensures in computed-is c.ranges.x k.lower_bound k.upper_bound k.value c.from.ensures
