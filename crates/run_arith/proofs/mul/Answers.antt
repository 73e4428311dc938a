-- The law of an operation that is done at i64 and then computed, at `◌*ℤ◌`.
use lib.IntN.{◌*ℤ◌}
use Rattle.model_run.specs.Arith.{product}
use Rattle.run_arith.proofs.Laws.{answered, mul-fits}
use Rattle.run_arith.proofs.mul.Goals as goal

pub returns : goal.returns
unfolding product
returns c = let f = c.ranges in answered ◌*ℤ◌ f.a f.b c.from.ensures c.from-2.ensures (mul-fits f.a f.b) c.computed.ensures
