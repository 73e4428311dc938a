-- The law of an operation that is done at i64 and then computed, at `◌-ℤ◌`.
use lib.IntN.{◌-ℤ◌}
use Rattle.model_run.specs.Arith.{difference}
use Rattle.run_arith.proofs.Laws.{answered, sub-fits}
use Rattle.run_arith.proofs.sub.Goals as goal

pub returns : goal.returns
unfolding difference
returns c = let f = c.ranges in answered ◌-ℤ◌ f.a f.b c.from.ensures c.from-2.ensures (sub-fits f.a f.b) c.computed.ensures
