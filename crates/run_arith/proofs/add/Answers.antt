-- The law of an operation that is done at i64 and then computed, at `◌+ℤ◌`.
use lib.IntN.{◌+ℤ◌}
use Rattle.model_run.specs.Arith.{sum}
use Rattle.run_arith.proofs.Laws.{answered, add-fits}
use Rattle.run_arith.proofs.add.Goals as goal

pub returns : goal.returns
unfolding sum
returns c = let f = c.ranges in answered ◌+ℤ◌ f.a f.b c.from.ensures c.from-2.ensures (add-fits f.a f.b) c.computed.ensures
