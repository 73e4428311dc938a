-- The cells that are still to write make of the memory what all of them make of it.
use Rattle.run_job.proofs.Keys.{Writing}
use Rattle.run_job.proofs.send.Given as goal

abbrev pub invariant-loop-k : goal.invariant-loop-k
invariant-loop-k l = Writing l.job l.message l.bytes l.initial.out l.out l.k
