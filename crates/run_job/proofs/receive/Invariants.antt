-- The first k fields are as the receive leaves them.
use Rattle.run_job.proofs.Keys.{Filling}
use Rattle.run_job.proofs.receive.Given as goal

abbrev pub invariant-loop-k : goal.invariant-loop-k
invariant-loop-k l = Filling l.job l.line l.more l.message l.k
