-- The loop keeps what `Inv` of proofs/Loop.antt says.
use Rattle.run_job.proofs.Loop.{Inv}
use Rattle.run_job.proofs.run_job.Given as goal

abbrev pub invariant-loop-at : goal.invariant-loop-at
invariant-loop-at l =
    Inv l.job l.initial.out (record { low = l.low; a = l.a; b = l.b; message = l.message; kinds = l.kinds; taken = l.taken; bytes = l.bytes; clock = l.clock })
    l.out l.at
