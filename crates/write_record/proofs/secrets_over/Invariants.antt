-- Of the secrets, those from key k on are still to store.
use Prim.Native.Nat.{◌≤◌}
use Rattle.write_record.proofs.Laws.{Filling, secrets_left}
use Rattle.write_record.proofs.secrets_over.Given as goal

abbrev pub invariant-loop-k : goal.invariant-loop-k
invariant-loop-k l = (l.count ≤ l.k) × Filling l.initial.records (secrets_left l.owners l.slots 0) l.records l.count (secrets_left l.owners l.slots l.k)
