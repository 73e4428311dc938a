-- Of the entries, those from key k on are still to store.
use Prim.Native.Nat.{◌≤◌}
use Rattle.model.specs.Stored.{entry_in}
use Rattle.model_record.specs.Record.{entry_record}
use Rattle.write_record.proofs.Laws.{Filling, made_from}
use Rattle.write_record.proofs.message_over.Given as goal

abbrev pub invariant-loop-k : goal.invariant-loop-k
invariant-loop-k l =
    (l.count ≤ l.k) × Filling l.initial.message.entries (made_from entry_in entry_record l.slots 0) l.message.entries l.count (made_from entry_in entry_record l.slots l.k)
