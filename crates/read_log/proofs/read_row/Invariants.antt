-- The fields that are left, entered into what the array holds, give what the whole row gives.
use Rattle.std.proofs.Common.{◌≡◌, length, drop, replicate}
use Rattle.std.specs.List.{zip}
use Rattle.model.specs.{Text.comma, Text.split, Stored.key_capacity, Stored.entry_in, Stored.first_of}
use Rattle.model.specs.declared.Entry.TheVariants.{Absent}
use Rattle.model_log.specs.Log.{key_count, entries}
use Rattle.read_log.proofs.Fields.{entered}
use Rattle.read_log.proofs.read_row.Given as goal

abbrev pub invariant-loop-k : goal.invariant-loop-k
invariant-loop-k l =
    record {
      can : (goal.iterator-loop-k).can_next l.k-iterator;
      finite : (goal.iterator-loop-k).is_finite l.k-iterator;
      all : length l.slots ≡ key_capacity;
      same : entered (drop (length l.yielded) (zip l.keys (split comma l.t))) (first_of entry_in key_count l.slots) ≡ entries l.keys (split comma l.t) (replicate key_count Absent);
    }
