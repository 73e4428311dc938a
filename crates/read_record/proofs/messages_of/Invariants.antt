-- The messages that are left pass as all of them do, and make the rest of what all make.
use mathlib.Core.Path.{◌≡◌}
use lib.ListN.{length}
use Rattle.model.specs.Stored.{message_capacity, entries_in}
use Rattle.model_record.specs.Record.{message_fits, entries_of}
use Rattle.read_record.proofs.Laws.{Taking}
use Rattle.read_record.proofs.messages_of.Given as goal

abbrev pub invariant-loop-i : goal.invariant-loop-i
invariant-loop-i l = Taking (message_fits l.keys) (entries_of l.keys) (entries_in l.keys) l.messages l.i l.taken × (length l.taken ≡ message_capacity)
