-- The entries that are left pass as all of them do, and give the message of all, entered where the others stand.
use mathlib.Core.Path.{◌≡◌}
use lib.ListN.{length}
use Rattle.model.specs.Stored.{key_capacity, entry_in}
use Rattle.model.specs.declared.Entry.TheVariants.{Absent}
use Rattle.model_record.specs.Record.{entry_key, entry_fits}
use Rattle.read_record.proofs.Laws.{Entering, enters}
use Rattle.read_record.proofs.entries_of.Given as goal

abbrev pub invariant-loop-e : goal.invariant-loop-e
invariant-loop-e l = Entering entry_key entry_fits l.keys enters entry_in Absent l.entries l.e-index l.next l.slots × (length l.slots ≡ key_capacity)
