-- The secrets that are left pass as all of them do, and give the keys of all, entered where the others stand.
use mathlib.Core.Path.{◌≡◌}
use lib.ListN.{length}
use Rattle.model.specs.Stored.{key_capacity, key_in}
use Rattle.model.specs.declared.Key.TheVariants.{Open}
use Rattle.model_record.specs.Record.{secret_key, secret_fits, hides}
use Rattle.read_record.proofs.Laws.{Entering}
use Rattle.read_record.proofs.secrets_of.Given as goal

abbrev pub invariant-loop-s : goal.invariant-loop-s
invariant-loop-s l = Entering secret_key (secret_fits l.owners) l.keys hides key_in Open l.secrets l.s-index l.next l.slots × (length l.slots ≡ key_capacity)
