-- Of the message's text, the parts from key k on are still to put.
use mathlib.Core.List.{map}
use lib.ListN.{drop}
use Rattle.model.specs.Stored.{entry_in}
use Rattle.model_text.specs.Text.{message_text}
use Rattle.write_text.proofs.Laws.{Putting}
use Rattle.write_messages.proofs.Laws.{parts_from}
use Rattle.write_messages.proofs.put_entries.Given as goal

abbrev pub invariant-loop-k : goal.invariant-loop-k
invariant-loop-k l = Putting l.initial.out l.at (message_text (map entry_in l.slots)) l.out l.next (parts_from l.first l.k (drop l.k (map entry_in l.slots)))
