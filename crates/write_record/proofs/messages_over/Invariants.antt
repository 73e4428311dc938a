-- Of the messages, those from the i-th on are still to make.
use mathlib.Core.Path.{◌≡◌}
use mathlib.Core.List.{map}
use lib.ListN.{drop}
use Rattle.model.specs.Stored.{entries_in}
use Rattle.model_record.specs.Record.{messages_over}
use Rattle.write_record.proofs.Laws.{messages_left}
use Rattle.write_record.proofs.messages_over.Given as goal

abbrev pub invariant-loop-i : goal.invariant-loop-i
invariant-loop-i l =
    messages_left l.i (drop l.i (map (entries_in l.keys) l.lines)) l.records ≡ messages_over (map (entries_in l.keys) l.lines) l.initial.records
