-- Of the lines, those from one message on are still to put.
use mathlib.Core.List.{map}
use lib.ListN.{drop}
use Rattle.model.specs.Stored.{entries_in}
use Rattle.model_text.specs.Text.{message_lines}
use Rattle.write_text.proofs.Laws.{Putting}
use Rattle.write_messages.proofs.put_messages.Given as goal

abbrev pub invariant-loop-line : goal.invariant-loop-line
invariant-loop-line l = Putting l.initial.out l.at (message_lines (map (entries_in l.keys) l.messages)) l.out l.next (message_lines (drop l.line-index (map (entries_in l.keys) l.messages)))
