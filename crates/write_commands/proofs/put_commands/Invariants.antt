-- Of the lines, those from one command on are still to put.
use lib.ListN.{drop}
use Rattle.model_text.specs.Text.{command_lines}
use Rattle.write_text.proofs.Laws.{Putting}
use Rattle.write_commands.proofs.put_commands.Given as goal

abbrev pub invariant-loop-c : goal.invariant-loop-c
invariant-loop-c l = Putting l.initial.out l.at (command_lines l.commands) l.out l.next (command_lines (drop l.c-index l.commands))
