-- The first i commands are stored.
use lib.ListN.{drop}
use mathlib.Core.List.{map}
use Rattle.model_record.specs.Record.{command_record}
use Rattle.write_record.proofs.Laws.{Filling}
use Rattle.write_record.proofs.commands_over.Given as goal

abbrev pub invariant-loop-i : goal.invariant-loop-i
invariant-loop-i l = Filling l.initial.records (map command_record l.commands) l.records l.i (drop l.i (map command_record l.commands))
