-- The commands that are left pass as all of them do, and make the rest of what all make.
use mathlib.Core.Path.{◌≡◌}
use lib.ListN.{length}
use Rattle.model.specs.{Stored.command_capacity, declared.Command.Command}
use Rattle.model_record.specs.Record.{command_fits, command_of}
use Rattle.read_record.proofs.Laws.{Taking}
use Rattle.read_record.proofs.commands_of.Given as goal

-- a stored command shows as itself
abbrev pub itself : Command → Command
itself c = c

abbrev pub invariant-loop-i : goal.invariant-loop-i
invariant-loop-i l = Taking (command_fits l.keys (length l.commands)) command_of itself l.commands l.i l.taken × (length l.taken ≡ command_capacity)
