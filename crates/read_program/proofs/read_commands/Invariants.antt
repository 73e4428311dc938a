-- The `do` lines that are left, added to those that the array holds, give what the whole phase gives.
use Rattle.std.proofs.Common.{◌≡◌, ◌≤◌, ◌-◌, [], length, map, take}
use Rattle.model.specs.{Text.bytes, Command.limits, Command.read_command, Phase.one_more, Stored.command_capacity}
use Rattle.read_line.proofs.Laws.{Going}
use Rattle.read_program.proofs.Laws.{itself}
use Rattle.read_program.proofs.read_commands.Given as goal

abbrev pub invariant-loop-v : goal.invariant-loop-v
invariant-loop-v l = Going (bytes "do") (one_more l.form.commands (read_command (limits l.keys l.form.commands))) [] l.s l.first l.line l.at (map itself (take l.count l.commands))
    × (l.count ≤ l.form.commands) × (length l.commands ≡ command_capacity)

abbrev pub decreases-loop-v : goal.decreases-loop-v
decreases-loop-v l = length l.s - l.at
