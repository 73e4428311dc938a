-- The `do` lines of a sheet of the form f.
use Rattle.std.specs.Prelude.{ℕ, List, []}
use Rattle.model.specs.{Command.limits, Command.read_command, Text.bytes, Phase.Phase, Phase.many, Phase.one_more, Phase.some}
use Rattle.model.specs.Data.{Form, Command}

-- "`do=command`, 1 to 64 lines"; refusal 4: "t up to 64"
unfoldable pub read_commands : Form → ℕ → ℕ → List (List ℕ) → Phase (List Command)
read_commands f K n ls = some (many (bytes "do") (one_more f.commands (read_command (limits K f.commands))) n [] ls)
