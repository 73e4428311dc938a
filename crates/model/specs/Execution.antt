-- The record of one execution: at first, after a call, and after a command. These are what the methods of src/lib.rt promise.
use Rattle.std.specs.Prelude.{List, [], ◌∷◌, ℕ, ◌+◌}
use lib.{IntN.pos, ListN.length, ListN.set, ListN.replicate}
use Rattle.model.specs.{Limits.variables}
use Rattle.model.specs.Data.{Call, Neither, Receives, Sends, Execution, Effect}

-- the next record after a call
abbrev pub called_of : Execution → Execution
called_of x = record { place = x.place + 1; vars = x.vars; calls = x.calls + 1; clamped = x.clamped }

-- "Each execution has its place and eight variables, all 0 at first."
abbrev pub begun : Execution
begun = record { place = 0; vars = replicate variables (pos 0); calls = 0; clamped = 0 }

-- the calls that a command makes, none or one, and how many
abbrev pub kinds_by : Call → List Call
kinds_by Neither = []
kinds_by Receives = Receives ∷ []
kinds_by Sends = Sends ∷ []

abbrev pub calls_by : Call → ℕ
calls_by k = length (kinds_by k)

-- the next record after a command of this kind of call: its variable has the value of its effect, and the execution goes on at its place, with the clamped
-- results by then
abbrev pub after_of : Execution → ℕ → Call → Effect → Execution
after_of x v k f = record { place = f.place; vars = set x.vars v f.value; calls = x.calls + calls_by k; clamped = f.clamped }
