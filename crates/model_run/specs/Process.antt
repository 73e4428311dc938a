-- One execution on its own fields of the message: how it begins, what a command makes of it, and where it stands.
use Rattle.std.specs.Prelude.{List, ℕ, Bool}
use lib.{ListN.get_or, ListN.set, ListN.length, ListN.replicate, Dec.leb}
use Rattle.model.specs.{Execution.begun, Command.blank}
use Rattle.model_run.specs.{Step.does, Step.Stepped}
use Rattle.model_run.specs.Data.{Entry, Absent, Set, Command, Execution}

-- An execution with its own fields of the message, one for each key. "The low execution reads and changes only low fields, the high one only high
-- fields": what is not in here no command of it can reach.
pub record Process : Type 0 where
  pub execution : Execution
  pub fields : List Entry

-- so many fields, all absent
abbrev pub absent_fields : ℕ → List Entry
absent_fields n = replicate n Absent

-- at first, with so many keys: "All fields are absent at first."
unfoldable pub fresh : ℕ → Process
fresh n = record { execution = begun; fields = absent_fields n }

-- the entry at a key
unfoldable pub entry : Process → ℕ → Entry
entry p k = get_or p.fields k Absent

-- the fields filled anew
unfoldable pub refill : List Entry → Process → Process
refill es p = record { execution = p.execution; fields = es }

abbrev pub stored : Process → ℕ → Stepped → Process
stored p k r = record { execution = r.execution; fields = set p.fields k r.entry }

-- one command, in a program of n commands
unfoldable pub step : ℕ → Command → Process → Process
step n c p = stored p c.k (does n c p.execution (entry p c.k))

-- the command at an execution's place
unfoldable pub command : List Command → Process → Command
command cs p = get_or cs p.execution.place (blank Set)

-- "An execution at the end has stopped", the end being "the place after the last command"
unfoldable pub stopped : List Command → Process → Bool
stopped cs p = leb (length cs) p.execution.place
