-- One command on an execution's record and the message, as the code does it.
use Rattle.std.specs.Prelude.{ℕ, List, cond}
use lib.{Dec.leb, Dec.ltb, ListN.get_or, ListN.set}
use Rattle.model.specs.{Command.blank, Stored.side, Stored.with_side, Stored.absent_field}
use Rattle.model.specs.declared.{Call.Call, Command.Command, Execution.Execution, Field.Field, Level.Level, StoredJob.StoredJob}
use Rattle.model.specs.declared.Call.TheVariants.{Neither}
use Rattle.model.specs.declared.Op.TheVariants.{Set}
use Rattle.model_run.specs.{Step.Stepped, Step.does, Step.call_of, Verdict.waits}

-- the command at a place
abbrev pub command_at : List Command → ℕ → Command
command_at cs p = get_or cs p (blank Set)

-- an execution's record and the message
pub record Moved : Type 0 where
  pub execution : Execution
  pub message : List Field

-- the field f of the message m at the key k has a level's entry of a step, and the record is that of the step
abbrev pub moved_to : Level → List Field → ℕ → Field → Stepped → Moved
moved_to l m k f s = record { execution = s.execution; message = set m k (with_side l s.entry f) }

-- after a command of a level's execution, in a program of n commands
abbrev pub moved_by : ℕ → Command → Level → Execution → List Field → Moved
moved_by n c l x m = moved_to l m c.k (get_or m c.k absent_field) (does n c x (side l (get_or m c.k absent_field)))

-- the kind of the leader's call number i of the n that it has made
abbrev pub made_before : ℕ → ℕ → List Call → Call
made_before i n kinds = cond (ltb i n) (get_or kinds i Neither) Neither

-- After a turn of an execution that follows, where the leader has made n calls of these kinds: the same at the program's
-- end and where it waits, else a command on.
abbrev pub followed_by : StoredJob → Level → Execution → List Field → ℕ → List Call → Moved
followed_by j l x m n kinds =
    cond (leb j.command_count x.place) (record { execution = x; message = m })
    (cond (waits (call_of (command_at j.commands x.place).op) (made_before x.calls n kinds)) (record { execution = x; message = m })
    (moved_by j.command_count (command_at j.commands x.place) l x m))
