-- Document 02, Note 4: "Call it a plain run when one execution works alone, with one field to a key and the real messages; once stopped it does nothing more."
-- What a command makes of an execution and its fields is document 01's, as in the paired model; of levels, turns and dummies nothing is here. (The record of an
-- execution counts its calls and its clamped results, at which a plain run does not look.)
use Rattle.std.specs.Prelude.{ℕ, zero, suc, cond, List, [], ◌∷◌, length, get_or, drop}
use Rattle.model_run.specs.{Step.call_of, Process.Process, Process.absent_fields, Process.fresh, Process.refill, Process.step, Process.command, Process.stopped}
use Rattle.model_run.specs.Data.{Entry, Absent, Command, Call, Neither, Receives, Sends}

-- What a plain run is of: how many keys there are, and not which are secret; the commands; the messages
pub record PlainJob : Type 0 where
  pub keys : ℕ
  pub commands : List Command
  pub messages : List (List Entry)

-- "one execution works alone, with one field to a key": the execution with its fields, and the message lines that it has not received
pub record PlainState : Type 0 where
  pub process : Process
  pub rest : List (List Entry)

-- ---- Its message

-- the fields of so many keys as a message line fills them: at each key the entry, or absent where the line lacks the key
unfoldable pub filled : ℕ → List Entry → List Entry
filled zero es = []
filled (suc n) es = get_or es 0 Absent ∷ filled n (drop 1 es)

-- as the lines that are left fill them: the next one does; "With no line left, every field becomes absent."
unfoldable pub next_fields : ℕ → List (List Entry) → List Entry
next_fields n [] = absent_fields n
next_fields n (line ∷ rest) = filled n line

-- What a call does to its message: "`receive` takes the next message line and fills all fields"; of `send`, "The message is unchanged by it."
unfoldable pub calling : Call → ℕ → PlainState → PlainState
calling Neither n a = a
calling Receives n a = record { process = refill (next_fields n a.rest) a.process; rest = drop 1 a.rest }
calling Sends n a = a

-- ---- Its steps

-- the call that its next step makes, if it makes one; "once stopped it does nothing more"
unfoldable pub call_now : List Command → PlainState → Call
call_now cs a = cond (stopped cs a.process) Neither (call_of (command cs a.process).op)

-- once that call is made, and before the execution moves on
abbrev pub call_made : ℕ → List Command → PlainState → PlainState
call_made n cs a = calling (call_now cs a) n a

-- one step; "once stopped it does nothing more"
unfoldable pub plain_step : ℕ → List Command → PlainState → PlainState
plain_step n cs a =
    let b = call_made n cs a in
    cond (stopped cs a.process) a (record { process = step (length cs) (command cs a.process) b.process; rest = b.rest })

-- before step s, "counted from 0"
unfoldable pub plain_at : PlainJob → ℕ → PlainState
plain_at j zero = record { process = fresh j.keys; rest = j.messages }
plain_at j (suc s) = plain_step j.keys j.commands (plain_at j s)

-- ---- What it receives and sends

-- whether it receives or sends at step s
unfoldable pub call_at_step : PlainJob → ℕ → Call
call_at_step j s = call_now j.commands (plain_at j s)

-- and the entries that it receives or sends there; at any other step, those that it has
unfoldable pub entries_at_step : PlainJob → ℕ → List Entry
entries_at_step j s = (call_made j.keys j.commands (plain_at j s)).process.fields
