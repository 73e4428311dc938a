-- The dialect's own meaning, step by step: a state has no place in a list of commands, but what is left to do.
use Rattle.std.specs.Prelude.{ℕ, zero, suc, Bool, true, false, cond, List}
use Rattle.model.specs.{Number.is_zero}
use Rattle.model_run.specs.{Step.call_of, Step.variable, Process.Process, Process.fresh, Process.step, Plain.PlainState, Plain.calling}
use Rattle.model.specs.declared.{Entry.Entry, Command.Command, Call.Call, Call.TheVariants.Neither}
use Rattle.model_blocks.specs.Block.{Block, empty, own, if_only, if_else, while, Way, ahead, at_end, elsewhere, way_of}

-- ---- What is left to do

-- Nothing; or a block and then the rest; or a jump and then the rest
pub data ToDo : Type 0 where
  nothing : ToDo
  block : Block → ToDo → ToDo
  jump : ToDo → ToDo

-- The next step, and what is left to do after it: none, as nothing is left; a command; a test of v, with what is left where v is 0 and where it is not; a jump
pub data NextStep : Type 0 where
  stops : NextStep
  obeys : (c : Command) (after : ToDo) → NextStep
  tests : (v : ℕ) (if_zero if_not : ToDo) → NextStep
  jumps : (after : ToDo) → NextStep

-- "`if` is one test before its body; with `else` there is also a jump after the first body; `while` is a test before and a jump back after." "A test or jump
-- counts one step in the dialect's own meaning"; `end` alone is none: an empty block is passed over.
unfoldable pub next_step : ToDo → NextStep
next_step nothing = stops
next_step (block empty k) = next_step k
next_step (block (own c b) k) = obeys c (block b k)
next_step (block (if_only v a b) k) = tests v (block b k) (block a (block b k))
next_step (block (if_else v a o b) k) = tests v (block o (block b k)) (block a (jump (block b k)))
next_step (block (while v a b) k) = tests v (block b k) (block a (jump (block (while v a b) k)))
next_step (jump k) = jumps k

-- what a command leaves to do: `stop` is to "go to the end", from any depth; no command of the dialect goes elsewhere
abbrev pub left_behind : Way → ToDo → ToDo
left_behind ahead k = k
left_behind at_end k = nothing
left_behind elsewhere k = k

-- ---- A run

-- What is left to do; the execution with its variables and fields, and the message lines that it has not received, as in a plain run. (The record of an
-- execution has a place, which is 0 here and stays so: the dialect has none.)
pub record BlockState : Type 0 where
  pub left : ToDo
  pub state : PlainState

-- an execution at another place
unfoldable pub placed_at : ℕ → Process → Process
placed_at t p =
    record {
      execution = record { place = t; vars = p.execution.vars; calls = p.execution.calls; clamped = p.execution.clamped };
      fields = p.fields;
    }

-- a plain state at another place
abbrev pub state_at : ℕ → PlainState → PlainState
state_at t a = record { process = placed_at t a.process; rest = a.rest }

-- a command: its call, if it makes one, and what document 01 says of it, in a program of so many commands (which decides the place behind `stop` alone)
unfoldable pub obeyed : ℕ → ℕ → Command → PlainState → PlainState
obeyed count n c a = let b = calling (call_of c.op) n a in record { process = step count c b.process; rest = b.rest }

-- One step, where there are n keys. "A block runs while, or if, v is not 0."
abbrev pub step_by : ℕ → NextStep → PlainState → BlockState
step_by n stops a = record { left = nothing; state = a }
step_by n (obeys c k) a = record { left = left_behind (way_of c.op) k; state = state_at 0 (obeyed 0 n c a) }
step_by n (tests v k l) a = record { left = cond (is_zero (variable a.process.execution v)) k l; state = a }
step_by n (jumps k) a = record { left = k; state = a }

unfoldable pub block_step : ℕ → BlockState → BlockState
block_step n g = step_by n (next_step g.left) g.state

-- A program with its number of keys and its messages
pub record BlockJob : Type 0 where
  pub keys : ℕ
  pub program : Block
  pub messages : List (List Entry)

-- before step s: at first all of the program is left to do
unfoldable pub block_at : BlockJob → ℕ → BlockState
block_at j zero = record { left = block j.program nothing; state = record { process = fresh j.keys; rest = j.messages } }
block_at j (suc s) = block_step j.keys (block_at j s)

-- ---- What is seen of a step

-- nothing is left to do: it has stopped
abbrev pub no_step : NextStep → Bool
no_step stops = true
no_step (obeys c k) = false
no_step (tests v k l) = false
no_step (jumps k) = false

-- the call that a step makes
abbrev pub call_in : NextStep → Call
call_in stops = Neither
call_in (obeys c k) = call_of c.op
call_in (tests v k l) = Neither
call_in (jumps k) = Neither

-- whether a program has stopped before step s; whether it receives or sends there; and the entries that it receives or sends
unfoldable pub block_stopped : BlockJob → ℕ → Bool
block_stopped j s = no_step (next_step (block_at j s).left)

unfoldable pub block_call : BlockJob → ℕ → Call
block_call j s = call_in (next_step (block_at j s).left)

unfoldable pub block_entries : BlockJob → ℕ → List Entry
block_entries j s = (calling (block_call j s) j.keys (block_at j s).state).process.fields
