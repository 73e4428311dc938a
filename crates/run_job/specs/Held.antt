-- What a run holds beside its job, as the code has it, and the state of the model that this is.
use Rattle.std.specs.Prelude.{ℕ, List, drop}
use Rattle.model_run.specs.{Process.Process, Line.Sent, State.State}
use Rattle.model.specs.{Stored.held, Stored.kinds_in, Stored.job_of}
use Rattle.model.specs.declared.{Call.Call, Field.Field, Level.Level, Execution.Execution, Clock.Clock, StoredJob.StoredJob}
use Rattle.model.specs.declared.Owner.TheVariants.{A, B}
use Rattle.model.specs.declared.Level.TheVariants.{Low, High}

-- The record of each execution, the message, the kinds of the low execution's calls, how many lines are taken, the bytes written, the clock
pub record Held : Type 0 where
  pub low : Execution
  pub a : Execution
  pub b : Execution
  pub message : List Field
  pub kinds : List Call
  pub taken : ℕ
  pub bytes : ℕ
  pub clock : Clock

-- the record of a level's execution; another in its place
abbrev pub record_of : Level → Held → Execution
record_of Low h = h.low
record_of (High A) h = h.a
record_of (High B) h = h.b

abbrev pub with_record : Level → Execution → Held → Held
with_record Low x h = record { low = x; a = h.a; b = h.b; message = h.message; kinds = h.kinds; taken = h.taken; bytes = h.bytes; clock = h.clock }
with_record (High A) x h = record { low = h.low; a = x; b = h.b; message = h.message; kinds = h.kinds; taken = h.taken; bytes = h.bytes; clock = h.clock }
with_record (High B) x h = record { low = h.low; a = h.a; b = x; message = h.message; kinds = h.kinds; taken = h.taken; bytes = h.bytes; clock = h.clock }

abbrev pub with_message : List Field → Held → Held
with_message m h = record { low = h.low; a = h.a; b = h.b; message = m; kinds = h.kinds; taken = h.taken; bytes = h.bytes; clock = h.clock }

abbrev pub with_kinds : List Call → Held → Held
with_kinds ks h = record { low = h.low; a = h.a; b = h.b; message = h.message; kinds = ks; taken = h.taken; bytes = h.bytes; clock = h.clock }

abbrev pub with_taken : ℕ → Held → Held
with_taken n h = record { low = h.low; a = h.a; b = h.b; message = h.message; kinds = h.kinds; taken = n; bytes = h.bytes; clock = h.clock }

abbrev pub with_bytes : ℕ → Held → Held
with_bytes n h = record { low = h.low; a = h.a; b = h.b; message = h.message; kinds = h.kinds; taken = h.taken; bytes = n; clock = h.clock }

abbrev pub with_clock : Clock → Held → Held
with_clock c h = record { low = h.low; a = h.a; b = h.b; message = h.message; kinds = h.kinds; taken = h.taken; bytes = h.bytes; clock = c }

-- an execution with its own fields, of n keys
abbrev pub process_of : ℕ → Held → Level → Process
process_of n h l = record { execution = record_of l h; fields = held n h.message l }

-- the state, where these lines were sent: they stand in the output memory, and a run holds none of them. Of the kinds there are as many as the low execution
-- has made calls.
unfoldable pub state_of : StoredJob → List Sent → Held → State
state_of j sent h =
    record {
      processes = record { low = process_of j.keys h Low; a = process_of j.keys h (High A); b = process_of j.keys h (High B) };
      kinds = kinds_in h.low.calls h.kinds;
      incoming = record { rest = drop h.taken (job_of j).messages; taken = h.taken };
      outgoing = record { sent = sent; bytes = h.bytes };
      clock = h.clock;
    }
