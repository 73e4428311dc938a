-- The state of a run: the executions, each with its own fields of the one message, the kinds of the calls made, what
-- came in, what went out, and the clock.
use Rattle.std.specs.Prelude.{List, [], ◌∷◌, ◌++◌, ℕ, ◌+◌}
use Rattle.model_run.specs.{Process.Process, Line.Sent}
use Rattle.model_run.specs.Data.{Entry, Call, Level, Low, High, A, B, Clock}

-- ---- The levels

-- One level leads, the others follow: only its calls change the message and the output, and its steps are the low steps.
pub data Role : Type 0 where
  leads : Role
  follows : Role

-- Document 02, Note 8: "Each waits for the low one as the high one did."
abbrev pub role : Level → Role
role Low = leads
role (High o) = follows

abbrev pub leader : Level
leader = Low

-- The executions, one for each level. "There are three executions."; in a sheet of the first form B's has no turn and
-- no key.
pub record Processes : Type 0 where
  pub low : Process
  pub a : Process
  pub b : Process

-- the process of a level; another in its place; a change of each
unfoldable pub at : Level → Processes → Process
at Low ps = ps.low
at (High A) ps = ps.a
at (High B) ps = ps.b

unfoldable pub put : Level → Process → Processes → Processes
put Low p ps = record { low = p; a = ps.a; b = ps.b }
put (High A) p ps = record { low = ps.low; a = p; b = ps.b }
put (High B) p ps = record { low = ps.low; a = ps.a; b = p }

unfoldable pub each : (Level → Process → Process) → Processes → Processes
each f ps = record { low = f Low ps.low; a = f (High A) ps.a; b = f (High B) ps.b }

-- ---- What is common to the executions

-- What came in: the message lines not yet taken, and how many are taken
pub record Incoming : Type 0 where
  pub rest : List (List Entry)
  pub taken : ℕ

-- What went out: the lines sent, and the bytes written
pub record Outgoing : Type 0 where
  pub sent : List Sent
  pub bytes : ℕ

-- The next line is taken, where there is one. "Messages taken counts lines, so a `receive` with none left adds nothing."
abbrev pub taken_of : List (List Entry) → ℕ → Incoming
taken_of [] n = record { rest = []; taken = n }
taken_of (line ∷ rest) n = record { rest = rest; taken = n + 1 }

unfoldable pub takes : Incoming → Incoming
takes i = taken_of i.rest i.taken

-- a line of so many bytes is sent
unfoldable pub sends : Sent → ℕ → Outgoing → Outgoing
sends l n o = record { sent = o.sent ++ (l ∷ []); bytes = o.bytes + n }

-- the clock at first
abbrev pub started : Clock
started = record { positions = 0; steps = 0 }

-- the low steps of a turn
abbrev pub steps_by : Role → ℕ
steps_by leads = 1
steps_by follows = 0

-- "Positions used counts the letters whose turns were taken, idle ones included": after a turn of a level
abbrev pub ticked : Level → Clock → Clock
ticked l c = record { positions = c.positions + 1; steps = c.steps + steps_by (role l) }

-- ---- The state of a run

-- Beside the parts above, the kinds of the calls that the leader has made, in their order: "the j-th low call" stands at place j - 1. All are kept, since
-- an execution that follows may be any number of calls behind.
pub record State : Type 0 where
  pub processes : Processes
  pub kinds : List Call
  pub incoming : Incoming
  pub outgoing : Outgoing
  pub clock : Clock

abbrev pub process : Level → State → Process
process l s = at l s.processes

abbrev pub fields_of : State → Level → List Entry
fields_of s l = (process l s).fields

-- one part of the state changed, and the others as they were
abbrev pub with_process : Level → Process → State → State
with_process l p s = record { processes = put l p s.processes; kinds = s.kinds; incoming = s.incoming; outgoing = s.outgoing; clock = s.clock }

abbrev pub with_outgoing : Outgoing → State → State
with_outgoing o s = record { processes = s.processes; kinds = s.kinds; incoming = s.incoming; outgoing = o; clock = s.clock }

abbrev pub with_clock : Clock → State → State
with_clock c s = record { processes = s.processes; kinds = s.kinds; incoming = s.incoming; outgoing = s.outgoing; clock = c }

-- one call more of the leader, of this kind
unfoldable pub noted : Call → State → State
noted k s = record { processes = s.processes; kinds = s.kinds ++ (k ∷ []); incoming = s.incoming; outgoing = s.outgoing; clock = s.clock }
