-- The paired model: the executions and the one message that they share, turn by turn, to the run's ending.
use Rattle.std.specs.Prelude.{List, [], ◌∷◌, ℕ, Bool, cond, length, take}
use Rattle.model_run.specs.{Process.Process, Process.fresh, Process.step, Process.command, Process.stopped, Line.Sent, State.Role, State.leads, State.follows}
use Rattle.model_run.specs.{State.role, State.leader, State.started, State.ticked, State.State, State.process, State.with_process, State.with_clock, State.noted}
use Rattle.model_run.specs.{Message.receive, Message.send, Step.call_of, Verdict.Verdict, Verdict.GoesOn, Verdict.Ends, Verdict.verdict, Verdict.kind_at}
use Rattle.model_run.specs.{Verdict.waits, Verdict.idles}
use Rattle.model.specs.{Job.Job}
use Rattle.model_run.specs.Data.{Entry, Key, Command, Call, Neither, Receives, Sends, Level, Ending, LettersUsed, Counts}

-- ---- Turns

-- what a call of the leader does to the message and the output; its kind is kept
unfoldable pub share : Call → List Key → State → State
share Neither ks s = s
share Receives ks s = noted Receives (receive ks s)
share Sends ks s = noted Sends (send ks s)

-- *L turn.* "The low execution does its command."
unfoldable pub lead : List Key → ℕ → Command → State → State
lead ks n c s = let t = share (call_of c.op) ks s in with_process leader (step n c (process leader t)) t

-- whether an execution waits at its command, where the leader's calls were of these kinds: one that has passed c calls is at its call number c, counted from 0
unfoldable pub waits_at : List Command → List Call → Process → Bool
waits_at cs kinds p = waits (call_of (command cs p).op) (kind_at kinds p.execution.calls)

-- *H turn.* "The high execution does its command. A `receive` or `send` of its own has no effect but to move it on."; or else the turn passes idle
abbrev pub unless_idle : List Command → Bool → Process → Process
unless_idle cs waiting p = cond (idles (stopped cs p) waiting) p (step (length cs) (command cs p) p)

-- by Note 2's rule: idle where it has stopped or waits
unfoldable pub followed : List Command → List Call → Process → Process
followed cs kinds p = unless_idle cs (waits_at cs kinds p) p

-- A rule for the executions that follow: what the turn of a level makes of its process, from the state before it. By its type it changes nothing else.
abbrev pub Rule : Type 0
Rule = List Command → Level → State → Process

-- the rule by which every run goes, that of document 02's Note 2
abbrev pub following : Rule
following cs l s = followed cs s.kinds (process l s)

-- by the role of the level whose turn it is, and a rule for those that follow
abbrev pub moved : Rule → Role → List Key → List Command → Level → State → State
moved f leads ks cs l s = lead ks (length cs) (command cs (process leader s)) s
moved f follows ks cs l s = with_process l (f cs l s) s

-- the clock goes on
abbrev pub counted : Level → State → State
counted l s = with_clock (ticked l s.clock) s

unfoldable pub turn_by : Rule → List Key → List Command → Level → State → State
turn_by f ks cs l s = counted l (moved f (role l) ks cs l s)

-- the turn of a level, and below the run, by that rule
abbrev pub turn : List Key → List Command → Level → State → State
turn ks cs l s = turn_by following ks cs l s

-- ---- The whole run

-- What a run comes to: its ending, what it counted, and the lines sent
pub record Outcome : Type 0 where
  pub ending : Ending
  pub counts : Counts
  pub lines : List Sent

-- what the answer counts of a state; Note 3: "the clamped results of the low execution alone"
abbrev pub counts_of : State → Counts
counts_of s =
    record {
      positions = s.clock.positions;
      steps = s.clock.steps;
      bytes = s.outgoing.bytes;
      taken = s.incoming.taken;
      clamped = (process leader s).execution.clamped;
    }

unfoldable pub ended : Ending → State → Outcome
ended e s = record { ending = e; counts = counts_of s; lines = s.outgoing.sent }

-- an ending, or else what the rest of the run comes to
abbrev pub settle : Verdict → State → Outcome → Outcome
settle (Ends e) s o = ended e s
settle GoesOn s o = o

-- "Letters of `turns` are used one by one". Where none is left the verdict is an ending.
unfoldable pub run_by : Rule → List Key → List Command → ℕ → State → List Level → Outcome
run_by f ks cs room s [] = settle (verdict ks cs room [] s) s (ended LettersUsed s)
run_by f ks cs room s (l ∷ ls) = let o = run_by f ks cs room (turn_by f ks cs l s) ls in settle (verdict ks cs room (l ∷ ls) s) s o

abbrev pub run : List Key → List Command → ℕ → State → List Level → Outcome
run ks cs room s ls = run_by following ks cs room s ls

-- the model's first state
unfoldable pub initial : List Key → List (List Entry) → State
initial ks ms =
    record {
      processes = record { low = fresh (length ks); a = fresh (length ks); b = fresh (length ks) };
      kinds = [];
      incoming = record { rest = ms; taken = 0 };
      outgoing = record { sent = []; bytes = 0 };
      clock = started;
    }

-- the state after the turns of these letters
unfoldable pub after_turns : List Key → List Command → List Level → State → State
after_turns ks cs [] s = s
after_turns ks cs (l ∷ ls) s = after_turns ks cs ls (turn ks cs l s)

-- the low execution as it stood before each of its own turns, of the turns of these letters in their order
abbrev pub low_first : Role → Process → List Process → List Process
low_first leads p ps = p ∷ ps
low_first follows p ps = ps

unfoldable pub low_turns : List Key → List Command → List Level → State → List Process
low_turns ks cs [] s = []
low_turns ks cs (l ∷ ls) s = low_first (role l) (process leader s) (low_turns ks cs ls (turn ks cs l s))

-- the state of a job's run after its first n letters, and the low execution's turns among them
abbrev pub state_after : Job → ℕ → State
state_after j n = after_turns j.keys j.commands (take n j.turns) (initial j.keys j.messages)

abbrev pub low_turns_of : Job → ℕ → List Process
low_turns_of j n = low_turns j.keys j.commands (take n j.turns) (initial j.keys j.messages)

unfoldable pub run_job_by : Rule → Job → ℕ → Outcome
run_job_by f j room = run_by f j.keys j.commands room (initial j.keys j.messages) j.turns

abbrev pub run_job : Job → ℕ → Outcome
run_job j room = run_job_by following j room
