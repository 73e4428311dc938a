-- Document 02, Note 2, "A high execution at the wrong call": what is claimed of its rule (`Verdict.waits`, `Run.followed`), and what it changes against
-- the rule of document 01.
use Rattle.std.specs.Prelude.{ℕ, ◌<◌, ◌≤◌, ◌≡◌, ◌≢◌, Bool, false, List, [], ◌∷◌, ◌++◌}
use Prim.Native.String.{String}
use lib.{Dec.leb, IntN.pos, ListN.length}
use Rattle.model.specs.{Text.bytes, Command.blank, Job.Job, Sheet.accepted, Sheet.read_sheet, Execution.kinds_by}
use Rattle.model_run.specs.{Step.call_of, Process.Process, Process.step, Process.command, Process.stopped, State.follows, State.role, State.leader, State.State}
use Rattle.model_run.specs.{State.process, Line.bytes_of, Verdict.kind_at, Run.unless_idle, Run.followed, Run.Rule, Run.following, Run.after_turns, Run.state_after}
use Rattle.model_run.specs.{Run.low_turns_of, Run.ended, Run.run_job_by, Run.run_job, Whole.left_by, Whole.run_sheet, Secrecy.Whose, Secrecy.of, Secrecy.both, Secrecy.Among, Secrecy.Indistinguishable, Examples.Example}
use Rattle.model_run.specs.{Examples.prints, Examples.lent_by_runsheet}
use Rattle.model_run.specs.Data.{Number, Key, Open, Secret, Set, Read, Put, IfZero, Jump, Receive, Send, Command, Call, Neither, Receives, Sends, Level, Low}
use Rattle.model_run.specs.Data.{High, Owner, A, B, Ending}

-- ---- "the j-th high call moves on only if the j-th low call has been made and was of the same kind"

-- The low call of the same number as the one at which an execution stands has been made, and was of the same kind
pub record SameKind (cs : List Command) (kinds : List Call) (p : Process) : Type 0 where
  pub made : p.execution.calls < length kinds
  pub kind : kind_at kinds p.execution.calls ≡ call_of (command cs p).op

-- An execution that follows moves on from a call only if it is so; and if it is so, and it has not stopped, it does
pub record MovesOn (cs : List Command) (kinds : List Call) (p : Process) : Type 0 where
  pub only : call_of (command cs p).op ≢ Neither → followed cs kinds p ≢ p → SameKind cs kinds p
  pub moves : stopped cs p ≡ false → SameKind cs kinds p → followed cs kinds p ≡ step (length cs) (command cs p) p

abbrev pub AlwaysMovesOn : Type 0
AlwaysMovesOn = (cs : List Command) (kinds : List Call) (p : Process) → MovesOn cs kinds p

-- The calls in these turns of an execution, in their order: those of the commands at which it stood
unfoldable pub calls_in : List Command → List Process → List Call
calls_in cs [] = []
calls_in cs (p ∷ ps) = kinds_by (call_of (command cs p).op) ++ calls_in cs ps

-- The kinds in the state are those of all low calls, at every time of a run; and as many as the low execution counts
pub record KindsKept (j : Job) (n : ℕ) : Type 0 where
  pub kinds : (state_after j n).kinds ≡ calls_in j.commands (low_turns_of j n)
  pub count : length (state_after j n).kinds ≡ (process leader (state_after j n)).execution.calls

abbrev pub AlwaysKept : Type 0
AlwaysKept = (j : Job) (n : ℕ) → KindsKept j n

-- ---- "If the kinds differ, the high execution idles for the rest of the run."

-- The low call of the same number has been made, and was of the other kind
pub record OtherKind (cs : List Command) (kinds : List Call) (p : Process) : Type 0 where
  pub call : call_of (command cs p).op ≢ Neither
  pub made : p.execution.calls < length kinds
  pub other : kind_at kinds p.execution.calls ≢ call_of (command cs p).op

-- From any state, whatever letters follow: an execution at a call of the other kind has the record that it had, and its place with it. No flag says so.
abbrev pub IdlesOn : Type 0
IdlesOn =
    (ks : List Key) (cs : List Command) (l : Level) → role l ≡ follows → (s : State) → OtherKind cs s.kinds (process l s)
    → (ls : List Level) → (process l (after_turns ks cs ls s)).execution ≡ (process l s).execution

-- A whole run: it ends in the state after the letters that it used, and from any time at which an execution is at a call of the other kind to that end its
-- record is the same.
pub record RestOfTheRun (j : Job) (lent : ℕ) : Type 0 where
  pub ending : Ending
  pub outcome : run_job j lent ≡ ended ending (state_after j (run_job j lent).counts.positions)
  pub idles : (l : Level) → role l ≡ follows → (n : ℕ) → n ≤ (run_job j lent).counts.positions → OtherKind j.commands (state_after j n).kinds (process l (state_after j n))
      → (process l (state_after j (run_job j lent).counts.positions)).execution ≡ (process l (state_after j n)).execution

abbrev pub AlwaysIdles : Type 0
AlwaysIdles = (j : Job) (lent : ℕ) → RestOfTheRun j lent

-- ---- What the rule changes

-- Document 01's rule, in the place of which this one stands: "Its j-th call (j from 1) moves on only if the low execution has made at least j calls, of
-- either kind." So it waits where the low one has made no more calls than it has itself.
unfoldable pub waits_before : Call → ℕ → ℕ → Bool
waits_before Neither low own = false
waits_before Receives low own = leb low own
waits_before Sends low own = leb low own

unfoldable pub following_before : Rule
following_before cs l s =
    let p = process l s in
    unless_idle cs (waits_before (call_of (command cs p).op) (process leader s).execution.calls p.execution.calls) p

-- a rule for the executions of these owners, beside this one for that of the other
unfoldable pub only : Whose → Rule → Rule
only (of A) f cs Low s = following cs Low s
only (of A) f cs (High A) s = f cs (High A) s
only (of A) f cs (High B) s = following cs (High B) s
only (of B) f cs Low s = following cs Low s
only (of B) f cs (High A) s = following cs (High A) s
only (of B) f cs (High B) s = f cs (High B) s
only both f cs l s = f cs l s

-- so that the rule is that of their turns, and of no others
abbrev pub OnlyTheirs : Type 0
OnlyTheirs =
    (o : Whose) (f : Rule) (cs : List Command) (w : Owner) (s : State)
    → (Among o w → only o f cs (High w) s ≡ f cs (High w) s) × (¬ Among o w → only o f cs (High w) s ≡ following cs (High w) s)

-- By whatever rule the execution of an owner goes, document 01's or any other, a run leaves the seven numbers and
-- every byte outside that owner's columns that it leaves by this one; and by whatever rule both go, every byte
-- outside the secret columns. Of jobs, and of accepted sheets as texts. (A refused sheet is not run.)
abbrev pub OnlySecretColumns : Type 0
OnlySecretColumns =
    (o : Whose) (f : Rule) (j : Job) (m : List ℕ) → Indistinguishable o j.keys (left_by m (run_job j (length m))) (left_by m (run_job_by (only o f) j (length m)))

abbrev pub OnlySecretColumnsOfSheets : Type 0
OnlySecretColumnsOfSheets =
    (o : Whose) (f : Rule) (s : List ℕ) (j : Job) (m : List ℕ) → read_sheet s ≡ accepted j
    → Indistinguishable o j.keys (run_sheet s m) (left_by m (run_job_by (only o f) j (length m)))

-- ---- The maker's sheet

-- "A maker's program did its second high call as a `send` where the low one had received.": the low execution reads the dummy 0 and goes to the second
-- `receive`, the high one reads 1 and goes on to this word. Then what follows `turns=`.
unfoldable pub sheet_with : String → String → List ℕ
sheet_with word t =
    bytes "sheet=1\nkeys=2\nsecret=1:0\ndo=receive\ndo=read 0 1\ndo=ifzero 0 5\ndo="
    ++ (bytes word ++ (bytes "\ndo=jump 6\ndo=receive\ndo=set 2 7\ndo=put 1 2\ndo=send\nmsg=0:1,1:1\nmsg=0:2,1:2\nturns=" ++ (bytes t ++ bytes "\n")))

abbrev pub sheet_wrong : List ℕ
sheet_wrong = sheet_with "send" "LHLHLHLHHHHLLL"

abbrev pub job_wrong : Job
job_wrong =
    record {
      form = 1;
      keys = Open ∷ Secret A (pos 0) ∷ [];
      commands =
          blank Receive ∷ record { op = Read; v = 0; w = 0; k = 1; t = 0; n = pos 0 } ∷ record { op = IfZero; v = 0; w = 0; k = 0; t = 5; n = pos 0 } ∷ blank Send
          ∷ record { op = Jump; v = 0; w = 0; k = 0; t = 6; n = pos 0 } ∷ blank Receive ∷ record { op = Set; v = 2; w = 0; k = 0; t = 0; n = pos 7 }
          ∷ record { op = Put; v = 2; w = 0; k = 1; t = 0; n = pos 0 } ∷ blank Send ∷ [];
      messages = (Number (pos 1) ∷ Number (pos 1) ∷ []) ∷ (Number (pos 2) ∷ Number (pos 2) ∷ []) ∷ [];
      turns = Low ∷ High A ∷ Low ∷ High A ∷ Low ∷ High A ∷ Low ∷ High A ∷ High A ∷ High A ∷ High A ∷ Low ∷ Low ∷ Low ∷ [];
    }

-- "It moved on and worked on a message it had never asked for.": by document 01's rule it put its 7 into the second message, whose entry is 2. Now it is at a
-- call of the other kind after 7 letters, and at the end of the run, after 14, in the place where it was, which is command 3. The numbers are the same.
pub record MakersSheet : Type 0 where
  pub accepts : read_sheet sheet_wrong ≡ accepted job_wrong
  pub before : bytes_of (run_job_by following_before job_wrong lent_by_runsheet).lines ≡ bytes "sent=0013 +0000000002 +0000000007\n"
  pub now : bytes_of (run_job job_wrong lent_by_runsheet).lines ≡ bytes "sent=0013 +0000000002 +0000000002\n"
  pub ending : (run_job job_wrong lent_by_runsheet).ending ≡ (run_job_by following_before job_wrong lent_by_runsheet).ending
  pub counts : (run_job job_wrong lent_by_runsheet).counts ≡ (run_job_by following_before job_wrong lent_by_runsheet).counts
  pub other : OtherKind job_wrong.commands (state_after job_wrong 7).kinds (process (High A) (state_after job_wrong 7))
  pub place : (process (High A) (state_after job_wrong 14)).execution.place ≡ 3

-- The whole texts: the maker's sheet; where both receive, the high execution moves on as before; where it would start late, the run has ended. Then two where
-- it moves on and puts its number: both send as their second call; and its first call is held to the first low one, though the last one was a `send`.
unfoldable pub examples : List Example
examples =
    prints sheet_wrong lent_by_runsheet "sent=0013 +0000000002 +0000000002\nend=0 0 14 7 34 2 0\n"
    ∷ prints (sheet_with "receive" "LHLHLHLHHHHLLL") lent_by_runsheet "sent=0013 +0000000002 +0000000007\nend=0 0 14 7 34 2 0\n"
    ∷ prints (sheet_with "send" "LLLLLLLHHHHHHHH") lent_by_runsheet "sent=0006 +0000000002 +0000000002\nend=0 0 7 7 34 2 0\n"
    ∷ prints (bytes "sheet=1\nkeys=1\nsecret=0:0\ndo=receive\ndo=send\ndo=set 0 5\ndo=put 0 0\ndo=send\nmsg=0:1\nturns=LHLHHHLLL\n") lent_by_runsheet
    "sent=0002 +0000000001\nsent=0008 +0000000005\nend=0 0 9 5 44 1 0\n"
    ∷ prints (bytes "sheet=1\nkeys=1\nsecret=0:0\ndo=receive\ndo=set 0 4\ndo=put 0 0\ndo=send\ndo=send\nmsg=0:9\nturns=LLLLHHHL\n") lent_by_runsheet
    "sent=0003 +0000000009\nsent=0007 +0000000004\nend=0 0 8 5 44 1 0\n"
    ∷ []
