-- Document 02, Note 8, "Two owners of secrets": what is claimed of its runs beside demand 3, apart from the
-- definitions; examples, computed from the text of the sheet; and sheets of which demand 3 speaks for B and for both
-- owners.
use Rattle.std.specs.Prelude.{ℕ, ◌<◌, ◌≤◌, ◌≡◌, ◌≢◌, ◌⊎◌, List, [], ◌∷◌, ◌++◌}
use Prim.Native.String.{String}
use lib.{IntN.ℤ, ListN.get_or, ListN.length, ListN.replicate}
use Rattle.model.specs.{Text.bytes, Job.Job, Sheet.accepted, Sheet.read_sheet, Answer.numbers_of, Answer.bytes_written, Accepted.Every, SheetTwo.with_messages, SheetTwo.sheet_two, SheetTwo.rounds}
use Rattle.model.specs.{SheetTwo.keys_two, SheetTwo.sheet_both, SheetTwo.sheet_less, SheetTwo.sheet_other, SheetTwo.job_both, SheetTwo.job_less, SheetTwo.job_other}
use Rattle.model_run.specs.{Process.Process, Line.Sent, State.State, State.process, State.with_process, Message.receive, Message.line_now, Run.initial, Run.run}
use Rattle.model_run.specs.{Run.run_job, Whole.run_sheet, Secrecy.Whose, Secrecy.of, Secrecy.both, Secrecy.OwnedBy, Secrecy.Alike, Secrecy.Hidden, Secrecy.Indistinguishable}
use Rattle.model_run.specs.{Examples.Example, Examples.prints, Examples.lent_by_runsheet}
use Rattle.model_run.specs.Data.{Entry, Absent, Number, Key, Open, Secret, Owner, A, B, Level, Low, High}

-- ---- "At each message line A's sees A's entries and B's dummies, whether or not the line has those keys, and B's
-- the reverse"

-- what the execution of a level has at key k
abbrev pub field_at : Level → ℕ → State → Entry
field_at l k s = get_or (process l s).fields k Absent

-- At key k of a line with the entries es: at an open key every execution sees the entry, or that there is none; at a
-- secret key its owner's does, and the two others the dummy.
pub record Sees (ks : List Key) (es : List Entry) (k : ℕ) (s : State) : Type 0 where
  pub at_open : get_or ks k Open ≡ Open → (l : Level) → field_at l k s ≡ get_or es k Absent
  pub at_own : (o : Owner) (d : ℤ) → get_or ks k Open ≡ Secret o d → field_at (High o) k s ≡ get_or es k Absent
  pub at_others : (o : Owner) (d : ℤ) → get_or ks k Open ≡ Secret o d → (l : Level) → l ≢ High o → field_at l k s ≡ Number d

abbrev pub AlwaysSees : Type 0
AlwaysSees = (ks : List Key) (s : State) (es : List Entry) (rest : List (List Entry)) → s.incoming.rest ≡ es ∷ rest → (k : ℕ) → k < length ks → Sees ks es k (receive ks s)

-- "with no line left every field becomes absent, as before"
abbrev pub NoLineLeft : Type 0
NoLineLeft = (ks : List Key) (s : State) → s.incoming.rest ≡ [] → (l : Level) (k : ℕ) → field_at l k (receive ks s) ≡ Absent

-- ---- "A secret column comes from its owner's execution."

pub record Shows (ks : List Key) (k : ℕ) (s : State) (line : Sent) : Type 0 where
  pub at_open : get_or ks k Open ≡ Open → get_or line.columns k Absent ≡ field_at Low k s
  pub at_secret : (o : Owner) (d : ℤ) → get_or ks k Open ≡ Secret o d → get_or line.columns k Absent ≡ field_at (High o) k s

abbrev pub AlwaysShows : Type 0
AlwaysShows = (ks : List Key) (s : State) (k : ℕ) → k < length ks → Shows ks k s (line_now ks s)

-- ---- "`sheet=1` runs as before"

-- A run does not look at the form of its job
abbrev pub of_form : ℕ → Job → Job
of_form n j = record { form = n; keys = j.keys; commands = j.commands; messages = j.messages; turns = j.turns }

abbrev pub RunsAlike : Type 0
RunsAlike = (n : ℕ) (j : Job) (lent : ℕ) → run_job (of_form n j) lent ≡ run_job j lent

-- The execution of an owner who has no key is not looked at, whatever stands in its place
abbrev pub NotLookedAt : Type 0
NotLookedAt =
    (o : Owner) (j : Job) (lent : ℕ) (p : Process) → Every (λ (k : Key). ¬ OwnedBy (of o) k) j.keys
    → run j.keys j.commands lent (with_process (High o) p (initial j.keys j.messages)) j.turns ≡ run_job j lent

-- In the first form all secrets are one owner's: so B's execution is not looked at, and what demand 3 says of both
-- owners it says of the one
abbrev pub OneOwner : Type 0
OneOwner = (s : List ℕ) (j : Job) → read_sheet s ≡ accepted j → j.form ≡ 1 → Every (λ (k : Key). ¬ OwnedBy (of B) k × (OwnedBy both k → OwnedBy (of A) k)) j.keys

-- ---- The examples

-- two keys, one of each owner, both with the dummy 1: these commands, and what follows `msg=` and `turns=`
unfoldable pub sheet_apart : String → String → String → List ℕ
sheet_apart cs m t = bytes "sheet=2\nkeys=2\nsecret=0:1:A\nsecret=1:1:B\n" ++ (bytes cs ++ (bytes "msg=" ++ (bytes m ++ (bytes "\nturns=" ++ (bytes t ++ bytes "\n")))))

-- A, whose entry is 0, leaves out the `send` that B and the low execution make. A is the first to make its second
-- call; B's second call is held to the low one's second all the same, whatever A counts: so B puts its 9, too. At the
-- last `send` all three are at another place.
unfoldable pub ahead : List ℕ
ahead = sheet_apart "do=receive\ndo=read 0 0\ndo=ifzero 0 4\ndo=send\ndo=set 1 9\ndo=put 0 1\ndo=put 1 1\ndo=send\n" "0:0,1:5" "LABLLLAAAAAABBBBBBLLLL"

-- A's second call is a `receive`, where the low one sent: A idles for the rest of the run, and B goes on.
unfoldable pub wrong_call : List ℕ
wrong_call =
    sheet_apart "do=receive\ndo=read 0 0\ndo=ifzero 0 5\ndo=send\ndo=jump 6\ndo=receive\ndo=set 2 7\ndo=put 0 2\ndo=put 1 2\ndo=send\n" "0:0,1:5"
    "LABLABLABLABLABLABLABLABLAB"

-- A and B each have a clamped result, and the low execution none
unfoldable pub clamped_high : List ℕ
clamped_high = sheet_apart "do=receive\ndo=read 0 0\ndo=read 1 1\ndo=mul 0 0\ndo=mul 1 1\ndo=send\n" "0:2147483647,1:-2147483648" "LABLABLABLABLABLAB"

-- A's column is 10 + 400, B's 300 + 20. Only B's entry differs: only B's column does; and likewise A's. A line that
-- lacks A's key shows A's dummy to B all the same; with no line left every field is absent, the dummies too. A memory
-- that lacks a byte. An owner without turns has its entry as it came; one owner of both keys; more letters of the
-- owners than they can use.
unfoldable pub examples : List Example
examples =
    prints sheet_both lent_by_runsheet "sent=0018 +0000000007 +0000000410 +0000000320\nend=0 0 19 7 46 1 0\n"
    ∷ prints sheet_less lent_by_runsheet "sent=0018 +0000000007 +0000000410 +0000000300\nend=0 0 19 7 46 1 0\n"
    ∷ prints (with_messages "msg=0:7,1:-10,2:20\n") lent_by_runsheet "sent=0018 +0000000007 +0000000390 +0000000320\nend=0 0 19 7 46 1 0\n"
    ∷ prints sheet_other lent_by_runsheet "sent=0018 +0000000007 +0000000400 +0000000321\nend=0 0 19 7 46 1 0\n"
    ∷ prints (with_messages "") lent_by_runsheet "sent=0018 ........... +0000000000 +0000000000\nend=0 0 19 7 46 0 0\n"
    ∷ prints sheet_both 45 "end=32 0 18 6 0 1 0\n"
    ∷ prints (sheet_two "1:300:A" "msg=0:7,1:10,2:20\n" "LALALALALALALA") lent_by_runsheet "sent=0012 +0000000007 +0000000410 +0000000020\nend=0 0 13 7 46 1 0\n"
    ∷ prints (sheet_two "1:300:B" "msg=0:7,1:10,2:20\n" rounds) lent_by_runsheet "sent=0018 +0000000007 +0000000030 +0000000030\nend=0 0 19 7 46 1 0\n"
    ∷ prints (sheet_two "1:300:A" "msg=0:7,1:10,2:20\n" "AABBLAAABBB") lent_by_runsheet "end=31 0 11 1 0 1 0\n"
    ∷ prints ahead lent_by_runsheet "sent=0005 +0000000000 +0000000005\nsent=0021 +0000000009 +0000000009\nend=0 0 22 8 68 1 0\n"
    ∷ prints wrong_call lent_by_runsheet "sent=0009 +0000000000 +0000000005\nsent=0024 +0000000000 +0000000007\nend=0 0 25 9 68 1 0\n"
    ∷ prints clamped_high lent_by_runsheet "sent=0015 +2147483647 -2147483648\nend=0 0 16 6 34 1 0\n"
    ∷ []

-- ---- Demand 3 speaks of B, and of both owners

abbrev pub lent : List ℕ
lent = replicate 64 0

-- a place that lies in one of their columns of what the first of these sheets leaves, and the byte that a sheet
-- leaves at a place
abbrev pub HiddenOf : Whose → ℕ → Type 0
HiddenOf o p = Hidden o keys_two (bytes_written (numbers_of (run_sheet sheet_both lent).answer)) p

abbrev pub byte_of : List ℕ → ℕ → ℕ
byte_of s p = get_or (run_sheet s lent).memory p 0

-- Two sheets that differ in B's entry alone are accepted and alike; what they leave differs, and only in B's column,
-- the places 34 to 44. A's column, the places 22 to 32, is not among the hidden places of that claim; and they are
-- not alike to one who sees all but what A has.
pub record TellingB : Type 0 where
  pub accepts_both : read_sheet sheet_both ≡ accepted job_both
  pub accepts_less : read_sheet sheet_less ≡ accepted job_less
  pub alike : Alike (of B) job_both job_less
  pub sheets : Indistinguishable (of B) keys_two (run_sheet sheet_both lent) (run_sheet sheet_less lent)
  pub differs : byte_of sheet_both 43 ≢ byte_of sheet_less 43
  pub hidden : (p : ℕ) → 34 ≤ p → p ≤ 44 → HiddenOf (of B) p
  pub clear : (p : ℕ) → HiddenOf (of B) p → (34 ≤ p) × (p ≤ 44)
  pub apart : ¬ Indistinguishable (of A) keys_two (run_sheet sheet_both lent) (run_sheet sheet_less lent)

-- Two sheets that differ in an entry of each owner, A's missing in one: what they leave differs in both columns, and
-- in these alone. Neither owner's columns alone hold all that differs.
pub record TellingBoth : Type 0 where
  pub accepts_other : read_sheet sheet_other ≡ accepted job_other
  pub alike : Alike both job_both job_other
  pub sheets : Indistinguishable both keys_two (run_sheet sheet_both lent) (run_sheet sheet_other lent)
  pub differs_a : byte_of sheet_both 31 ≢ byte_of sheet_other 31
  pub differs_b : byte_of sheet_both 44 ≢ byte_of sheet_other 44
  pub hidden_a : (p : ℕ) → 22 ≤ p → p ≤ 32 → HiddenOf both p
  pub hidden_b : (p : ℕ) → 34 ≤ p → p ≤ 44 → HiddenOf both p
  pub clear : (p : ℕ) → HiddenOf both p → ((22 ≤ p) × (p ≤ 32)) ⊎ ((34 ≤ p) × (p ≤ 44))
  pub not_a : ¬ Indistinguishable (of A) keys_two (run_sheet sheet_both lent) (run_sheet sheet_other lent)
  pub not_b : ¬ Indistinguishable (of B) keys_two (run_sheet sheet_both lent) (run_sheet sheet_other lent)
