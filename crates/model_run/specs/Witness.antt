-- The claims are not empty: two sheets of document 01 to which demand 3 applies and that it does not make equal, and runs that reach the bounds of
-- their counts.
use Rattle.std.specs.Prelude.{ℕ, suc, ◌≤◌, ◌≡◌, ◌≢◌, List, [], ◌∷◌}
use lib.{IntN.pos, IntN.negsuc, ListN.length, ListN.get_or, ListN.replicate}
use Rattle.model.specs.{Job.Job, Sheet.accepted, Sheet.read_sheet, Answer.numbers_of, Answer.bytes_written, Accepted.Bare, SheetA.sheet_a}
use Rattle.model_run.specs.{Run.run_job, Whole.left_by, Whole.run_sheet, Secrecy.of, Secrecy.Alike, Secrecy.Hidden, Secrecy.Indistinguishable, Examples.lent_by_runsheet}
use Rattle.model_run.specs.Data.{Absent, Number, Open, Set, Add, Stop, Low, High, A}
use Rattle.model.specs.SheetA.{keys_a, job_a, ten, job1}

-- ---- Demand 3

-- P2 and P3, and sheet A with another number at its open key
abbrev pub sheet2 : List ℕ
sheet2 = sheet_a "0:1500,1:-7" "LHLHLHLHLH"

abbrev pub sheet3 : List ℕ
sheet3 = sheet_a "0:1500" "LHLHLHLHLH"

abbrev pub other_sheet : List ℕ
other_sheet = sheet_a "0:1501,1:-7" "LHLHLHLHLH"

abbrev pub job2 : Job
job2 = job_a (Number (negsuc 6)) ten

abbrev pub job3 : Job
job3 = job_a Absent ten

-- a memory that one line does not fill
abbrev pub lent : List ℕ
lent = replicate 64 0

-- a place that lies in a secret column of what P2 leaves
abbrev pub HiddenAt : ℕ → Type 0
HiddenAt p = Hidden (of A) keys_a (bytes_written (numbers_of (run_sheet sheet2 lent).answer)) p

-- P2 and P3 are accepted, alike and not equal, so that demand 3 speaks of them, over jobs and over sheets. Their seven numbers are equal, and yet
-- their outputs differ, at place 22, the sign in the secret column. The places 22 to 32 are hidden, which are that column, and no others: none in
-- the open column, and none behind the bytes written. And demand 3 shuts something out: it would be false of a sheet with another open entry.
pub record Telling : Type 0 where
  pub accepts2 : read_sheet sheet2 ≡ accepted job2
  pub accepts3 : read_sheet sheet3 ≡ accepted job3
  pub alike : Alike (of A) job2 job3
  pub unequal : job2 ≢ job3
  pub jobs : Indistinguishable (of A) keys_a (left_by lent (run_job job2 (length lent))) (left_by lent (run_job job3 (length lent)))
  pub sheets : Indistinguishable (of A) keys_a (run_sheet sheet2 lent) (run_sheet sheet3 lent)
  pub numbers : numbers_of (run_sheet sheet2 lent).answer ≡ numbers_of (run_sheet sheet3 lent).answer
  pub differs : get_or (run_sheet sheet2 lent).memory 22 0 ≢ get_or (run_sheet sheet3 lent).memory 22 0
  pub hidden : (p : ℕ) → 22 ≤ p → p ≤ 32 → HiddenAt p
  pub clear : (p : ℕ) → HiddenAt p → (22 ≤ p) × (p ≤ 32)
  pub apart : ¬ Indistinguishable (of A) keys_a (run_sheet sheet2 lent) (run_sheet other_sheet lent)

-- ---- Counts

abbrev pub job4 : Job
job4 = job_a (Number (pos 1480)) (Low ∷ High A ∷ Low ∷ High A ∷ [])

-- two low steps, of which the second doubles the greatest number
abbrev pub job_doubled : Job
job_doubled =
    record {
      form = 1;
      keys = Open ∷ [];
      commands = record { op = Set; v = 0; w = 0; k = 0; t = 0; n = pos 2147483647 } ∷ record { op = Add; v = 0; w = 0; k = 0; t = 0; n = pos 0 } ∷ [];
      messages = [];
      turns = Low ∷ Low ∷ [];
    }

-- The bounds of `Counted` are reached: P4 uses every letter, P7 with 34 bytes lent fills them, P1 takes every message. The clamped results come as near to the low
-- steps as they can: the first command of a run has none, since all variables are 0 then, and here the other has one.
pub record BoundsReached : Type 0 where
  pub accepts1 : read_sheet (sheet_a "0:1500,1:1480" "LHLHLHLHLH") ≡ accepted job1
  pub accepts4 : read_sheet (sheet_a "0:1500,1:1480" "LHLH") ≡ accepted job4
  pub positions : (run_job job4 lent_by_runsheet).counts.positions ≡ length job4.turns
  pub room : (run_job job1 34).counts.bytes ≡ 34
  pub taken : (run_job job1 lent_by_runsheet).counts.taken ≡ length job1.messages
  pub clamped : (run_job job_doubled lent_by_runsheet).counts.steps ≡ suc (run_job job_doubled lent_by_runsheet).counts.clamped
  pub some : (run_job job_doubled lent_by_runsheet).counts.clamped ≡ 1

-- ---- Commands

-- `Bare` says something: `stop` with a target is not bare.
abbrev pub StopHasNoTarget : Type 0
StopHasNoTarget = ¬ Bare (record { op = Stop; v = 0; w = 0; k = 0; t = 1; n = pos 0 })
