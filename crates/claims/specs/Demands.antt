-- The three demands, Note 3's number and Note 4's claim, of what the C entry returns and leaves; a call is stated by the contract that the entry is proved to meet.
use Rattle.std.specs.Prelude.{ℕ, ◌+◌, ◌≡◌, ◌≢◌, List, [], ◌∷◌, ◌++◌, length, get_or, take, drop, replicate}
use Rattle.model.specs.{Answer.After, Answer.numbers_of, Answer.le32, Answer.all_le32, Answer.bytes_for, Answer.answer_bytes, Job.Job, Sheet.accepted, Sheet.read_sheet}
use Rattle.model.specs.{Text.bytes, SheetTwo.sheet_both, SheetTwo.sheet_less, SheetTwo.sheet_other, SheetTwo.job_both, SheetTwo.job_less, SheetTwo.job_other}
use Rattle.model_run.specs.{Whole.run_sheet, Whole.run_entry, Line.bytes_of, Run.run_job, Secrecy.Whose, Secrecy.of, Secrecy.both, Secrecy.Alike, Secrecy.Hidden, Witness.sheet2, Witness.sheet3, Witness.other_sheet}
use Rattle.model_run.specs.{Witness.job2, Witness.job3, Run.low_turns_of, Clamped.clamped_in, Witness.lent, Honest.times_lh, Honest.Honest, Honest.plain_lines}
use Rattle.model_run.specs.{Honest.HoldsLines}
use Rattle.model_run.specs.HonestExamples.{job, doubles, lines_honest}
use Rattle.model.specs.Sheet as Sheet
use Rattle.model.specs.declared.{Owner.TheVariants.A, Owner.TheVariants.B}
use Rattle.model.specs.RunAnswer.{Refused}
use Rattle.model_entry.specs.Entry.{Answered}

-- A call with an answer memory of 28 bytes
pub record Called (sheet output answer : List ℕ) (returned : ℕ) (output' answer' : List ℕ) : Type 0 where
  pub sized : length answer ≡ answer_bytes
  pub met : Answered sheet output answer returned output' answer'

-- Demand 1. After any sheet at all the output memory holds the lines sent and behind them its old bytes; a faulty sheet leaves it untouched and gets
-- exactly the number and line of document 01. (That every run ends, and that the sheet needs no looking at, is that the entry is proved with no
-- `requires`.)
pub record Demand1 (sheet output answer : List ℕ) (returned : ℕ) (output' answer' : List ℕ) : Type 0 where
  pub accepts : (j : Job) → read_sheet sheet ≡ accepted j → output' ≡ bytes_of (run_job j (length output)).lines ++ drop (length (bytes_of (run_job j (length output)).lines)) output
  pub refuses : (n l : ℕ) → read_sheet sheet ≡ Sheet.refused n l → (output' ≡ output) × (returned ≡ n) × (answer' ≡ all_le32 (numbers_of (Refused n l)))
  pub size : length output' ≡ length output

-- Demand 2. Every answer, sent line and count equals what the paired model gives for that sheet.
pub record Demand2 (sheet output answer : List ℕ) (returned : ℕ) (output' answer' : List ℕ) : Type 0 where
  pub numbers : answer' ≡ all_le32 (numbers_of (run_sheet sheet output).answer)
  pub first : returned ≡ get_or (numbers_of (run_sheet sheet output).answer) 0 0
  pub memory : output' ≡ (run_sheet sheet output).memory

-- Demand 3, of one owner and of both. Two accepted sheets that differ in entries of their keys only give the same
-- return and answer memory, and the same output byte at every place outside their columns: where they are one
-- owner's, in the other owner's columns as well.
pub record Demand3 (w : Whose) (s t : List ℕ) (a b : Job) (output : List ℕ) (returned₁ returned₂ : ℕ) (output₁ output₂ answer₁ answer₂ : List ℕ) : Type 0 where
  pub returns : returned₁ ≡ returned₂
  pub answers : answer₁ ≡ answer₂
  pub size : length output₁ ≡ length output₂
  pub byte : (p : ℕ) → ¬ Hidden w a.keys (run_job a (length output)).counts.bytes p → get_or output₁ p 0 ≡ get_or output₂ p 0

-- Document 02, Note 3, "a seventh number": what stands behind the bytes of the six in the answer memory says how many of the low execution's turns had an exact
-- result outside the range; on a refusal 0
pub record Seventh (sheet output answer : List ℕ) (returned : ℕ) (output' answer' : List ℕ) : Type 0 where
  pub accepts : (j : Job) → read_sheet sheet ≡ accepted j → drop (bytes_for 6) answer' ≡ le32 (clamped_in j.commands (low_turns_of j (run_job j (length output)).counts.positions))
  pub refuses : (n l : ℕ) → read_sheet sheet ≡ Sheet.refused n l → drop (bytes_for 6) answer' ≡ le32 0

-- the fifth number in an answer memory, the bytes written
abbrev pub fifth : List ℕ → List ℕ
fifth a = take (bytes_for 1) (drop (bytes_for 4) a)

-- Document 02, Note 4, "Honest programs lose nothing": what the plain run of N steps on the real messages sends stands in the output memory, and behind it the old
-- bytes; and the bytes written, in the answer memory, are those lines'
pub record HonestSends (output : List ℕ) (j : Job) (N : ℕ) (output' answer' : List ℕ) : Type 0 where
  pub lines : output' ≡ bytes_of (plain_lines j N) ++ drop (length (bytes_of (plain_lines j N))) output
  pub written : fifth answer' ≡ le32 (length (bytes_of (plain_lines j N)))

abbrev pub Demand1Holds : Type 0
Demand1Holds = (s o a : List ℕ) (r : ℕ) (o' a' : List ℕ) → Called s o a r o' a' → Demand1 s o a r o' a'

abbrev pub Demand2Holds : Type 0
Demand2Holds = (s o a : List ℕ) (r : ℕ) (o' a' : List ℕ) → Called s o a r o' a' → Demand2 s o a r o' a'

abbrev pub SeventhHolds : Type 0
SeventhHolds = (s o a : List ℕ) (r : ℕ) (o' a' : List ℕ) → Called s o a r o' a' → Seventh s o a r o' a'

-- of an accepted sheet whose turns are N times LH, where the program is honest and the output memory holds all the lines
abbrev pub HonestSendsHolds : Type 0
HonestSendsHolds =
    (s o a : List ℕ) (r : ℕ) (o' a' : List ℕ) → Called s o a r o' a'
    → (j : Job) (N : ℕ) → read_sheet s ≡ accepted j → j.form ≡ 1 → j.turns ≡ times_lh N → Honest j N → HoldsLines j N (length o)
    → HonestSends o j N o' a'

abbrev pub Demand3Holds : Type 0
Demand3Holds =
    (w : Whose) (s t : List ℕ) (j k : Job) (o a₁ a₂ : List ℕ) (r₁ r₂ : ℕ) (o₁ o₂ b₁ b₂ : List ℕ)
    → read_sheet s ≡ accepted j → read_sheet t ≡ accepted k → Alike w j k
    → Called s o a₁ r₁ o₁ b₁ → Called t o a₂ r₂ o₂ b₂
    → Demand3 w s t j k o r₁ r₂ o₁ o₂ b₁ b₂

-- ---- The demands speak of something

-- an answer memory of 28 bytes; what the entry returns and leaves for a sheet, with it and an output memory; and the same with the memory `lent`
abbrev pub answer_lent : List ℕ
answer_lent = replicate answer_bytes 0

abbrev pub after_on : List ℕ → List ℕ → After
after_on o s = run_entry s o answer_lent

abbrev pub after : List ℕ → After
after s = after_on lent s

-- a call with the sheet s and the output memory o that returns and leaves just that
abbrev pub CalledOn : List ℕ → List ℕ → Type 0
CalledOn o s = Called s o answer_lent (after_on o s).returned (after_on o s).output (after_on o s).answer

-- demand 3 of calls with the sheets s and t, read as two jobs
abbrev pub Demand3Of : Whose → List ℕ → List ℕ → Job → Job → Type 0
Demand3Of w s t a b = Demand3 w s t a b lent (after s).returned (after t).returned (after s).output (after t).output (after s).answer (after t).answer

-- Calls with P2, P3 and the empty sheet are calls as the demands have them. Demand 3 holds of P2 and P3, whose outputs differ all the same, at place
-- 22 in the secret column; it would be false of a sheet with another open entry. An accepted sheet returns 0, the empty one 2; with an answer memory of 24
-- bytes, which six numbers took, it returns 10 and leaves both memories as they were.
pub record Telling : Type 0 where
  pub second : CalledOn lent sheet2
  pub third : CalledOn lent sheet3
  pub empty : CalledOn lent []
  pub holds : Demand3Of (of A) sheet2 sheet3 job2 job3
  pub differs : get_or (after sheet2).output 22 0 ≢ get_or (after sheet3).output 22 0
  pub apart : ¬ Demand3Of (of A) sheet2 other_sheet job2 job2
  pub ended : (after sheet2).returned ≡ 0
  pub refuses : (after []).returned ≡ 2
  pub old : run_entry sheet2 lent (replicate 24 0) ≡ record { returned = 10; output = lent; answer = replicate 24 0 }

-- Document 02, Note 8: calls with sheets of two owners. Demand 3 holds for B of two that differ in B's entry, and for
-- both owners of two that differ in an entry of each. What they leave differs, for B in B's column alone: the claim
-- for A would be false of them, and of the others the claims for A and for B.
pub record OwnersTelling : Type 0 where
  pub first : CalledOn lent sheet_both
  pub second : CalledOn lent sheet_less
  pub third : CalledOn lent sheet_other
  pub holds_b : Demand3Of (of B) sheet_both sheet_less job_both job_less
  pub holds_both : Demand3Of both sheet_both sheet_other job_both job_other
  pub differs_b : get_or (after sheet_both).output 43 0 ≢ get_or (after sheet_less).output 43 0
  pub differs_both : (get_or (after sheet_both).output 31 0 ≢ get_or (after sheet_other).output 31 0) × (get_or (after sheet_both).output 44 0 ≢ get_or (after sheet_other).output 44 0)
  pub apart : ¬ Demand3Of (of A) sheet_both sheet_less job_both job_less
  pub not_a : ¬ Demand3Of (of A) sheet_both sheet_other job_both job_other
  pub not_b : ¬ Demand3Of (of B) sheet_both sheet_other job_both job_other

-- a memory that has two bytes more than the lines of the honest program
abbrev pub lent_honest : List ℕ
lent_honest = replicate 70 7

-- Note 4's claim applies to a call with the honest program's sheet, and this is what it leaves
pub record HonestTelling : Type 0 where
  pub called : CalledOn lent_honest doubles.sheet
  pub holds : HonestSends lent_honest (job doubles) 12 (after_on lent_honest doubles.sheet).output (after_on lent_honest doubles.sheet).answer
  pub output : (after_on lent_honest doubles.sheet).output ≡ bytes lines_honest ++ (7 ∷ 7 ∷ [])
