-- Demand 3: a statement about two whole paired runs, over jobs and over the sheets that say them.
use Rattle.std.specs.Prelude.{◌≡◌, ℕ, ◌<◌, ◌+◌, ◌*◌, ◌%◌, ◌≤◌, [], List, length, get_or}
use Rattle.model.specs.{Job.Job, Answer.numbers_of, Answer.bytes_written, Sheet.accepted, Sheet.read_sheet}
use Rattle.model_run.specs.{Whole.Left, Whole.left_by, Whole.run_sheet, Run.run_job}
use Rattle.model_run.specs.Data.{Absent, Key, Open, Secret, Owner}

-- Whose secrets: those of one owner, or of both. The statement is made over them. Document 02, Note 8: "The secrecy
-- rule is shown for either owner by one proof: if only B's entries differ, everything outside B's columns is equal,
-- and likewise for A." Of both it is what document 01 says of all secret entries.
pub data Whose : Type 0 where
  of : Owner → Whose
  both : Whose

abbrev pub Among : Whose → Owner → Type 0
Among (of o) w = o ≡ w
Among both w = Unit {0}

-- a key that is a secret of theirs
abbrev pub OwnedBy : Whose → Key → Type 0
OwnedBy o Open = ⊥
OwnedBy o (Secret w d) = Among o w

-- Two jobs that differ in the message entries of such keys, and in nothing else. (Their forms need not be the same: a
-- run does not look at them.) "The messages are compared in order: at each open key, the j-th line of A and the j-th
-- line of B hold the same number or both lack the key."
pub record Alike (o : Whose) (a b : Job) : Type 0 where
  pub keys : a.keys ≡ b.keys
  pub commands : a.commands ≡ b.commands
  pub turns : a.turns ≡ b.turns
  pub count : length a.messages ≡ length b.messages
  pub entries : (j k : ℕ) → k < length a.keys → ¬ OwnedBy o (get_or a.keys k Open) → get_or (get_or a.messages j []) k Absent ≡ get_or (get_or b.messages j []) k Absent

-- "place p of the output memory, from 0, lies in one exactly when p is below the bytes written and the remainder of p by 10 + 12 × K is from
-- 10 + 12 × k to 20 + 12 × k for a secret key k."
pub record Hidden (o : Whose) (ks : List Key) (bytes p : ℕ) : Type 0 where
  pub below : p < bytes
  pub key : ℕ
  pub is_key : key < length ks
  pub owned : OwnedBy o (get_or ks key Open)
  pub from : 10 + 12 * key ≤ p % (10 + 12 * length ks)
  pub to : p % (10 + 12 * length ks) ≤ 20 + 12 * key

-- What two runs have in common: the seven numbers, the length of the memory, and the byte at every place outside the
-- columns of these keys
pub record Indistinguishable (o : Whose) (ks : List Key) (x y : Left) : Type 0 where
  pub numbers : numbers_of x.answer ≡ numbers_of y.answer
  pub size : length x.memory ≡ length y.memory
  pub byte : (p : ℕ) → ¬ Hidden o ks (bytes_written (numbers_of x.answer)) p → get_or x.memory p 0 ≡ get_or y.memory p 0

-- For every two jobs alike, whatever their commands, turns, keys and dummies, and every memory that is lent to both runs, from the model's first
-- state to the ending: whoever sees all but what these owners have cannot tell them apart.
abbrev pub SecrecyOf : Whose → Type 0
SecrecyOf o = (a b : Job) (m : List ℕ) → Alike o a b → Indistinguishable o a.keys (left_by m (run_job a (length m))) (left_by m (run_job b (length m)))

-- The same of two accepted sheets as texts
abbrev pub SheetSecrecyOf : Whose → Type 0
SheetSecrecyOf o =
    (s t : List ℕ) (a b : Job) (m : List ℕ)
    → read_sheet s ≡ accepted a → read_sheet t ≡ accepted b → Alike o a b
    → Indistinguishable o a.keys (run_sheet s m) (run_sheet t m)

-- Demand 3: for each owner, and for both
abbrev pub JobsSecret : Type 0
JobsSecret = (o : Whose) → SecrecyOf o

abbrev pub SheetsSecret : Type 0
SheetsSecret = (o : Whose) → SheetSecrecyOf o
