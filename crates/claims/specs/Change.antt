-- What document 02 claims of what every entry returns and leaves that makes a sheet of a sheet.
use Rattle.std.specs.Prelude.{ℕ, ◌≤◌, ◌<◌, List, ◌++◌, length, take, drop}
use mathlib.Core.{Path.◌≡◌, Logic.◌≢◌}
use Rattle.model.specs.{Job.Job, Answer.bytes_for, Sheet.accepted, Sheet.refused, Sheet.read_sheet, Written.text_number_count, Written.text_entry}
use Rattle.model_sheet.specs.{Sheet.sheet_text, Claims.longest_sheet}
use Rattle.model_change.specs.{Change.Change, Change.denies, Change.change_sheet, Claims.Keeps, Claims.SameRuns, Claims.Made, Claims.Says}
use Rattle.model_entry.specs.{Entry.Leaves, Texts.ThreeNumbers}
use Rattle.claims.specs.{Demands.Called}

-- A call with an answer memory of 12 bytes, of the entry for the change f, with the number short for too little
-- memory
pub record ChangeCalled (short : ℕ) (f : Job → Change) (sheet output answer : List ℕ) (returned : ℕ) (output' answer' : List ℕ) : Type 0 where
  pub sized : length answer ≡ bytes_for text_number_count
  pub met : Leaves (text_entry output answer (change_sheet short f sheet output)) returned output' answer'

pub record SheetChanged (short : ℕ) (f : Job → Change) (sheet output : List ℕ) (returned : ℕ) (output' answer' : List ℕ) : Type 0 where
  -- "sheets refuse as on reading", and "a refusal writes nothing"
  pub refuses : (n l : ℕ) → read_sheet sheet ≡ refused n l → ThreeNumbers n l 0 returned answer' × (output' ≡ output)
  -- the request's own refusals, at line 0
  pub denied : (j : Job) (n : ℕ) → read_sheet sheet ≡ accepted j → f j ≡ denies n → ThreeNumbers n 0 0 returned answer' × (output' ≡ output)
  -- last, too little memory
  pub lacks : (k : Job) → Made f sheet k → length output < length (sheet_text k) → ThreeNumbers short 0 0 returned answer' × (output' ≡ output)
  -- success writes exactly the sheet, and behind it stand the old bytes; exactly enough memory is enough
  pub writes : (k : Job) → Made f sheet k → length (sheet_text k) ≤ length output
      → ThreeNumbers 0 0 (length (sheet_text k)) returned answer' × (output' ≡ sheet_text k ++ drop (length (sheet_text k)) output)
  -- as much as the longest sheet of the form has is enough
  pub enough : (k : Job) → Made f sheet k → longest_sheet k.form ≤ length output → returned ≡ 0
  -- 0 is returned only if a sheet was made; it is accepted, says the changed job and runs as that does
  pub says : returned ≡ 0 → (k : Job) × Made f sheet k × Says (take (length (sheet_text k)) output') k
  pub size : length output' ≡ length output

abbrev pub SheetChangedHolds : Type 0
SheetChangedHolds =
    (short : ℕ) → short ≢ 0 → (f : Job → Change) → Keeps f
    → (s o a : List ℕ) (r : ℕ) (o' a' : List ℕ) → ChangeCalled short f s o a r o' a' → SheetChanged short f s o r o' a'

-- But for too little memory, a refusal is the sheet's alone: two calls with one sheet, whatever memories are lent
abbrev pub RefusedAlone : Type 0
RefusedAlone =
    (short : ℕ) → short ≢ 0 → (f : Job → Change) → Keeps f
    → (s o a : List ℕ) (r : ℕ) (o' a' : List ℕ) → ChangeCalled short f s o a r o' a' → r ≢ 0 → r ≢ short
    → (p b : List ℕ) (q : ℕ) (p' b' : List ℕ) → ChangeCalled short f s p b q p' b'
    → (q ≡ r) × (b' ≡ a')

-- Two sheets run alike: on one memory `pavebox_run` returns the same for both, and leaves the same bytes in both
-- memories
abbrev pub RunAlike : List ℕ → List ℕ → Type 0
RunAlike s t =
    (o a b : List ℕ) (r q : ℕ) (o' p' a' b' : List ℕ) → Called s o a r o' a' → Called t o b q p' b'
    → (q ≡ r) × (p' ≡ o') × (b' ≡ a')

-- What was written by a request that keeps what a run comes to runs as the sheet does
abbrev pub ChangedRuns : Type 0
ChangedRuns =
    (short : ℕ) → short ≢ 0 → (f : Job → Change) → Keeps f → SameRuns f
    → (s o a : List ℕ) (r : ℕ) (o' a' : List ℕ) → ChangeCalled short f s o a r o' a' → r ≡ 0
    → (k : Job) → Made f s k → RunAlike s (take (length (sheet_text k)) o')
