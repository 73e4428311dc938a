-- What is claimed of every change of a sheet, so that a request proves of its own change only that sound jobs stay
-- sound, and that its refusals have numbers.
use Rattle.std.specs.Prelude.{ℕ, ◌≤◌, ◌<◌, List, length}
use mathlib.Core.{Path.◌≡◌, Logic.◌≢◌, Logic.◌⊎◌}
use Rattle.model.specs.{Job.Job, Placed.front, Sheet.accepted, Sheet.refused, Sheet.read_sheet, Accepted.Sound}
use Rattle.model.specs.Written.{written, untouched}
use Rattle.model_run.specs.{Whole.left_by, Whole.run_sheet, Run.run_job}
use Rattle.model_sheet.specs.{Sheet.sheet_text, Claims.longest_sheet}
use Rattle.model_change.specs.Change.{Change, gives, denies, change_sheet, text_in}

-- What a request owes: of a sound job it makes a sound one, and none of its refusals is 0
pub record Keeps (f : Job → Change) : Type 0 where
  pub sound : (j k : Job) → Sound j → f j ≡ gives k → Sound k
  pub told : (j : Job) (n : ℕ) → f j ≡ denies n → n ≢ 0

-- The sheet s is accepted, and the request makes k of its job
pub record Made (f : Job → Change) (s : List ℕ) (k : Job) : Type 0 where
  pub job : Job
  pub reads : read_sheet s ≡ accepted job
  pub makes : f job ≡ gives k

-- A text that is accepted, says k, and runs as k does, on any memory
pub record Says (s : List ℕ) (k : Job) : Type 0 where
  pub reads : read_sheet s ≡ accepted k
  pub runs : (o : List ℕ) → run_sheet s o ≡ left_by o (run_job k (length o))

pub record Changes (short : ℕ) (f : Job → Change) (s m : List ℕ) : Type 0 where
  -- "sheets refuse as on reading", and "a refusal writes nothing"
  pub reads : (n l : ℕ) → read_sheet s ≡ refused n l → change_sheet short f s m ≡ untouched n l m
  -- the request's own refusals come next, at line 0
  pub denied : (j : Job) (n : ℕ) → read_sheet s ≡ accepted j → f j ≡ denies n → change_sheet short f s m ≡ untouched n 0 m
  -- last, "too little lent memory", at line 0
  pub lacks : (k : Job) → Made f s k → length m < length (sheet_text k) → change_sheet short f s m ≡ untouched short 0 m
  -- else the sheet is there, all of it, and behind it the old bytes; exactly enough is enough
  pub writes : (k : Job) → Made f s k → length (sheet_text k) ≤ length m
      → change_sheet short f s m ≡ written (record { number = 0; line = 0; bytes = length (sheet_text k) }) (front m (sheet_text k))
  -- as much as the longest sheet of the form has is enough
  pub enough : (k : Job) → Made f s k → longest_sheet k.form ≤ length m → (change_sheet short f s m).answer.number ≡ 0
  -- a refusal, for whatever cause, leaves every byte and counts none
  pub refuses : (change_sheet short f s m).answer.number ≢ 0 → ((change_sheet short f s m).memory ≡ m) × ((change_sheet short f s m).answer.bytes ≡ 0)
  -- but for too little memory, a refusal is the sheet's alone: on every other memory it is the same
  pub alone : (m' : List ℕ) → (change_sheet short f s m).answer.number ≢ 0 → (change_sheet short f s m).answer.number ≢ short
      → (change_sheet short f s m').answer ≡ (change_sheet short f s m).answer
  -- 0 is answered only if a sheet was made
  pub succeeds : (change_sheet short f s m).answer.number ≡ 0 → (k : Job) × Made f s k
  -- and what was written then is a sheet and says what was made
  pub says : (k : Job) → Made f s k → (change_sheet short f s m).answer.number ≡ 0 → Says (text_in (change_sheet short f s m)) k
  -- the memory keeps its length
  pub size : length (change_sheet short f s m).memory ≡ length m

abbrev pub AlwaysChanges : Type 0
AlwaysChanges = (short : ℕ) → short ≢ 0 → (f : Job → Change) → Keeps f → (s m : List ℕ) → Changes short f s m

-- A request that keeps what a run comes to, of every job and on every memory
abbrev pub SameRuns : (Job → Change) → Type 0
SameRuns f = (j k : Job) (room : ℕ) → f j ≡ gives k → run_job k room ≡ run_job j room

-- then what was written runs on every memory to the same bytes and the same numbers
abbrev pub AlwaysRunsSame : Type 0
AlwaysRunsSame =
    (short : ℕ) → short ≢ 0 → (f : Job → Change) → Keeps f → SameRuns f
    → (s m : List ℕ) → (change_sheet short f s m).answer.number ≡ 0 → (o : List ℕ) → run_sheet (text_in (change_sheet short f s m)) o ≡ run_sheet s o

-- The numbers of reading: those of document 01's table, and Note 8's
abbrev pub OfReading : ℕ → Type 0
OfReading n = ((1 ≤ n) × (n ≤ 9)) ⊎ (n ≡ 46)

-- no sheet is refused with another
abbrev pub RefusalsTold : Type 0
RefusalsTold = (s : List ℕ) (n l : ℕ) → read_sheet s ≡ refused n l → OfReading n
