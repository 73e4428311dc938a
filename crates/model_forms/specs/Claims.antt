-- What is claimed of turning sheets into the other form, apart from its definition.
use Rattle.std.specs.Prelude.{ℕ, suc, ◌+◌, ◌-◌, ◌*◌, ◌<◌, ◌≤◌, Bool, cond, List, [], ◌∷◌, ◌++◌, map}
use mathlib.Core.{Path.◌≡◌, Logic.◌↔◌, Logic.◌⊎◌}
use lib.{IntN.ℤ, Dec.eqb, ListN.length, ListN.take, ListN.get_or}
use Rattle.model.specs.{Job.Job, Accepted.Sound, Placed.front, Sheet.accepted, Sheet.read_sheet, Text.bytes, Text.same, Text.colon, Text.lines}
use Rattle.model.specs.{Turns.letter_h, Turns.letter_a}
use Rattle.model.specs.Written.{written, untouched}
use Rattle.model.specs.declared.Key.{Key}
use Rattle.model.specs.declared.Key.TheVariants.{Open, Secret}
use Rattle.model.specs.declared.Level.{Level}
use Rattle.model.specs.declared.Level.TheVariants.{Low, High}
use Rattle.model.specs.declared.Owner.TheVariants.{B}
use Rattle.model_run.specs.{Owners.of_form, Whole.run_sheet}
use Rattle.model_text.specs.Text.{unlines}
use Rattle.model_sheet.specs.Sheet.{sheet_text}
use Rattle.model_change.specs.{Change.gives, Change.denies, Change.text_in, Claims.Keeps, Claims.Made, Claims.SameRuns}
use Rattle.model_forms.specs.Forms.{number, turn, turn_sheet}
use Rattle.model_forms.specs.declared.Asked.{Asked}
use Rattle.model_forms.specs.declared.Asked.TheVariants.{One, Two}

-- the form that it is turned from
abbrev pub other : Asked → Asked
other One = Two
other Two = One

-- ---- Of jobs

-- what every change of a sheet owes, so that all of `AlwaysChanges` holds of both
abbrev pub AlwaysKeeps : Type 0
AlwaysKeeps = (a : Asked) → Keeps (turn a)

-- "Both forms run to the same lines and numbers."
abbrev pub JobsRunSame : Type 0
JobsRunSame = (a : Asked) → SameRuns (turn a)

-- "and turn it back to the first bytes": the job comes back, and so its one text
abbrev pub JobsTurnBack : Type 0
JobsTurnBack = (a : Asked) (j k : Job) → Sound j → turn a j ≡ gives k → turn (other a) k ≡ gives j

-- "the sheet names owner B or has a turn B": there is such a key, or such a turn
abbrev pub NamesB : Job → Type 0
NamesB j = (k : ℕ) × (d : ℤ) × (get_or j.keys k Open ≡ Secret B d)

abbrev pub TurnsB : Job → Type 0
TurnsB j = (p : ℕ) × (get_or j.turns p Low ≡ High B)

-- what each job gets, by its own words: 48 exactly if it has the form asked for; 47 exactly if it has not, the first
-- form is asked for, and it names owner B or has a turn B
pub record Gets (a : Asked) (j : Job) : Type 0 where
  pub gets48 : (turn a j ≡ denies 48) ↔ (j.form ≡ number a)
  pub gets47 : (turn a j ≡ denies 47) ↔ ((j.form ≡ number a → ⊥) × (a ≡ One) × (NamesB j ⊎ TurnsB j))
  pub gets_other : (n : ℕ) → turn a j ≡ denies n → (n ≡ 48) ⊎ (n ≡ 47)
  pub given : (k : Job) → turn a j ≡ gives k → k ≡ of_form (number a) j

abbrev pub AlwaysGets : Type 0
AlwaysGets = (a : Asked) (j : Job) → Gets a j

-- every job of the first form converts
abbrev pub AlwaysTurns : Type 0
AlwaysTurns = (j : Job) → j.form ≡ 1 → turn Two j ≡ gives (of_form 2 j)

-- one of the second form gets 47 exactly where the first cannot say it
abbrev pub Unsayable : Type 0
Unsayable = (j : Job) → Sound j → j.form ≡ 2 → ((turn One j ≡ denies 47) ↔ ¬ Sound (of_form 1 j)) × ((turn One j ≡ gives (of_form 1 j)) ↔ Sound (of_form 1 j))

-- ---- Of sheets as texts: where 0 is answered, a sheet was written

-- it runs on every memory to the same bytes and the same seven numbers
abbrev pub RunsSame : Type 0
RunsSame = (a : Asked) (s m : List ℕ) → (turn_sheet a s m).answer.number ≡ 0 → (o : List ℕ) → run_sheet (text_in (turn_sheet a s m)) o ≡ run_sheet s o

-- turned back it is the first bytes, all of them, and behind them the old bytes of the memory
abbrev pub TurnsBack : Type 0
TurnsBack =
    (a : Asked) (s m : List ℕ) → (turn_sheet a s m).answer.number ≡ 0 → (o : List ℕ) → length s ≤ length o
    → turn_sheet (other a) (text_in (turn_sheet a s m)) o ≡ written (record { number = 0; line = 0; bytes = length s }) (front o s)

-- how many keys are secret
abbrev pub secrets : List Key → ℕ
secrets [] = 0
secrets (Open ∷ ks) = secrets ks
secrets (Secret o d ∷ ks) = suc (secrets ks)

-- in the second form a sheet has its bytes of the first and two for each secret
abbrev pub bytes_in : Asked → List ℕ → Job → ℕ
bytes_in One s j = length s - 2 * secrets j.keys
bytes_in Two s j = length s + 2 * secrets j.keys

-- a sheet that may be turned is, exactly if there is memory for so many bytes; else it gets 49
pub record Sized (a : Asked) (s m : List ℕ) (j : Job) (k : Job) : Type 0 where
  pub fits : bytes_in a s j ≤ length m → turn_sheet a s m ≡ written (record { number = 0; line = 0; bytes = bytes_in a s j }) (front m (sheet_text k))
  pub lacks : length m < bytes_in a s j → turn_sheet a s m ≡ untouched 49 0 m

abbrev pub AlwaysSized : Type 0
AlwaysSized = (a : Asked) (s m : List ℕ) (j k : Job) → read_sheet s ≡ accepted j → turn a j ≡ gives k → Sized a s m j k

-- so every accepted `sheet=1` converts, wherever there is memory for its bytes and two for each secret
abbrev pub AlwaysConverts : Type 0
AlwaysConverts =
    (s m : List ℕ) (j : Job) → read_sheet s ≡ accepted j → j.form ≡ 1 → length s + 2 * secrets j.keys ≤ length m
    → turn_sheet Two s m ≡ written (record { number = 0; line = 0; bytes = length s + 2 * secrets j.keys }) (front m (sheet_text (of_form 2 j)))

-- which sheets get each of the request's own numbers
pub record Answers (a : Asked) (s m : List ℕ) : Type 0 where
  pub gets48 : ((turn_sheet a s m).answer.number ≡ 48) ↔ ((j : Job) × (read_sheet s ≡ accepted j) × (j.form ≡ number a))
  pub gets47 : ((turn_sheet a s m).answer.number ≡ 47) ↔ ((j : Job) × (read_sheet s ≡ accepted j) × (j.form ≡ 2) × (a ≡ One) × (NamesB j ⊎ TurnsB j))
  pub gets49 : ((turn_sheet a s m).answer.number ≡ 49) ↔ ((k : Job) × Made (turn a) s k × (length m < length (sheet_text k)))

abbrev pub AlwaysAnswers : Type 0
AlwaysAnswers = (a : Asked) (s m : List ℕ) → Answers a s m

-- ---- Line by line

-- a line that begins so
abbrev pub begins : List ℕ → List ℕ → Bool
begins w l = same (take (length w) l) w

abbrev pub swapped : ℕ → ℕ → ℕ → ℕ
swapped from to b = cond (eqb b from) to b

-- "into `sheet=2` with owner A and H turned to A", and back: a line of a sheet as it stands in the other form. Every
-- other line keeps its bytes.
abbrev pub first_line : Asked → List ℕ
first_line One = bytes "sheet=1"
first_line Two = bytes "sheet=2"

abbrev pub owned : Asked → List ℕ → List ℕ
owned One l = take (length l - 2) l
owned Two l = l ++ (colon ∷ letter_a ∷ [])

abbrev pub letter_in : Asked → ℕ → ℕ
letter_in One b = swapped letter_a letter_h b
letter_in Two b = swapped letter_h letter_a b

unfoldable pub line_in : Asked → List ℕ → List ℕ
line_in a l =
    cond (begins (bytes "sheet=") l) (first_line a)
    (cond (begins (bytes "secret=") l) (owned a l)
    (cond (begins (bytes "turns=") l) (map (letter_in a) l) l))

-- what is written is the sheet's own lines, each as it stands in the form asked for
abbrev pub LineByLine : Type 0
LineByLine = (a : Asked) (s m : List ℕ) → (turn_sheet a s m).answer.number ≡ 0 → text_in (turn_sheet a s m) ≡ unlines (map (line_in a) (lines s))
