-- What document 02, Note 9, claims of what `pavebox_to_sheet2` and `pavebox_to_sheet1` return and leave.
use Rattle.std.specs.Prelude.{ℕ, ◌+◌, ◌*◌, ◌≤◌, ◌<◌, List, ◌++◌, map, length, take, drop, replicate}
use mathlib.Core.{Path.◌≡◌, Logic.◌≢◌, Logic.◌↔◌, Logic.◌⊎◌}
use Rattle.model.specs.{Job.Job, Answer.bytes_for, Sheet.accepted, Sheet.read_sheet, Text.lines, Written.text_number_count}
use Rattle.model_text.specs.Text.{unlines}
use Rattle.model_sheet.specs.Sheet.{sheet_text}
use Rattle.model_change.specs.{Change.gives, Claims.Made}
use Rattle.model_forms.specs.Forms.{number, turn, turn_entry}
use Rattle.model_forms.specs.Claims.{other, NamesB, TurnsB, secrets, bytes_in, line_in}
use Rattle.model_forms.specs.Examples.{old, new, new_a}
use Rattle.model_forms.specs.declared.Asked.{Asked}
use Rattle.model_forms.specs.declared.Asked.TheVariants.{One, Two}
use Rattle.model_entry.specs.{Entry.FormAnswered, Texts.ThreeNumbers}
use Rattle.claims.specs.Change.{SheetChanged, RunAlike}

-- A call of `pavebox_to_sheet2`, if the second form is asked for, or of `pavebox_to_sheet1`, with an answer memory of
-- 12 bytes
pub record FormCalled (asked : Asked) (sheet output answer : List ℕ) (returned : ℕ) (output' answer' : List ℕ) : Type 0 where
  pub sized : length answer ≡ bytes_for text_number_count
  pub met : FormAnswered asked sheet output answer returned output' answer'

-- What a call leaves that returns 0: a sheet of n bytes
pub record Turned (asked : Asked) (sheet output : List ℕ) (returned : ℕ) (output' answer' : List ℕ) (n : ℕ) : Type 0 where
  pub numbers : ThreeNumbers 0 0 n returned answer'
  -- "into `sheet=2` with owner A and H turned to A", and back; behind it the old bytes
  pub lines : output' ≡ unlines (map (line_in asked) (lines sheet)) ++ drop n output
  pub counts : length (take n output') ≡ n
  -- "Both forms run to the same lines and numbers."
  pub runs : RunAlike sheet (take n output')
  -- "and turn it back to the first bytes", wherever there is memory for them
  pub back : (o a : List ℕ) (r : ℕ) (o' a' : List ℕ) → FormCalled (other asked) (take n output') o a r o' a' → length sheet ≤ length o
      → ThreeNumbers 0 0 (length sheet) r a' × (o' ≡ sheet ++ drop (length sheet) o)

pub record FormTurned (asked : Asked) (sheet output : List ℕ) (returned : ℕ) (output' answer' : List ℕ) : Type 0 where
  -- "sheets refuse as on reading"; the order of the request's own refusals, their line 0; nothing written then
  pub changed : SheetChanged 49 (turn asked) sheet output returned output' answer'
  -- 48 exactly "if the sheet already has the form asked for"
  pub gets48 : (returned ≡ 48) ↔ ((j : Job) × (read_sheet sheet ≡ accepted j) × (j.form ≡ number asked))
  -- 47 exactly, "going back only, if the sheet names owner B or has a turn B"
  pub gets47 : (returned ≡ 47) ↔ ((j : Job) × (read_sheet sheet ≡ accepted j) × (j.form ≡ 2) × (asked ≡ One) × (NamesB j ⊎ TurnsB j))
  -- 49 exactly "for too little lent memory"
  pub gets49 : (returned ≡ 49) ↔ ((k : Job) × Made (turn asked) sheet k × (length output < length (sheet_text k)))
  -- a sheet that may be turned is, wherever there is memory for its bytes: two more for each secret, or fewer
  pub fits : (j k : Job) → read_sheet sheet ≡ accepted j → turn asked j ≡ gives k → bytes_in asked sheet j ≤ length output
      → ThreeNumbers 0 0 (bytes_in asked sheet j) returned answer'
  pub lacks : (j k : Job) → read_sheet sheet ≡ accepted j → turn asked j ≡ gives k → length output < bytes_in asked sheet j → returned ≡ 49
  -- so every accepted `sheet=1` converts
  pub converts : (j : Job) → asked ≡ Two → read_sheet sheet ≡ accepted j → j.form ≡ 1 → length sheet + 2 * secrets j.keys ≤ length output
      → ThreeNumbers 0 0 (length sheet + 2 * secrets j.keys) returned answer'
  pub turned : returned ≡ 0 → (n : ℕ) × Turned asked sheet output returned output' answer' n

abbrev pub FormTurnedHolds : Type 0
FormTurnedHolds = (x : Asked) (s o a : List ℕ) (r : ℕ) (o' a' : List ℕ) → FormCalled x s o a r o' a' → FormTurned x s o r o' a'

-- But for 49, a refusal is the sheet's alone: two calls with one sheet, whatever memories are lent
abbrev pub FormRefusedAlone : Type 0
FormRefusedAlone =
    (x : Asked) (s o a : List ℕ) (r : ℕ) (o' a' : List ℕ) → FormCalled x s o a r o' a' → r ≢ 0 → r ≢ 49
    → (p b : List ℕ) (q : ℕ) (p' b' : List ℕ) → FormCalled x s p b q p' b'
    → (q ≡ r) × (b' ≡ a')

-- ---- The claim speaks of something: a call writes the sheet and returns 0, others lack a byte, have the form, cannot
-- go back

-- what a call returns that lends so much
abbrev pub returned_on : Asked → List ℕ → ℕ → ℕ
returned_on x s lent = (turn_entry x s (replicate lent 0) (replicate (bytes_for text_number_count) 0)).returned

-- a call that returns and leaves just what the entry does
abbrev pub CalledOn : Asked → List ℕ → ℕ → Type 0
CalledOn x s lent =
    let y = turn_entry x s (replicate lent 0) (replicate (bytes_for text_number_count) 0) in
    FormCalled x s (replicate lent 0) (replicate (bytes_for text_number_count) 0) y.returned y.output y.answer

pub record FormsTelling : Type 0 where
  pub called : (x : Asked) (s : List ℕ) (lent : ℕ) → CalledOn x s lent
  pub writes : returned_on Two old 115 ≡ 0
  pub goes_back : returned_on One new_a 113 ≡ 0
  pub lacks : returned_on Two old 114 ≡ 49
  pub has : returned_on Two new_a 0 ≡ 48
  pub cannot : returned_on One (new "B" "LALALALALA") 0 ≡ 47
