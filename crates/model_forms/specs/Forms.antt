-- Document 02, Note 9: "Turn one into `sheet=2` with owner A and H turned to A, and turn it back to the first bytes."
use Rattle.std.specs.Prelude.{ℕ, Bool, true, false, cond, ◌&&◌, List, eqb}
use Rattle.model.specs.{Job.Job, Accepted.all, Answer.After, Written.Written, Written.text_entry}
use Rattle.model_run.specs.{Owners.of_form}
use Rattle.model.specs.declared.{Key.Key, Level.Level, Owner.Owner}
use Rattle.model.specs.declared.Key.TheVariants.{Open, Secret}
use Rattle.model.specs.declared.Level.TheVariants.{Low, High}
use Rattle.model.specs.declared.Owner.TheVariants.{A, B}
use Rattle.model_change.specs.Change.{Change, gives, denies, change_sheet}
use Rattle.model_forms.specs.declared.Asked.{Asked}
use Rattle.model_forms.specs.declared.Asked.TheVariants.{One, Two}

-- "the form asked for": that of `sheet=1`, or of `sheet=2`
abbrev pub number : Asked → ℕ
number One = 1
number Two = 2

-- "if the sheet names owner B or has a turn B": the owners, keys and turns that are not B's
abbrev pub owner_a : Owner → Bool
owner_a A = true
owner_a B = false

abbrev pub key_a : Key → Bool
key_a Open = true
key_a (Secret o d) = owner_a o

abbrev pub turn_a : Level → Bool
turn_a Low = true
turn_a (High o) = owner_a o

-- whether the form asked for can say a job. "going back only": the second says all.
abbrev pub says : Asked → Job → Bool
says One j = all key_a j.keys && all turn_a j.turns
says Two j = true

-- 48, "after reading, if the sheet already has the form asked for"; 47, "next .., if the sheet names owner B or has a
-- turn B". In a job of the first form every secret is A's, and every H a turn of A's: so the number of the form is
-- all that changes, and what becomes of the text follows (`LineByLine`).
unfoldable pub turn : Asked → Job → Change
turn a j = cond (eqb j.form (number a)) (denies 48) (cond (says a j) (gives (of_form (number a) j)) (denies 47))

-- 49, "last, for too little lent memory"
unfoldable pub turn_sheet : Asked → List ℕ → List ℕ → Written
turn_sheet a s m = change_sheet 49 (turn a) s m

-- `pavebox_to_sheet2` and `pavebox_to_sheet1`: "The answer is formed as in Note 5", number, line and bytes
unfoldable pub turn_entry : Asked → List ℕ → List ℕ → List ℕ → After
turn_entry a s m b = text_entry m b (turn_sheet a s m)
