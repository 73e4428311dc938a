-- The first lines of a sheet part by part: a name, what follows it, and the line feed.
use Prim.Native.Nat.{ℕ}
use mathlib.Core.Path.{◌≡◌, refl, sym, ap}
use mathlib.Core.List.{List, [], ◌∷◌, ◌++◌, append_assoc}
use mathlib.Core.Bool.{Bool}
use lib.IntN.{ℤ}
use Rattle.model.specs.{Text.bytes, Text.line_feed, Decimal.natural}
use Rattle.model.specs.declared.Owner.{Owner}
use Rattle.model_text.specs.Text.{unlines, named, pair_text}
use Rattle.model_sheet.specs.Sheet.{head_lines, owner_text, secret_text}
use Rattle.write_head.specs.Head.{form_text, secret_ended}

-- `sheet=`, and a line feed and `keys=`
abbrev pub sheet_name : List ℕ
sheet_name = 115 ∷ 104 ∷ 101 ∷ 101 ∷ 116 ∷ 61 ∷ []

abbrev pub keys_name : List ℕ
keys_name = 10 ∷ 107 ∷ 101 ∷ 121 ∷ 115 ∷ 61 ∷ []

-- `secret=`
abbrev pub secret_name : List ℕ
secret_name = 115 ∷ 101 ∷ 99 ∷ 114 ∷ 101 ∷ 116 ∷ 61 ∷ []

pub form_parts : (n : ℕ) → form_text n ≡ sheet_name ++ (natural n ++ keys_name)
unfolding form_text bytes
form_parts n = refl

pub head_parts : (n K : ℕ) → head_lines n K ≡ form_text n ++ (natural K ++ (line_feed ∷ []))
unfolding head_lines unlines named bytes form_text
head_parts n K = ap (λ (x : List ℕ). sheet_name ++ x) (sym (append_assoc (natural n) keys_name (natural K ++ (line_feed ∷ []))))

pub secret_parts : (two : Bool) (k : ℕ) (o : Owner) (d : ℤ) → secret_ended two k o d ≡ secret_name ++ (pair_text (k, d) ++ (owner_text two o ++ (line_feed ∷ [])))
unfolding named bytes secret_text
secret_parts two k o d = ap (λ (x : List ℕ). secret_name ++ x) (append_assoc (pair_text (k, d)) (owner_text two o) (line_feed ∷ []))
