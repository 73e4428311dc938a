-- What is found in a text: a forbidden byte, the line that refusal 2 names, what it starts with.
use Rattle.std.specs.Prelude.{◌≡◌, Bool, true, false, cond, List, [], ◌∷◌, ◌++◌, ℕ}
use lib.{Dec.eqb}
use Rattle.model.specs.{Text.class_of, Text.forbidden_class, Text.line_feed, Text.equals_sign, Text.free, Sheet.over_text}

-- a text has a forbidden byte
unfoldable pub forbids : List ℕ → Bool
forbids [] = false
forbids (b ∷ bs) = cond (eqb (class_of b) forbidden_class) true (forbids bs)

-- the line that refusal 2 names, or 0 where it does not apply
unfoldable pub spoilt_line : List ℕ → ℕ
spoilt_line s = over_text (λ number line. line) s 0

-- a text starts with another
unfoldable pub starts : List ℕ → List ℕ → Bool
starts [] t = true
starts (x ∷ xs) [] = false
starts (x ∷ xs) (b ∷ bs) = cond (eqb b x) (starts xs bs) false

-- a name w, as the code compares it: p has its equals sign too
pub record Word (w p : List ℕ) : Type 0 where
  pub sign : p ≡ w ++ (equals_sign ∷ [])
  pub no_sign : free equals_sign w ≡ true
  pub no-feed : free line_feed (w ++ (equals_sign ∷ [])) ≡ true
