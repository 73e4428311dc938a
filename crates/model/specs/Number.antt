-- Numbers as a sheet writes them. "A number has no leading zero except 0 itself. A minus sign stands only before a number other than 0, and
-- there is no plus sign." Refusal 4: "a number is malformed or beyond its limit".
use Rattle.std.specs.Prelude.{cond, Bool, true, false, List, [], ◌∷◌, ℕ, ◌+◌, ◌*◌, ◌-◌, pred, zero, suc}
use lib.{Dec.eqb, Dec.leb, IntN.ℤ, IntN.negsuc, IntN.pos}
use Rattle.model.specs.{Parsed.Parsed, Parsed.got, Parsed.refused, Parsed.need, Parsed.◌>>◌, Parsed.◌>>=◌, Text.class_of, Text.digit_class, Text.minus}
use Rattle.model.specs.{Text.zero_digit, Limits.least_number, Limits.greatest_number}

-- the value of digits after those that make a
unfoldable pub digits : ℕ → List ℕ → Parsed ℕ
digits a [] = got a
digits a (b ∷ bs) = cond (eqb (class_of b) digit_class) (digits (a * 10 + (b - zero_digit)) bs) (refused 4)

-- one digit, or more of which the first is not 0
unfoldable pub natural : List ℕ → Parsed ℕ
natural [] = refused 4
natural (b ∷ []) = digits 0 (b ∷ [])
natural (b ∷ c ∷ bs) = cond (eqb b zero_digit) (refused 4) (digits 0 (b ∷ c ∷ bs))

unfoldable pub within : ℕ → ℕ → Parsed ℕ
within m n = need (leb n m) 4 >> got n

-- the value of digits after those that make a, at most m
unfoldable pub digits_to : ℕ → ℕ → List ℕ → Parsed ℕ
digits_to m a s = digits a s >>= within m

-- a number from 0 to a limit
unfoldable pub up_to : ℕ → List ℕ → Parsed ℕ
up_to m s = natural s >>= within m

-- a number from 1 to a limit
unfoldable pub from_one : ℕ → List ℕ → Parsed ℕ
from_one m s = do
  n ← up_to m s
  need (leb 1 n) 4
  got n

-- what follows a minus sign
unfoldable pub negative : List ℕ → Parsed ℤ
negative s = do
  n ← from_one least_number s
  got (negsuc (pred n))

unfoldable pub positive : List ℕ → Parsed ℤ
positive s = do
  n ← up_to greatest_number s
  got (pos n)

-- a number of the full range: "Dummies and message values have the full range above."
unfoldable pub number : List ℕ → Parsed ℤ
number [] = refused 4
number (b ∷ bs) = cond (eqb b minus) (negative bs) (positive (b ∷ bs))

abbrev pub is_zero : ℤ → Bool
is_zero (pos zero) = true
is_zero (pos (suc n)) = false
is_zero (negsuc n) = false
