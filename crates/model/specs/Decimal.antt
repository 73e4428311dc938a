-- Numbers as they are written: their last digits, and all of their digits.
use Rattle.std.specs.Prelude.{ℕ, zero, suc, ◌+◌, ◌/◌, ◌%◌, List, [], ◌∷◌, ◌++◌, cond}
use lib.{Dec.ltb, IntN.ℤ, IntN.pos, IntN.negsuc}
use Rattle.model.specs.Text.{zero_digit, minus}

-- the last w decimal digits of a number
unfoldable pub digits : ℕ → ℕ → List ℕ
digits zero n = []
digits (suc w) n = digits w (n / 10) ++ ((zero_digit + n % 10) ∷ [])

-- how many digits a number has, of at most f
unfoldable pub width_to : ℕ → ℕ → ℕ
width_to zero n = 0
width_to (suc f) n = cond (ltb n 10) 1 (suc (width_to f (n / 10)))

-- a number of 32 bits has at most ten digits
abbrev pub most_digits : ℕ
most_digits = 10

unfoldable pub width : ℕ → ℕ
width n = width_to most_digits n

-- a number at its natural width
unfoldable pub natural : ℕ → List ℕ
natural n = digits (width n) n

-- a number of the full range, as a sheet has it: "A minus sign stands only before a number other than 0, and there is no plus sign."
unfoldable pub whole : ℤ → List ℕ
whole (pos n) = natural n
whole (negsuc n) = minus ∷ natural (suc n)
