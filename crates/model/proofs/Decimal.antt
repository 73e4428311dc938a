-- How many digits a number has, by the powers of ten.
use Prim.Native.Nat.{ℕ, zero, suc, ◌*◌, ◌≤◌, ◌+◌, ◌-◌, ◌/◌}
use native.Mathlib.Omega.{arith}
use Rattle.model.specs.Decimal.{most_digits}
use mathlib.Core.Path.{◌≡◌, refl, ◌∙◌, ap}
use lib.{ListN.length, ListN.length-append}
use native.Mathlib.{Numerals.add-one}
use Rattle.model.specs.{Decimal.digits}

-- the numbers of at most w digits are those below this
unfoldable pub tens : ℕ → ℕ
tens zero = 1
tens (suc w) = tens w * 10

-- numbers of 32 bits are among those of ten digits
pub tens-last : 4294967296 ≤ tens most_digits
unfolding tens
tens-last = omega arith

pub tens-most : (w : ℕ) → 10 ≤ tens (suc w)
unfolding tens
tens-most zero = omega arith
tens-most (suc w) = omega (arith, tens-most w)

pub digits-length : (w n : ℕ) → length (digits w n) ≡ w
unfolding digits
digits-length zero n = refl
digits-length (suc w) n = length-append (digits w (n / 10)) _ ∙ ap (λ (m : ℕ). m + 1) (digits-length w (n / 10)) ∙ add-one w
