-- The arithmetic of the commands, over the integers.
use Rattle.std.specs.Prelude.{ℕ, pred, cond, Bool, true, false}
use lib.{IntN.ℤ, IntN.negsuc, IntN.pos, IntN.◌+ℤ◌, IntN.◌-ℤ◌, IntN.◌*ℤ◌, Signed.lt_z, Signed.quot_z}
use Rattle.model.specs.{Limits.least_number, Limits.greatest_number}
use Rattle.model_run.specs.{Data.Computed}
use Rattle.model.specs.Number.{is_zero}

-- "from -2147483648 to 2147483647"
abbrev pub least : ℤ
least = negsuc (pred least_number)

abbrev pub greatest : ℤ
greatest = pos greatest_number

-- "clamped to the nearest end of the range"
unfoldable pub clamp : ℤ → ℤ
clamp z = cond (lt_z z least) least (cond (lt_z greatest z) greatest z)

-- Document 02, Note 3: "Each of `add`, `sub`, `mul` and `div` shall say whether its exact result lay outside the range"
unfoldable pub outside : ℤ → Bool
outside z = cond (lt_z z least) true (lt_z greatest z)

-- it is said by a number: one clamped result, or none
abbrev pub clamps_by : Bool → ℕ
clamps_by true = 1
clamps_by false = 0

-- what is stored of an exact result, and what is said of it
unfoldable pub computed : ℤ → Computed
computed z = record { value = clamp z; clamps = clamps_by (outside z) }

-- "v becomes v + w, v - w, v times w, clamped to the nearest end of the range"
unfoldable pub sum : ℤ → ℤ → Computed
sum a b = computed (a +ℤ b)

unfoldable pub difference : ℤ → ℤ → Computed
difference a b = computed (a -ℤ b)

unfoldable pub product : ℤ → ℤ → Computed
product a b = computed (a *ℤ b)

-- "a zero divisor gives 0"; Note 3: "a zero divisor doesn't count"
abbrev pub by_zero : Computed
by_zero = record { value = pos 0; clamps = 0 }

-- "quotient cut toward zero and clamped"
unfoldable pub quotient : ℤ → ℤ → Computed
quotient a b = cond (is_zero b) by_zero (computed (quot_z a b))
