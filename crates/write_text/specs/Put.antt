-- A text put into lent memory.
use Rattle.std.specs.Prelude.{ℕ, ◌+◌, ◌<◌, ◌≤◌, Bool, true, false, List, [], ◌∷◌, ◌++◌, length}
use mathlib.Core.{Path.◌≡◌, Logic.◌⊎◌}
use Rattle.model.specs.{Text.minus, Placed.placed, Decimal.natural}

-- a byte where it is wanted, and nothing where it is not
abbrev pub byte_if : Bool → ℕ → List ℕ
byte_if true b = b ∷ []
byte_if false b = []

-- a number by its sign and its size
abbrev pub signed : Bool → ℕ → List ℕ
signed m n = byte_if m minus ++ natural n

-- The memory d with the text s from the place at on is d', and behind is the place behind the text, whether or not the memory reaches so far
pub record Put (d : List ℕ) (at : ℕ) (s d' : List ℕ) (behind : ℕ) : Type 0 where
  pub memory : d' ≡ placed d at s
  pub next : behind ≡ at + length s

-- A text may be put from the place at on: the place behind it is a number of 32 bits, and the memory is none at all, so that the text is only counted, or has
-- room for it
pub record Room (d : List ℕ) (at : ℕ) (s : List ℕ) : Type 0 where
  pub near : at + length s < 4294967296
  pub fits : (length d ≡ 0) ⊎ (at + length s ≤ length d)
