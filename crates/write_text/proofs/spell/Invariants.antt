-- The memory with the digits that are still to write in it is the memory that is to be left.
use Prim.Native.Nat.{ℕ, ◌+◌}
use mathlib.Core.Path.{◌≡◌}
use mathlib.Core.List.{List, ◌++◌}
use lib.ListN.{take, drop}
use Rattle.model.specs.Decimal.{digits}
use Rattle.write_text.proofs.spell.Given as goal

-- out once the last i digits of rest are written at at
abbrev pub todo : ℕ → List ℕ → ℕ → ℕ → List ℕ
todo at out i rest = take at out ++ (digits i rest ++ drop (at + i) out)

abbrev pub invariant-loop-i : goal.invariant-loop-i
invariant-loop-i l = todo l.at l.out l.i l.rest ≡ todo l.at l.initial.out l.width l.n
