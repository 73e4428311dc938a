-- Texts in lent memory: bytes stored one after the other, and a memory that holds a text at its front. Arrays of other things are filled in the same way.
use Rattle.std.specs.Prelude.{ℕ, suc, List, [], ◌∷◌, ◌++◌, length, set, drop}

-- d once the bytes s are stored in it from the place at on; where d has no place, nothing is stored
unfoldable pub placed : {A : Type 0} → List A → ℕ → List A → List A
placed d at [] = d
placed d at (b ∷ s) = placed (set d at b) (suc at) s

-- a text at the front of the memory m, and behind it the old bytes
unfoldable pub front : {A : Type 0} → List A → List A → List A
front m s = s ++ drop (length s) m
