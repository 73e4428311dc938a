-- The array that holds what pairs say.
use Rattle.std.specs.Prelude.{ℕ, List}
use Rattle.model.specs.{Pair.ByKey, Stored.first_of}

-- what the first K slots of an array hold, and the least key that may come next
unfoldable pub by_key : {S A : Type 0} → (S → A) → ℕ → ℕ → List S → ByKey A
by_key f K next slots = record { next = next; at = first_of f K slots }
