-- What an entry that writes a text answers.
use Rattle.std.specs.Prelude.{ℕ, ◌≡◌, List, [], ◌∷◌}
use Rattle.model.specs.Answer.{all_le32}

-- the three numbers of an answer, of which the first is returned
abbrev pub ThreeNumbers : ℕ → ℕ → ℕ → ℕ → List ℕ → Type 0
ThreeNumbers number line count returned answer' = (returned ≡ number) × (answer' ≡ all_le32 (number ∷ line ∷ count ∷ []))
