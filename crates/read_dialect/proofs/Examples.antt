-- What the dialect leaves out of the table, word by word, computed; and that a word which the table lacks is not left
-- out of it.
use Rattle.std.proofs.Common.{◌≡◌, refl, ℕ, List, [], ◌∷◌, false, cond}
use Rattle.model.specs.{Parsed.refused, Text.bytes, Command.Row, Command.table}
use Rattle.read_command.specs.Code.{said_by}
use Rattle.read_dialect.specs.Words.{left_out}

-- the words of these rows that are left out
unfoldable pub left : List Row → List (List ℕ)
left [] = []
left (r ∷ rs) = cond (left_out (said_by r)) (r.word ∷ left rs) (left rs)

pub three-left : left table ≡ bytes "ifneg" ∷ bytes "ifzero" ∷ bytes "jump" ∷ []
unfolding left table bytes
three-left = refl

pub unknown-stays : (n : ℕ) → left_out (refused n) ≡ false
unknown-stays n = refl
