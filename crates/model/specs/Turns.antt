-- The line `turns` of a sheet of the form f, and nothing after it.
use Rattle.std.specs.Prelude.{ℕ, Bool, true, false, cond, List, [], ◌∷◌}
use lib.{Dec.eqb, Dec.leb, ListN.length}
use Rattle.model.specs.{Parsed.Parsed, Parsed.got, Parsed.refused, Parsed.◌>>=◌, Parsed.need, Parsed.◌>>◌, Text.bytes, Phase.Phase, Phase.one}
use Rattle.model.specs.Data.{Form, Level, Low, High, A, B}
use Rattle.model.specs.Phase as Phase

-- the letters `L` and `H`; document 02, Note 8: "turns use `L`, `A`, `B`"
abbrev pub letter_l : ℕ
letter_l = 76

abbrev pub letter_h : ℕ
letter_h = 72

abbrev pub letter_a : ℕ
letter_a = 65

abbrev pub letter_b : ℕ
letter_b = 66

-- the letter of the second owner, in a form that has one
abbrev pub second : Bool → ℕ → Parsed Level
second false b = refused 9
second true b = cond (eqb b letter_b) (got (High B)) (refused 9)

-- Refusal 9: "no byte after `turns=`, or one other than `L` and `H`"; Note 8: "9 tests the new letters"
unfoldable pub letter : Form → ℕ → Parsed Level
letter f b = cond (eqb b f.low) (got Low) (cond (eqb b f.high) (got (High A)) (second f.owners b))

unfoldable pub letters : Form → List ℕ → Parsed (List Level)
letters f [] = got []
letters f (b ∷ bs) = letter f b >>= (λ l. letters f bs >>= (λ ls. got (l ∷ ls)))

-- "`turns=` and 1 to 1,024 letters, each `L` or `H`." Refusal 8, "a 1,025th byte after `turns=`", comes before it.
unfoldable pub turns_line : Form → List ℕ → Parsed (List Level)
turns_line f s = do
  need (leb (length s) f.letters) 8
  need (leb 1 (length s)) 9
  letters f s

-- "Nothing follows."
abbrev pub nothing_after : {A : Type 0} → Phase A → Phase A
nothing_after (Phase.got a n []) = Phase.got a n []
nothing_after (Phase.got a n (l ∷ ls)) = Phase.refused 3 n
nothing_after (Phase.refused r n) = Phase.refused r n

unfoldable pub read_turns : Form → ℕ → List (List ℕ) → Phase (List Level)
read_turns f n ls = nothing_after (one (bytes "turns") (turns_line f) n ls)
