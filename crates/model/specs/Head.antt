-- The first lines of a sheet: `sheet`, which chooses the form f of the lines after it, `keys` and `secret`.
use Rattle.std.specs.Prelude.{List, [], ◌∷◌, ◌++◌, Bool, true, false, cond, ℕ, ◌+◌}
use lib.{Dec.eqb, ListN.set}
use Rattle.model.specs.{Parsed.Parsed, Parsed.got, Parsed.refused, Parsed.◌>>=◌, Number.from_one, Text.bytes, Text.divide, Text.colon, Phase.Phase, Phase.one, Phase.many, Pair.ByKey}
use Rattle.model.specs.{Pair.everywhere, Pair.pair, Limits.forms, Turns.letter_a, Turns.letter_b}
use Rattle.model.specs.Data.{Form, Owner, A, B, Key, Open, Secret}

-- "`sheet=1`, once." Refusal 4 names "the 1 of `sheet`". Document 02, Note 8: "Refusal 4 allows 1 or 2 for `sheet`"
unfoldable pub sheet_line : List ℕ → Parsed ℕ
sheet_line s = from_one forms s

unfoldable pub read_first : ℕ → List (List ℕ) → Phase ℕ
read_first n ls = one (bytes "sheet") sheet_line n ls

-- "`keys=K`, once, K from 1 to 8."
unfoldable pub keys_line : Form → List ℕ → Parsed ℕ
keys_line f s = from_one f.keys s

unfoldable pub read_keys : Form → ℕ → List (List ℕ) → Phase ℕ
read_keys f n ls = one (bytes "keys") (keys_line f) n ls

-- "`secret=key:dummy`, none or more, keys rising. Every other key is open."
abbrev pub all_open : ℕ → ByKey Key
all_open K = everywhere K Open

-- Note 8: "a secret line reads `secret=key:dummy:owner`"; "on such sheets a secret line divides at its first two
-- colons and, lacking either, gets 4, before its key". What stands before the second colon, and what stands after it.
-- In the first form there is no second colon, and the one owner goes by the name of A.
unfoldable pub apart : Bool → List ℕ → Parsed (List ℕ × List ℕ)
apart false s = got (s, letter_a ∷ [])
apart true s = divide colon 4 s >>= (λ kv. divide colon 4 kv.1 >>= (λ vo. got (kv.0 ++ (colon ∷ vo.0), vo.1)))

-- "owner `A` or `B`"; "Answers: 46, after the dummy, for an owner that is neither letter."
unfoldable pub owner : List ℕ → Parsed Owner
owner [] = refused 46
owner (b ∷ []) = cond (eqb b letter_a) (got A) (cond (eqb b letter_b) (got B) (refused 46))
owner (b ∷ c ∷ s) = refused 46

-- a secret, its key at least next: first the colons, then the key, the order and the dummy as in a part of a message,
-- then the owner
unfoldable pub secret : Bool → ℕ → ℕ → List ℕ → Parsed (ℕ × Key)
secret two K next s = apart two s >>= (λ po. pair K next po.0 >>= (λ kv. owner po.1 >>= (λ o. got (kv.0, Secret o kv.1))))

unfoldable pub secret_line : Form → ℕ → ByKey Key → List ℕ → Parsed (ByKey Key)
secret_line f K e s = secret f.owners K e.next s >>= (λ kx. got (record { next = kx.0 + 1; at = set e.at kx.0 kx.1 }))

unfoldable pub read_secrets : Form → ℕ → ℕ → List (List ℕ) → Phase (ByKey Key)
read_secrets f K n ls = many (bytes "secret") (secret_line f K) n (all_open K) ls
