-- One `key:value`, as a `secret` line holds one and a `msg` line several. K is the count of keys.
use Rattle.std.specs.Prelude.{List, ℕ, ◌-◌, ◌+◌}
use lib.{Dec.leb, IntN.ℤ, ListN.replicate, ListN.set}
use Rattle.model.specs.{Parsed.Parsed, Parsed.got, Parsed.need, Parsed.◌>>=◌, Parsed.◌>>◌, Text.divide, Text.colon, Number.up_to, Number.number}

-- One `key:value`, its key at least next. "In a `key:value` part the colon and key come first (4), then the order (5), then the value (4).
-- The first colon of a part divides it."
unfoldable pub pair : ℕ → ℕ → List ℕ → Parsed (ℕ × ℤ)
pair K next p = do
  kv ← divide colon 4 p
  k ← up_to (K - 1) kv.0
  need (leb next k) 5
  v ← number kv.1
  got (k, v)

-- What stands at each key, and the least key that may come next. Refusal 5: "a key is not greater than the one before it"
pub record ByKey (A : Type 0) : Type 0 where
  pub next : ℕ
  pub at : List A

-- the same at every key
abbrev pub everywhere : {A : Type 0} → ℕ → A → ByKey A
everywhere K a = record { next = 0; at = replicate K a }

-- a value at its key
abbrev pub entered : {A : Type 0} → (ℤ → A) → ByKey A → ℕ × ℤ → ByKey A
entered f e kv = record { next = kv.0 + 1; at = set e.at kv.0 (f kv.1) }

unfoldable pub part : {A : Type 0} → (ℤ → A) → ℕ → ByKey A → List ℕ → Parsed (ByKey A)
part f K e p = pair K e.next p >>= (λ kv. got (entered f e kv))
