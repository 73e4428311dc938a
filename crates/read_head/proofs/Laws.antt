-- A `secret` line, by its name and read into the array of keys.
use mathlib.Core.Path.{◌≡◌, refl, sym, ap}
use mathlib.Core.List.{List, [], ◌∷◌}
use Prim.Native.Nat.{ℕ, ◌+◌, ◌≤◌}
use lib.ListN.{set}
use Rattle.model.specs.{Parsed.got, Parsed.refused, Text.bytes, Text.free, Stored.key_in, Head.secret, Head.secret_line}
use Rattle.model.specs.declared.{Form.Form, Key.Key, KeySlot.KeySlot}
use Rattle.model.proofs.{Accepted.secret-below, Stored.first-set}
use Rattle.model_text.specs.Found.{Word}
use Rattle.read_pair.specs.Pair.{by_key}

pub secret-word : Word (bytes "secret") (115 ∷ 101 ∷ 99 ∷ 114 ∷ 101 ∷ 116 ∷ 61 ∷ [])
unfolding bytes free
secret-word = record { sign = refl; no_sign = refl; no-feed = refl }

-- ---- The array

module _ (f : Form) (K next : ℕ) (slots : List KeySlot) (p : List ℕ) where
  pub secret-bad : (r : ℕ) → secret f.owners K next p ≡ refused r → secret_line f K (by_key key_in K next slots) p ≡ refused r
  unfolding secret_line by_key
  secret-bad r h = rw h

  pub secret-ok : (k : ℕ) (x : Key) → 1 ≤ K → secret f.owners K next p ≡ got (k, x) → secret_line f K (by_key key_in K next slots) p ≡ got (by_key key_in K (k + 1) (set slots k (record { key = x })))
  unfolding secret_line by_key
  secret-ok k x some h =
      let b = secret-below f.owners K next p (k, x) some h in
      rw h (ap (λ (l : List Key). got (record { next = k + 1; at = l })) (sym (first-set key_in K slots k (record { key = x }) b)))
