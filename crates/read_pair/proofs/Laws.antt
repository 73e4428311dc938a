-- Laws of one `key:value`, at the place e of its colon as the code finds it, and of the array that holds what pairs say.
use mathlib.Core.Path.{◌≡◌, ap}
use mathlib.Core.List.{List}
use Prim.Native.Nat.{ℕ, ◌+◌, ◌-◌, ◌<◌, ◌≤◌}
use native.Mathlib.Numerals.{add-one}
use lib.{IntN.ℤ, ListN.length, ListN.take, ListN.drop, ListN.set, ListN.replicate}
use borrow.Author.Tests.{lt-ltb, le-ltb, le-leb, lt-leb}
use Rattle.model.specs.{Parsed.got, Parsed.refused, Text.colon, Text.find, Text.divide, Number.up_to, Number.number, Pair.everywhere, Pair.pair, Pair.part}
use Rattle.model.proofs.{Accepted.keys-rise, Stored.first-set, Stored.first-same}
use Rattle.read_pair.specs.Pair.{by_key}

-- ---- One `key:value`

module _ (c n : ℕ) (p : List ℕ) (e : ℕ) (q : e ≡ find c p) where
  pub divide-none : length p ≤ e → divide c n p ≡ refused n
  unfolding divide
  divide-none h = rw (← q, le-ltb _ _ h)

  pub divide-at : e < length p → divide c n p ≡ got (take e p, drop (e + 1) p)
  unfolding divide
  divide-at h = rw (← q, lt-ltb _ _ h, add-one)

module _ (K next : ℕ) (p : List ℕ) (e : ℕ) (q : e ≡ find colon p) where
  pub pair-no-colon : length p ≤ e → pair K next p ≡ refused 4
  unfolding pair
  pair-no-colon h = rw (divide-none colon 4 p e q h)

  module _ (h : e < length p) where
    pub pair-key-bad : (r : ℕ) → up_to (K - 1) (take e p) ≡ refused r → pair K next p ≡ refused r
    unfolding pair
    pair-key-bad r u = rw (divide-at colon 4 p e q h, u)

    module _ (k : ℕ) (u : up_to (K - 1) (take e p) ≡ got k) where
      pub pair-order : k < next → pair K next p ≡ refused 5
      unfolding pair
      pair-order l = rw (divide-at colon 4 p e q h, u, lt-leb _ _ l)

      pub pair-value-bad : (r : ℕ) → next ≤ k → number (drop (e + 1) p) ≡ refused r → pair K next p ≡ refused r
      unfolding pair
      pair-value-bad r l v = rw (divide-at colon 4 p e q h, u, le-leb _ _ l, v)

      pub pair_ok : (v : ℤ) → next ≤ k → number (drop (e + 1) p) ≡ got v → pair K next p ≡ got (k, v)
      unfolding pair
      pair_ok v l w = rw (divide-at colon 4 p e q h, u, le-leb _ _ l, w)

-- ---- The array that holds what stands at each key

module _ {S A : Type 0} (f : S → A) where
  pub by-key-blank : (K n : ℕ) (x : S) → K ≤ n → by_key f K 0 (replicate n x) ≡ everywhere K (f x)
  unfolding by_key
  by-key-blank K n x h = ap (λ (l : List A). record { next = 0; at = l }) (first-same f K n x h)

  -- a part read into the array: g makes of its value what the slot x holds
  module _ (g : ℤ → A) (K next : ℕ) (slots : List S) (p : List ℕ) where
    pub part-bad : (r : ℕ) → pair K next p ≡ refused r → part g K (by_key f K next slots) p ≡ refused r
    unfolding part by_key
    part-bad r h = rw h

    pub part-ok : (k : ℕ) (v : ℤ) (x : S) → 1 ≤ K → f x ≡ g v → pair K next p ≡ got (k, v) → part g K (by_key f K next slots) p ≡ got (by_key f K (k + 1) (set slots k x))
    unfolding part by_key
    part-ok k v x some e h =
        let b = keys-rise K next p (k, v) some h in
        rw h (ap (λ (l : List A). got (record { next = k + 1; at = l })) (rw (first-set f K slots k x b.1, e)))
