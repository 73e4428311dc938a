-- What the text of a secret says, at the places of its colons as the code finds them.
use mathlib.Core.Path.{◌≡◌, refl, sym, ap, ap₂, ◌∙◌}
use mathlib.Core.Bool.{true, false, cond}
use mathlib.Core.List.{List, [], ◌∷◌, ◌++◌, append_assoc}
use Prim.Native.Nat.{ℕ, ◌+◌, ◌<◌, ◌≤◌}
use native.Mathlib.{Omega.arith, Numerals.add-one}
use lib.{Dec.eqb, IntN.ℤ, ListN.length, ListN.get_or, ListN.take, ListN.drop, Seq.take-add, Seq.take-suc}
use Rattle.model.specs.{Parsed.got, Parsed.refused, Text.find, Text.colon, Pair.pair, Head.apart, Head.owner, Head.secret, Turns.letter_a, Turns.letter_b}
use Rattle.model.specs.declared.{Key.TheVariants.Secret, Owner.Owner}
use Rattle.model.specs.declared.Owner.TheVariants.{A, B}
use Rattle.model_text.proofs.TextLaws.{find_at}
use Rattle.read_pair.proofs.Laws.{divide-none, divide-at}

-- ---- One owner

module _ (K next : ℕ) (p : List ℕ) where
  pub single-bad : (r : ℕ) → pair K next p ≡ refused r → secret false K next p ≡ refused r
  unfolding secret apart
  single-bad r h = rw h

  pub single-ok : (k : ℕ) (v : ℤ) → pair K next p ≡ got (k, v) → secret false K next p ≡ got (k, Secret A v)
  unfolding secret apart owner
  single-ok k v h = rw h

-- ---- Two owners: the first colon at the place a of p, the second at the place b behind it

module _ (K next : ℕ) (p : List ℕ) (a : ℕ) (qa : a ≡ find colon p) where
  pub owned-no-colon : length p ≤ a → secret true K next p ≡ refused 4
  unfolding secret apart
  owned-no-colon h = rw (divide-none colon 4 p a qa h)

  module _ (ha : a < length p) (t : List ℕ) (et : t ≡ drop (a + 1) p) (b : ℕ) (qb : b ≡ find colon t) where
    pub owned-one-colon : length t ≤ b → secret true K next p ≡ refused 4
    unfolding secret apart
    owned-one-colon h = rw (divide-at colon 4 p a qa ha, ← et, divide-none colon 4 t b qb h)

    module _ (hb : b < length t) where
      -- what stands before the second colon is a part of the text
      front-is : take (a + 1 + b) p ≡ take a p ++ (colon ∷ take b t)
      front-is =
          let first : get_or p a 0 ≡ colon = ap (λ (i : ℕ). get_or p i 0) qa ∙ find_at colon p (omega (arith, qa)) in
          take-add (a + 1) b p
          ∙ ap₂ (λ (x y : List ℕ). x ++ take b y) (ap (λ (i : ℕ). take i p) (add-one a) ∙ take-suc p a 0 ha ∙ ap (λ (x : ℕ). take a p ++ (x ∷ [])) first) (sym et)
          ∙ append_assoc (take a p) (colon ∷ []) (take b t)

      apart-is : apart true p ≡ got (take (a + 1 + b) p, drop (b + 1) t)
      unfolding apart
      apart-is = rw (divide-at colon 4 p a qa ha, ← et, divide-at colon 4 t b qb hb) (ap (λ (x : List ℕ). got (x, drop (b + 1) t)) (sym front-is))

      pub owned-bad : (r : ℕ) → pair K next (take (a + 1 + b) p) ≡ refused r → secret true K next p ≡ refused r
      unfolding secret
      owned-bad r h = rw (apart-is, h)

      module _ (k : ℕ) (v : ℤ) (h : pair K next (take (a + 1 + b) p) ≡ got (k, v)) where
        pub owned-unnamed : (r : ℕ) → owner (drop (b + 1) t) ≡ refused r → secret true K next p ≡ refused r
        unfolding secret
        owned-unnamed r e = rw (apart-is, h, e)

        pub owned-ok : (o : Owner) → owner (drop (b + 1) t) ≡ got o → secret true K next p ≡ got (k, Secret o v)
        unfolding secret
        owned-ok o e = rw (apart-is, h, e)

-- ---- The owner's letter

pub owner-long : (s : List ℕ) → (length s ≡ 1 → ⊥) → owner s ≡ refused 46
unfolding owner
owner-long [] n = refl
owner-long (b ∷ []) n = absurd (n refl)
owner-long (b ∷ c ∷ s) n = refl

-- of one byte
pub owner-one : (s : List ℕ) → length s ≡ 1 → owner s ≡ cond (eqb (get_or s 0 0) letter_a) (got A) (cond (eqb (get_or s 0 0) letter_b) (got B) (refused 46))
unfolding owner
owner-one [] e = absurd (omega arith)
owner-one (b ∷ []) e = refl
owner-one (b ∷ c ∷ s) e = absurd (omega arith)
