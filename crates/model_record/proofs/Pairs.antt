-- Values at their keys: pairs of a key and a value whose keys rise, and the lists with a place for every key, are one to one.
use mathlib.Core.Path.{◌≡◌, refl, sym, ap, ◌∙◌, subst}
use mathlib.Core.Bool.{true, ◌&&◌}
use mathlib.Core.List.{List, [], ◌∷◌, ◌++◌, map}
use Prim.Native.Nat.{ℕ, zero, suc, ◌+◌, ◌<◌, ◌≤◌}
use native.Mathlib.{Decide.ℕ_discrete, Omega.arith, Nat.zero-add}
use lib.{Dec.leb, Dec.ltb, IntN.ℤ, ListN.length, ListN.set, ListN.replicate, ListN.length-append, ListN.length-set, Seq.append_snoc, Seq.set_at}
use borrow.Author.Tests.{leb-true, ltb-true, le-leb, lt-ltb}
use Rattle.model.specs.Accepted.{Every, InRange, EntryInRange}
use Rattle.model.specs.declared.Entry.{Entry}
use Rattle.model.specs.declared.Entry.TheVariants.{Absent, Number}
use Rattle.model.proofs.{Accepted.every_set, Stored.map-set}
use Rattle.model_text.specs.Text.{pairs}
use Rattle.model_text.proofs.TextLaws.{and_both}
use Rattle.model_record.specs.Record.{rising, enters_all}
use Rattle.model_text.proofs.Tests.{and-made}

-- the key of a pair, and the keys of pairs
abbrev pub key_in : ℕ × ℤ → ℕ
key_in kv = kv.0

abbrev pub keys_in : List (ℕ × ℤ) → List ℕ
keys_in ps = map key_in ps

-- ---- Values that are entered

module _ {A : Type 0} (f : ℤ → A) where
  -- there are as many places as before
  pub entered-length : (xs : List A) (ps : List (ℕ × ℤ)) → length (enters_all f xs ps) ≡ length xs
  unfolding enters_all
  entered-length xs [] = refl
  entered-length xs (kv ∷ ps) = entered-length (set xs kv.0 (f kv.1)) ps ∙ length-set xs kv.0 (f kv.1)

  -- what holds of the values and of what was there before holds of all
  pub entered-every : (P : A → Type 0) (xs : List A) (ps : List (ℕ × ℤ)) → Every P xs → Every (λ (kv : ℕ × ℤ). P (f kv.1)) ps → Every P (enters_all f xs ps)
  unfolding enters_all
  entered-every P xs [] h k = h
  entered-every P xs (kv ∷ ps) h k = entered-every P (set xs kv.0 (f kv.1)) ps (every_set P xs kv.0 (f kv.1) h k.0) k.1

  -- as g shows them
  pub entered-map : {B : Type 0} (g : A → B) (xs : List A) (ps : List (ℕ × ℤ)) → map g (enters_all f xs ps) ≡ enters_all (λ (z : ℤ). g (f z)) (map g xs) ps
  unfolding enters_all
  entered-map g xs [] = refl
  entered-map {B} g xs (kv ∷ ps) =
      entered-map g (set xs kv.0 (f kv.1)) ps ∙ ap (λ (ys : List B). enters_all (λ (z : ℤ). g (f z)) ys ps) (map-set g xs kv.0 (f kv.1))

-- ---- Back from a list with a place for every key

-- the numbers of a list, entered where there are none yet, make the list: those of front are there already
pairs-entered-from : (es front : List Entry) (i : ℕ) → length front ≡ i → enters_all Number (front ++ replicate (length es) Absent) (pairs i es) ≡ front ++ es
unfolding pairs enters_all
pairs-entered-from [] front i q = refl
pairs-entered-from (Absent ∷ es) front i q =
    let l = length-append front (Absent ∷ []) in
    simp append_snoc at (pairs-entered-from es (front ++ (Absent ∷ [])) (suc i) (omega arith))
pairs-entered-from (Number z ∷ es) front i q =
    let l = length-append front (Number z ∷ []) in
    ap (λ (xs : List Entry). enters_all Number xs (pairs (suc i) es)) (set_at front Absent (replicate (length es) Absent) (Number z) i q)
    ∙ (simp append_snoc at (pairs-entered-from es (front ++ (Number z ∷ [])) (suc i) (omega arith)))

-- a list comes back from its numbers
pub pairs-entered : (es : List Entry) → enters_all Number (replicate (length es) Absent) (pairs 0 es) ≡ es
pairs-entered es = pairs-entered-from es [] 0 refl

-- their keys rise
pub pairs-rise : (K next i : ℕ) (es : List Entry) → next ≤ i → i + length es ≤ K → rising K next (keys_in (pairs i es)) ≡ true
unfolding pairs rising
pairs-rise K next i [] l b = refl
pairs-rise K next i (Absent ∷ es) l b = pairs-rise K next (suc i) es (omega arith) (omega arith)
pairs-rise K next i (Number z ∷ es) l b =
    and-made (and-made (le-leb _ i (omega arith)) (lt-ltb i K (omega arith))) (pairs-rise K (i + 1) (suc i) es (omega arith) (omega arith))

-- each is a number of the list
pub pairs-range : (i : ℕ) (es : List Entry) → Every EntryInRange es → Every (λ (kv : ℕ × ℤ). InRange kv.1) (pairs i es)
unfolding pairs
pairs-range i [] h = tt
pairs-range i (Absent ∷ es) h = pairs-range (suc i) es h.1
pairs-range i (Number z ∷ es) h = (h.0, pairs-range (suc i) es h.1)

-- there are no more than places
pub pairs-count : (i : ℕ) (es : List Entry) → length (pairs i es) ≤ length es
unfolding pairs
pairs-count i [] = omega arith
pairs-count i (Absent ∷ es) = omega (arith, pairs-count (suc i) es)
pairs-count i (Number z ∷ es) = omega (arith, pairs-count (suc i) es)

-- ---- From pairs whose keys rise

-- a list of m places from key i on that has these numbers at their keys
record Spread (m i : ℕ) (ps : List (ℕ × ℤ)) : Type 0 where
  entries : List Entry
  count : length entries ≡ m
  same : pairs i entries ≡ ps

-- what `rising` tells of the first key and of those behind it
rising-first : (K next k : ℕ) (ks : List ℕ) → rising K next (k ∷ ks) ≡ true → (next ≤ k) × (k < K) × (rising K (k + 1) ks ≡ true)
unfolding rising
rising-first K next k ks h =
    let a = and_both (leb _ k && ltb k K) _ h in
    let b = and_both (leb _ k) _ a.0 in
    (omega (arith, leb-true _ k b.0), ltb-true k K b.1, a.1)

-- a key above the least that may come is one that may come later
rising-later : (K next k : ℕ) (ks : List ℕ) → next < k → rising K next (k ∷ ks) ≡ true → rising K (suc next) (k ∷ ks) ≡ true
unfolding rising
rising-later K next k ks l h =
    let r = rising-first K next k ks h in
    and-made (and-made (le-leb _ k (omega arith)) (lt-ltb k K r.1)) r.2

-- there is one, if the keys rise
spread : (m i : ℕ) (ps : List (ℕ × ℤ)) → rising (i + m) i (keys_in ps) ≡ true → Spread m i ps
unfolding pairs rising
spread zero i [] h = record { entries = []; count = refl; same = refl }
spread zero i (kv ∷ ps) h = absurd (let r = rising-first (i + zero) i kv.0 (keys_in ps) h in omega (arith, r.0, r.1))
spread (suc m) i [] h =
    let s = spread m (suc i) [] refl in
    record { entries = Absent ∷ s.entries; count = ap suc s.count; same = s.same }
spread (suc m) i (kv ∷ ps) h = go (ℕ_discrete kv.0 i) (λ qs r. spread m (suc i) qs r)
  where
    more : suc i + m ≡ i + suc m
    more = omega arith

    go : Dec (kv.0 ≡ i) → ((qs : List (ℕ × ℤ)) → rising (suc i + m) (suc i) (keys_in qs) ≡ true → Spread m (suc i) qs) → Spread (suc m) i (kv ∷ ps)
    go (yes e) rest =
        let r = (rising-first (i + suc m) i kv.0 (keys_in ps) h).2 in
        let up : kv.0 + 1 ≡ suc i = omega arith in
        let s = rest ps (rw more (rw up at r)) in
        record { entries = Number kv.1 ∷ s.entries; count = ap suc s.count; same = λ j. (sym e j, kv.1) ∷ s.same j }
    go (no n) rest =
        let first = rising-first (i + suc m) i kv.0 (keys_in ps) h in
        let later = rising-later (i + suc m) i kv.0 (keys_in ps) (let a = first.0 in omega arith) h in
        let s = rest (kv ∷ ps) (subst (λ (x : ℕ). rising x (suc i) (keys_in (kv ∷ ps)) ≡ true) (sym more) later) in
        record { entries = Absent ∷ s.entries; count = ap suc s.count; same = s.same }

-- the pairs come back
pub entered-pairs : (K : ℕ) (ps : List (ℕ × ℤ)) → rising K 0 (keys_in ps) ≡ true → pairs 0 (enters_all Number (replicate K Absent) ps) ≡ ps
entered-pairs K ps h = go K (spread K 0 ps (subst (λ (n : ℕ). rising n 0 (keys_in ps) ≡ true) (sym (zero-add K)) h))
  where
    go : (n : ℕ) → Spread n 0 ps → pairs 0 (enters_all Number (replicate n Absent) ps) ≡ ps
    go n s =
        let es = s.entries in
        let made = ap (λ (m : ℕ). enters_all Number (replicate m Absent) (pairs 0 es)) (sym s.count) ∙ pairs-entered es in
        ap (λ (qs : List (ℕ × ℤ)). pairs 0 (enters_all Number (replicate n Absent) qs)) (sym s.same) ∙ ap (pairs 0) made ∙ s.same
