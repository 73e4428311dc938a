-- Keys and fields one by one.
use Prim.Native.Nat.{ℕ, zero, suc, ◌+◌, ◌<◌, ◌≤◌}
use mathlib.Core.Path.{◌≡◌, refl, sym, ap, subst}
use mathlib.Core.List.{List, [], ◌∷◌, ◌++◌, append-nil}
use native.Mathlib.{Omega.arith, Numerals.add-one}
use lib.{IntN.ℤ, ListN.length, ListN.take, ListN.drop, ListN.set, Seq.append_snoc, Seq.take-suc-set}
use borrow.Author.Tests.{le-leb, lt-leb}
use Rattle.model.specs.{Parsed.Parsed, Parsed.got, Parsed.refused, Parsed.◌>>=◌, Number.up_to, Number.number, Accepted.Every, Stored.entry_in, Stored.first_of}
use Rattle.model.specs.declared.{Entry.Entry, EntrySlot.EntrySlot}
use Rattle.model.specs.declared.Entry.TheVariants.{Absent, Number}
use Rattle.model.proofs.Stored.{first-set}
use Rattle.std.specs.List.{zip}
use Rattle.model_log.specs.Log.{greatest_key, key_count, key_numbers, field, entries}
use Rattle.read_log.specs.Log.{KeysHeld}

-- ---- The keys of the first row

-- keys that are read, and what is read behind them
abbrev pub behind : List ℕ → Parsed (List ℕ) → Parsed (List ℕ)
behind ks (got more) = got (ks ++ more)
behind ks (refused n) = refused n

module _ (ks : List ℕ) (next : ℕ) (p : List ℕ) (ps : List (List ℕ)) where
  pub key-bad : (r : ℕ) → up_to greatest_key p ≡ refused r → behind ks (key_numbers next (p ∷ ps)) ≡ refused 42
  unfolding key_numbers
  key-bad r h = rw h

  module _ (k : ℕ) (h : up_to greatest_key p ≡ got k) where
    pub key-falls : k < next → behind ks (key_numbers next (p ∷ ps)) ≡ refused 42
    unfolding key_numbers
    key-falls l = rw (h, lt-leb _ _ l)

    pub key-next : next ≤ k → behind ks (key_numbers next (p ∷ ps)) ≡ behind (ks ++ (k ∷ [])) (key_numbers (k + 1) ps)
    unfolding key_numbers
    key-next l = rw (h, le-leb _ _ l) (go (key_numbers (k + 1) ps))
      where
        go : (x : Parsed (List ℕ)) → behind ks (x >>= (λ more. got (k ∷ more))) ≡ behind (ks ++ (k ∷ [])) x
        go (got more) = ap got (sym (append_snoc ks k more))
        go (refused n) = refl

pub keys-end : (ks : List ℕ) (next : ℕ) → behind ks (key_numbers next []) ≡ got ks
unfolding key_numbers
keys-end ks next = ap got (append-nil ks)

-- ---- The fields of a message

pub field-empty : (f : List ℕ) → length f ≡ 0 → field f ≡ got Absent
unfolding field
field-empty [] h = refl
field-empty (b ∷ f) h = absurd (omega arith)

pub field-number : (f : List ℕ) (z : ℤ) → (length f ≡ 0 → ⊥) → number f ≡ got z → field f ≡ got (Number z)
unfolding field
field-number [] z h e = absurd (h refl)
field-number (b ∷ f) z h e = rw e

pub field-bad : (f : List ℕ) (r : ℕ) → (length f ≡ 0 → ⊥) → number f ≡ refused r → field f ≡ refused 42
unfolding field
field-bad [] r h e = absurd (h refl)
field-bad (b ∷ f) r h e = rw e

-- the fields that a row has at keys, entered one by one
unfoldable pub entered : List (ℕ × List ℕ) → List Entry → Parsed (List Entry)
entered [] es = got es
entered (p ∷ ps) es = field p.1 >>= (λ e. entered ps (set es p.0 e))

pub entries-zip : (ks : List ℕ) (fs : List (List ℕ)) (es : List Entry) → entries ks fs es ≡ entered (zip ks fs) es
unfolding entries entered
entries-zip [] fs es = refl
entries-zip (k ∷ ks) [] es = refl
entries-zip (k ∷ ks) (f ∷ fs) es = go (field f) (λ e. entries-zip ks fs (set es k e))
  where
    go : (x : Parsed Entry) → ((e : Entry) → entries ks fs (set es k e) ≡ entered (zip ks fs) (set es k e)) → (x >>= (λ e. entries ks fs (set es k e))) ≡ (x >>= (λ e. entered (zip ks fs) (set es k e)))
    go (got e) i = i e
    go (refused r) i = refl

pub entered-none : (es : List Entry) → entered [] es ≡ got es
unfolding entered
entered-none es = refl

-- one field more, with the array that holds what was entered before it
module _ (k : ℕ) (f : List ℕ) (ps : List (ℕ × List ℕ)) (slots : List EntrySlot) where
  pub entry-bad : (r : ℕ) → field f ≡ refused r → entered ((k, f) ∷ ps) (first_of entry_in key_count slots) ≡ refused r
  unfolding entered
  entry-bad r e = rw e

  pub entry_next : (x : EntrySlot) → k < key_count → field f ≡ got x.entry → entered ((k, f) ∷ ps) (first_of entry_in key_count slots) ≡ entered ps (first_of entry_in key_count (set slots k x))
  unfolding entered
  entry_next x h e = rw (first-set entry_in key_count slots k x h, e)

-- the keys of the fields are keys
module _ {A : Type 0} (P : A → Type 0) where
  every-drop : (n : ℕ) (xs : List A) → Every P xs → Every P (drop n xs)
  every-drop zero xs h = h
  every-drop (suc n) [] h = tt
  every-drop (suc n) (x ∷ xs) h = every-drop n xs h.1

every-zip : (ks : List ℕ) (fs : List (List ℕ)) → KeysHeld ks → Every (λ (p : ℕ × List ℕ). p.0 < key_count) (zip ks fs)
every-zip [] fs h = tt
every-zip (k ∷ ks) [] h = tt
every-zip (k ∷ ks) (f ∷ fs) h = (h.0, every-zip ks fs h.1)

pub key-held : (ks : List ℕ) (fs : List (List ℕ)) (n k : ℕ) (f : List ℕ) (ps : List (ℕ × List ℕ)) → KeysHeld ks → drop n (zip ks fs) ≡ (k, f) ∷ ps → k < key_count
key-held ks fs n k f ps h e = let P : ℕ × List ℕ → Type 0 = λ p. p.0 < key_count in (subst (Every P) e (every-drop P n (zip ks fs) (every-zip ks fs h))).0

-- nothing before what is read
pub behind-none : (x : Parsed (List ℕ)) → behind [] x ≡ x
behind-none (got more) = refl
behind-none (refused n) = refl

-- one key more in the array
pub keys-stored : (ks : List ℕ) (n k : ℕ) → n < length ks → take (n + 1) (set ks n k) ≡ take n ks ++ (k ∷ [])
keys-stored ks n k h = rw (add-one n) (take-suc-set ks n k h)
