-- What the loops keep of an array: what is left of it passes or not as the whole does, and makes the rest of what the
-- whole makes.
use Prim.Native.Nat.{ℕ, ◌+◌, ◌<◌, ◌≤◌}
use mathlib.Core.Path.{◌≡◌, refl, sym, ap, ◌∙◌}
use mathlib.Core.Bool.{Bool, true, false, ◌&&◌, cond, and-false, and-true}
use mathlib.Core.List.{List, [], ◌∷◌, ◌++◌, map, append-nil, append_assoc}
use native.Mathlib.{Omega.arith, Numerals.add-one}
use borrow.Author.Tests.{ltb-true}
use mir.{Syntax.w32, Val.SFits}
use Rattle.std.proofs.Common.{Some, None}
use lib.{Dec.leb, Dec.ltb, ListN.length, ListN.get_or, ListN.take, ListN.drop, ListN.set, ListN.replicate, ListN.drop_of_length-le, Seq.drop-cons}
use Rattle.model.specs.Stored.{first_of}
use Rattle.model.specs.declared.Owner.{Owner}
use Rattle.model.proofs.Stored.{first-set, first-same, map_more}
use Rattle.model.specs.Accepted.{all}
use Rattle.model_record.specs.Record.{rising, enters_all, owner_fits, secret_fits, key_of, hides, entry_pair}
use Rattle.model.specs.declared.{Entry.Entry, Entry.TheVariants.Number}
use Rattle.model_record.specs.declared.{SecretRecord.SecretRecord, EntryRecord.EntryRecord}
use Rattle.model_text.proofs.{TextLaws.and_both, Tests.Tested, Tests.tested-more}
use Rattle.read_fields.proofs.Laws.{in-range}

-- ---- What is left of an array: one and those behind it, or none

pub left : {A : Type 0} (xs : List A) (i : ℕ) (d : A) → i < length xs → drop i xs ≡ get_or xs i d ∷ drop (i + 1) xs
left xs i d l = rw (add-one) (drop-cons xs i d l)

pub none : {A : Type 0} (xs : List A) (i : ℕ) → length xs ≤ i → drop i xs ≡ []
none xs i l = drop_of_length-le xs l

-- ---- Elements that are made into those of another array, one after the other, as g shows them

module _ {A S B : Type 0} (p : A → Bool) (f : A → B) (g : S → B) (xs : List A) where
  -- the elements before i pass and are made, and the rest makes the rest
  pub record Taking (i : ℕ) (taken : List S) : Type 0 where
    pub tested : Tested p xs i
    pub made : map g (take i taken) ++ map f (drop i xs) ≡ map f xs

  -- at first
  pub taking-begins : (taken : List S) → Taking 0 taken
  taking-begins taken = record { tested = record { same = refl }; made = refl }

module _ {A S B : Type 0} {p : A → Bool} {f : A → B} {g : S → B} {xs : List A} {i : ℕ} {taken : List S} (t : Taking p f g xs i taken) where
  -- the next one passes, and y is what it makes
  pub taking-more : (d : A) (y : S) → i < length xs → p (get_or xs i d) ≡ true → g y ≡ f (get_or xs i d) → i < length taken → Taking p f g xs (i + 1) (set taken i y)
  taking-more d y some h q l =
      let x = get_or xs i d in
      let e = left xs i d some in
      record {
        tested = tested-more t.tested e h;
        made =
            rw (map_more g i taken y l, q) (append_assoc (map g (take i taken)) (f x ∷ []) (map f (drop (i + 1) xs)))
            ∙ ap (λ (zs : List A). map g (take i taken) ++ map f zs) (sym e)
            ∙ t.made;
      }

  -- there is none left
  pub taking-end : i ≡ length xs → map g (take (length xs) taken) ≡ map f xs
  taking-end q =
      rw (← q) (sym (append-nil (map g (take i taken))) ∙ ap (λ (zs : List A). map g (take i taken) ++ map f zs) (sym (none xs i (omega (arith, q)))) ∙ t.made)

-- ---- Elements that are put at their keys, which rise

-- two pairs of tests, the first of each before the second
both_first : (a b c d : Bool) → (a && b) && (c && d) ≡ (a && c) && (b && d)
both_first false b c d = refl
both_first true b true d = refl
both_first true b false d = and-false b

-- what they make of an array, one after the other: each its value at its key
pub record Enters {A B : Type 0} (key : A → ℕ) (value : A → B) (enter : List B → List A → List B) : Type 0 where
  pub last : (l : List B) → enter l [] ≡ l
  pub next : (l : List B) (x : A) (xs : List A) → enter l (x ∷ xs) ≡ enter (set l (key x) (value x)) xs

module _ {A : Type 0} (key : A → ℕ) (fits : A → Bool) (K : ℕ) where
  -- the tests of all elements, where next is the least key that may come, and those of one
  abbrev good : ℕ → List A → Bool
  good next xs = rising K next (map key xs) && all fits xs

  abbrev pub good_one : ℕ → A → Bool
  good_one next x = leb next (key x) && ltb (key x) K && fits x

  -- the tests of the first, and then those of the others
  first_good : (next : ℕ) (x : A) (xs : List A) → good next (x ∷ xs) ≡ good_one next x && good (key x + 1) xs
  unfolding all rising
  first_good next x xs = both_first (leb next (key x) && ltb (key x) K) (rising K (key x + 1) (map key xs)) (fits x) (all fits xs)

  -- a key that passes is one of the keys
  pub good-below : (next : ℕ) (x : A) → (leb next (key x) && ltb (key x) K) ≡ true → key x < K
  good-below next x h = ltb-true _ _ (and_both (leb next (key x)) (ltb (key x) K) h).1

  -- the elements before i pass and are entered in the slots: the rest, where next is the least key that may come, decides and is entered there
  pub record Entering {S B : Type 0} (enter : List B → List A → List B) (g : S → B) (blank : B) (xs : List A) (i next : ℕ) (slots : List S) : Type 0 where
    pub test : good 0 xs ≡ good next (drop i xs)
    pub made : enter (replicate K blank) xs ≡ enter (first_of g K slots) (drop i xs)

module _ {A S B : Type 0} {key : A → ℕ} {fits : A → Bool} {K : ℕ} {enter : List B → List A → List B} {g : S → B} where
  -- at first there is the same in every slot
  pub entering-begins : (m : ℕ) (s : S) {xs : List A} → K ≤ m → Entering key fits K enter g (g s) xs 0 0 (replicate m s)
  entering-begins m s {xs} h = record { test = refl; made = ap (λ (l : List B). enter l xs) (sym (first-same g K m s h)) }

  module _ {blank : B} {xs : List A} {i next : ℕ} {slots : List S} (t : Entering key fits K enter g blank xs i next slots) where
    -- the next one does not pass
    pub entering-bad : (d : A) → i < length xs → good_one key fits K next (get_or xs i d) ≡ false → good key fits K 0 xs ≡ false
    entering-bad d l h =
        let x = get_or xs i d in
        let ys = drop (i + 1) xs in
        t.test ∙ ap (good key fits K next) (left xs i d l) ∙ first_good key fits K next x ys
        ∙ ap (λ (b : Bool). b && good key fits K (key x + 1) ys) h

    module _ {value : A → B} (e : Enters key value enter) where
      -- it passes, and the slot s holds what is entered
      pub entering-more : (d : A) (s : S) → i < length xs → (leb next (key (get_or xs i d)) && ltb (key (get_or xs i d)) K) ≡ true → fits (get_or xs i d) ≡ true
          → g s ≡ value (get_or xs i d) → Entering key fits K enter g blank xs (i + 1) (key (get_or xs i d) + 1) (set slots (key (get_or xs i d)) s)
      entering-more d s l h f q =
          let x = get_or xs i d in
          let ys = drop (i + 1) xs in
          record {
            test =
                t.test ∙ ap (good key fits K next) (left xs i d l) ∙ first_good key fits K next x ys
                ∙ rw (h, f);
            made = t.made ∙ rw (left xs i d l, e.next, first-set g K slots (key x) s (good-below key fits K next x h), q);
          }

      -- there is none left
      pub entering-end : length xs ≤ i → (good key fits K 0 xs ≡ true) × (first_of g K slots ≡ enter (replicate K blank) xs)
      unfolding all rising
      entering-end l =
          let n = none xs i l in
          (t.test ∙ ap (good key fits K next) n, sym (t.made ∙ rw (n, e.last)))

-- ---- Secrets and entries

pub hides-enters : Enters (λ (s : SecretRecord). s.key) key_of hides
unfolding hides
hides-enters = record { last = λ l. refl; next = λ l x xs. refl }

abbrev pub enters : List Entry → List EntryRecord → List Entry
enters l es = enters_all Number l (map entry_pair es)

pub entries-enter : Enters (λ (e : EntryRecord). e.key) (λ (e : EntryRecord). Number e.value) enters
unfolding enters_all
entries-enter = record { last = λ l. refl; next = λ l x xs. refl }

-- of a secret only its owner is left to test: its dummy is in range
pub secret-fits : (two : Bool) (s : SecretRecord) → SFits w32 s.dummy → secret_fits two s ≡ owner_fits two s.owner
secret-fits two s h = rw (in-range h) (and-true (owner_fits two s.owner))

-- an owner that is there is the one that the number names
pub owner-there : (b : Bool) {o q : Owner} → Some o ≡ cond b (Some q) None → (b ≡ true) × (o ≡ q)
owner-there true e = (refl, cc)
owner-there false e = cc

pub owner-none : (b : Bool) (q : Owner) → None ≡ cond b (Some q) None → b ≡ false
owner-none true q e = cc
owner-none false q e = refl
