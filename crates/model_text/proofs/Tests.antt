-- Tests of every element of a list: that all pass, as facts of what they test, and what a loop knows of them that goes
-- from one to the next.
use Prim.Native.Nat.{ℕ, zero, suc, ◌+◌, ◌<◌, ◌≤◌}
use mathlib.Core.Path.{◌≡◌, refl, sym, ap, ◌∙◌}
use mathlib.Core.Bool.{Bool, true, false, ◌&&◌, and-false, and-true}
use mathlib.Core.List.{List, [], ◌∷◌, map}
use native.Mathlib.{Numerals.add-one, Omega.arith}
use lib.{ListN.length, ListN.get_or, ListN.take, ListN.drop, ListN.drop_of_length-le}
use lib.Seq.{drop-cons, get_or-take, length-take-le}
use Rattle.model.specs.Accepted.{Every, all}
use Rattle.model_text.proofs.TextLaws.{and_both}

-- two tests that pass, as one
pub and-made : {a b : Bool} → a ≡ true → b ≡ true → (a && b) ≡ true
and-made h k = rw (h, k)

module _ {A : Type 0} (p : A → Bool) where
  -- an element passes
  abbrev pub Pass : A → Type 0
  Pass x = p x ≡ true

  -- every element passes
  pub all-every : (xs : List A) → all p xs ≡ true → Every Pass xs
  unfolding all
  all-every [] h = tt
  all-every (x ∷ xs) h = let b = and_both _ _ h in (b.0, all-every xs b.1)

  -- and back
  pub every-all : (xs : List A) → Every Pass xs → all p xs ≡ true
  unfolding all
  every-all [] h = refl
  every-all (x ∷ xs) h = and-made h.0 (every-all xs h.1)

  -- one of them does not pass, where the default would
  pub fails-at : (d : A) → p d ≡ true → (xs : List A) → all p xs ≡ false → (i : ℕ) × (p (get_or xs i d) ≡ false)
  unfolding all
  fails-at d h [] e = absurd (let z : ◌≡◌ {A = Bool} true false = e in let n : ◌≡◌ {A = ℕ} 0 1 = cc in omega arith)
  fails-at d h (x ∷ xs) e = go (fails-at d h xs) (p x) refl
    where
      go : (all p xs ≡ false → (i : ℕ) × (p (get_or xs i d) ≡ false)) → (b : Bool) → p x ≡ b → (i : ℕ) × (p (get_or (x ∷ xs) i d) ≡ false)
      go later false q = (zero, q)
      go later true q = let r = later (sym (ap (λ (b : Bool). b && all p xs) q) ∙ e) in (suc r.0, r.1)

  -- and back
  pub at-fails : (d : A) → p d ≡ true → (xs : List A) (i : ℕ) → p (get_or xs i d) ≡ false → all p xs ≡ false
  unfolding all
  at-fails d h [] zero e = sym h ∙ e
  at-fails d h [] (suc i) e = sym h ∙ e
  at-fails d h (x ∷ xs) zero e = rw e
  at-fails d h (x ∷ xs) (suc i) e = ap (λ (b : Bool). p x && b) (at-fails d h xs i e) ∙ and-false (p x)

-- of what f makes of each
pub all_map : {A B : Type 0} (p : B → Bool) (f : A → B) (xs : List A) → all p (map f xs) ≡ all (λ (x : A). p (f x)) xs
unfolding all
all_map p f [] = refl
all_map p f (x ∷ xs) = ap (λ (b : Bool). p (f x) && b) (all_map p f xs)

-- ---- What is left of the elements that the count covers

module _ {A : Type 0} (arr : List A) (count : ℕ) (l : count ≤ length arr) (i : ℕ) where
  -- one, and those behind it
  pub left-some : (d : A) → i < count → drop i (take count arr) ≡ get_or arr i d ∷ drop (i + 1) (take count arr)
  left-some d h = rw (add-one, ← (get_or-take count arr i d h)) (drop-cons (take count arr) i d (omega (arith, length-take-le count arr l)))

  -- none
  pub left-none : count ≤ i → drop i (take count arr) ≡ []
  left-none h = drop_of_length-le (take count arr) {i = i} (omega (arith, length-take-le count arr l))

-- ---- A test of every element without an exit: whether all those before i pass

pub record Told {A : Type 0} (p : A → Bool) (xs : List A) (i : ℕ) (fit : Bool) : Type 0 where
  pub same : all p xs ≡ fit && all p (drop i xs)

and_assoc : (a b c : Bool) → a && (b && c) ≡ (a && b) && c
and_assoc true b c = refl
and_assoc false b c = refl

module _ {A : Type 0} {p : A → Bool} {xs : List A} {i : ℕ} {fit : Bool} (t : Told p xs i fit) where
  -- one more, which passes or not
  pub told_more : {x : A} {q : Bool} → drop i xs ≡ x ∷ drop (i + 1) xs → q ≡ p x → Told p xs (i + 1) (fit && q)
  unfolding all
  told_more {x} e h =
      let rest = all p (drop (i + 1) xs) in
      record { same = t.same ∙ ap (λ (ys : List A). fit && all p ys) e ∙ and_assoc fit (p x) rest ∙ ap (λ (b : Bool). (fit && b) && rest) (sym h) }

  -- there is none left
  pub told-end : drop i xs ≡ [] → fit ≡ all p xs
  unfolding all
  told-end e = sym (t.same ∙ ap (λ (ys : List A). fit && all p ys) e ∙ and-true fit)

-- ---- A test of every element

-- the elements before i pass, so that the rest decides
pub record Tested {A : Type 0} (p : A → Bool) (xs : List A) (i : ℕ) : Type 0 where
  pub same : all p xs ≡ all p (drop i xs)

module _ {A : Type 0} {p : A → Bool} {xs : List A} {i : ℕ} (t : Tested p xs i) where
  -- the next one does not pass
  pub tested-bad : {x : A} {ys : List A} → drop i xs ≡ x ∷ ys → p x ≡ false → all p xs ≡ false
  unfolding all
  tested-bad e h = t.same ∙ rw (e, h)

  -- it passes
  pub tested-more : {x : A} → drop i xs ≡ x ∷ drop (i + 1) xs → p x ≡ true → Tested p xs (i + 1)
  unfolding all
  tested-more e h = record { same = t.same ∙ rw (e, h) }

  -- there is none left
  pub tested-end : drop i xs ≡ [] → all p xs ≡ true
  unfolding all
  tested-end e = t.same ∙ rw e
