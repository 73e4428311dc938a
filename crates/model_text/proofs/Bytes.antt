-- Which bytes a text has.
use mathlib.Core.Path.{◌≡◌, refl}
use mathlib.Core.Bool.{true}
use mathlib.Core.List.{List, [], ◌∷◌, ◌++◌, map}
use Prim.Native.Nat.{ℕ, ◌≤◌}
use native.Mathlib.Omega.{arith}
use borrow.Author.Tests.{ne_eqb}
use Rattle.model.specs.{Text.free, Accepted.Every}

-- ---- Facts of every element

module _ {A : Type 0} (P : A → Type 0) where
  pub every_append : (xs ys : List A) → Every P xs → Every P ys → Every P (xs ++ ys)
  every_append [] ys h k = k
  every_append (x ∷ xs) ys h k = (h.0, every_append xs ys h.1 k)

  pub every-last : (xs ys : List A) → Every P (xs ++ ys) → Every P ys
  every-last [] ys h = h
  every-last (x ∷ xs) ys h = every-last xs ys h.1

  -- elements between others, in place of ws
  pub every-instead : (xs ws ys zs : List A) → Every P ys → Every P (xs ++ (ws ++ zs)) → Every P (xs ++ (ys ++ zs))
  every-instead [] ws ys zs h k = every_append ys zs h (every-last ws zs k)
  every-instead (x ∷ xs) ws ys zs h k = (k.0, every-instead xs ws ys zs h k.1)

  pub every-imply : (Q : A → Type 0) → ((x : A) → P x → Q x) → (xs : List A) → Every P xs → Every Q xs
  every-imply Q f [] h = tt
  every-imply Q f (x ∷ xs) h = (f x h.0, every-imply Q f xs h.1)

-- of a list that is made from another
module _ {A B : Type 0} (g : A → B) (Q : B → Type 0) where
  pub every_made : ((x : A) → Q (g x)) → (xs : List A) → Every Q (map g xs)
  every_made h [] = tt
  every_made h (x ∷ xs) = (h x, every_made h xs)

  pub every-made-from : (P : A → Type 0) → ((x : A) → P x → Q (g x)) → (xs : List A) → Every P xs → Every Q (map g xs)
  every-made-from P h [] k = tt
  every-made-from P h (x ∷ xs) k = (h x k.0, every-made-from P h xs k.1)

-- ---- Bytes

abbrev pub Between : ℕ → ℕ → ℕ → Type 0
Between lo hi b = (lo ≤ b) × (b ≤ hi)

-- every byte lies from lo to hi
abbrev pub Spans : ℕ → ℕ → List ℕ → Type 0
Spans lo hi s = Every (Between lo hi) s

-- no c
abbrev pub Free : ℕ → List ℕ → Type 0
Free c s = free c s ≡ true

pub spans-wider : (lo hi lo' hi' : ℕ) → lo' ≤ lo → hi ≤ hi' → (s : List ℕ) → Spans lo hi s → Spans lo' hi' s
spans-wider lo hi lo' hi' l h = every-imply (Between lo hi) (Between lo' hi') (λ b p. (omega (arith, p.0), omega (arith, p.1)))

pub spans-free : (lo hi c : ℕ) → (Between lo hi c → ⊥) → (s : List ℕ) → Spans lo hi s → Free c s
unfolding free
spans-free lo hi c out [] h = refl
spans-free lo hi c out (b ∷ s) h =
    let n : b ≡ c → ⊥ = λ e. out (omega (arith, h.0.0, e), omega (arith, h.0.1, e)) in
    rw (ne_eqb b c n) (spans-free lo hi c out s h.1)
