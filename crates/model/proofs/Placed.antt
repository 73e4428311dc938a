-- Laws of texts in lent memory: two texts placed one after the other are one text placed, the length stays, and a text that fits and is placed at 0 stands at
-- the front.
use mathlib.Core.Path.{◌≡◌, refl, ap, ◌∙◌}
use mathlib.Core.List.{List, [], ◌∷◌, ◌++◌, append_assoc}
use Prim.Native.Nat.{ℕ, suc, ◌+◌, ◌≤◌}
use native.Mathlib.{Omega.arith, Numerals.add-one, Nat.add-zero, Nat.zero-add}
use lib.{ListN.length, ListN.take, ListN.drop, ListN.set, ListN.length-set, ListN.length-append, ListN.length-drop, ListN.drop_of_length-le, Seq.sets, Seq.sets-eq}
use mathlib.Core.List.{append-nil}
use Rattle.model.specs.Placed.{placed, front}

-- nothing placed
pub placed-nil : {A : Type 0} (d : List A) (at : ℕ) → placed d at [] ≡ d
unfolding placed
placed-nil d at = refl

-- a byte stored, and a text placed behind it
pub placed-cons : {A : Type 0} (d : List A) (at : ℕ) (b : A) (s : List A) → placed (set d at b) (at + 1) s ≡ placed d at (b ∷ s)
unfolding placed
placed-cons d at b s = ap (λ (p : ℕ). placed (set d at b) p s) (add-one at)

-- the same, however the next place is written
pub placed-next : {A : Type 0} (d : List A) (at p : ℕ) (b : A) (s : List A) → p ≡ at + 1 → placed (set d at b) p s ≡ placed d at (b ∷ s)
placed-next d at p b s e = ap (λ (q : ℕ). placed (set d at b) q s) e ∙ placed-cons d at b s

pub placed-append : {A : Type 0} (d : List A) (at : ℕ) (s t : List A) → placed (placed d at s) (at + length s) t ≡ placed d at (s ++ t)
unfolding placed
placed-append d at [] t = ap (λ (p : ℕ). placed d p t) (add-zero at)
placed-append d at (b ∷ s) t =
    let e : at + suc (length s) ≡ suc at + length s = omega arith in
    ap (λ (p : ℕ). placed (placed (set d at b) (suc at) s) p t) e ∙ placed-append (set d at b) (suc at) s t

pub placed-length : {A : Type 0} (d : List A) (at : ℕ) (s : List A) → length (placed d at s) ≡ length d
unfolding placed
placed-length d at [] = refl
placed-length d at (b ∷ s) = placed-length (set d at b) (suc at) s ∙ length-set d at b

placed-sets : {A : Type 0} (d : List A) (at : ℕ) (s : List A) → placed d at s ≡ sets d at s
unfolding placed
placed-sets d at [] = refl
placed-sets d at (b ∷ s) = placed-sets (set d at b) (suc at) s

-- a text that fits, between the bytes before it and those behind it
pub placed-between : {A : Type 0} (d : List A) (at : ℕ) (s : List A) → at + length s ≤ length d → placed d at s ≡ take at d ++ (s ++ drop (at + length s) d)
placed-between d at s fits = placed-sets d at s ∙ sets-eq s d at fits ∙ append_assoc (take at d) s (drop (at + length s) d)

pub placed-front : {A : Type 0} (d s : List A) → length s ≤ length d → placed d 0 s ≡ front d s
unfolding front
placed-front d s fits =
    let z = zero-add (length s) in
    placed-between d 0 s (omega arith) ∙ ap (λ (n : ℕ). s ++ drop n d) z

pub front_length : {A : Type 0} (m s : List A) → length s ≤ length m → length (front m s) ≡ length m
unfolding front
front_length m s fits = omega (arith, length-append s (drop (length s) m), length-drop (length s) m)

-- a text as long as the memory is all of it
pub front-whole : {A : Type 0} (m s : List A) → length s ≡ length m → front m s ≡ s
unfolding front
front-whole {A} m s e = ap (λ (t : List A). s ++ t) (drop_of_length-le m {i = length s} (omega arith)) ∙ append-nil s
