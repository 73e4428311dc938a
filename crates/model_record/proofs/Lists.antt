-- Lists made from others and back, and what is covered of an array.
use mathlib.Core.Path.{◌≡◌, refl, ap, ◌∙◌}
use mathlib.Core.List.{List, [], ◌∷◌, map}
use Prim.Native.Nat.{ℕ, zero, suc, ◌≤◌}
use native.Mathlib.Omega.{arith}
use lib.{ListN.length, ListN.take, ListN.drop, ListN.length-map, ListN.length-take, Seq.take_at, Seq.length-take-le}
use Rattle.model.specs.{Accepted.Every, Placed.front}
use Rattle.model_record.specs.Record.{covered}

module _ {A B : Type 0} (f : A → B) where
  -- elements that g gives back
  pub map_back : (g : B → A) (xs : List A) → Every (λ (x : A). g (f x) ≡ x) xs → map g (map f xs) ≡ xs
  map_back g [] h = refl
  map_back g (x ∷ xs) h = λ i. h.0 i ∷ map_back g xs h.1 i

  -- where it gives back every element
  pub map-back-all : (g : B → A) → ((x : A) → g (f x) ≡ x) → (xs : List A) → map g (map f xs) ≡ xs
  map-back-all g h [] = refl
  map-back-all g h (x ∷ xs) = λ i. h x i ∷ map-back-all g h xs i

  -- what is made of the first elements are the first that are made
  pub take-map : (n : ℕ) (xs : List A) → take n (map f xs) ≡ map f (take n xs)
  take-map zero xs = refl
  take-map (suc n) [] = refl
  take-map (suc n) (x ∷ xs) = ap (λ (ys : List B). f x ∷ ys) (take-map n xs)

  -- what is made of the first n elements of an array that has so many
  pub made-count : (n : ℕ) (xs : List A) → n ≤ length xs → length (map f (take n xs)) ≡ n
  made-count n xs h = length-map (take n xs) f ∙ length-take-le n xs h

  -- and of any: there are no more
  pub made-most : (n : ℕ) (xs : List A) → length (map f (take n xs)) ≤ n
  made-most n xs = omega (arith, length-map (take n xs) f, length-take n xs)

  -- the same with their count, where g gives them back
  pub made_covered : (g : B → A) (n : ℕ) (xs : List A) → n ≤ length xs → Every (λ (x : A). g (f x) ≡ x) (take n xs)
      → (length (map f (take n xs)), map g (map f (take n xs))) ≡ covered n xs
  made_covered g n xs h e = λ i. (made-count n xs h i, map_back g (take n xs) e i)

-- two ways to make the same
pub map_same : {A B : Type 0} (f g : A → B) (xs : List A) → Every (λ (x : A). f x ≡ g x) xs → map f xs ≡ map g xs
map_same f g [] h = refl
map_same f g (x ∷ xs) h = λ i. h.0 i ∷ map_same f g xs h.1 i

-- a fact of every element, of the first
pub every_take : {A : Type 0} (P : A → Type 0) (n : ℕ) (xs : List A) → Every P xs → Every P (take n xs)
every_take P zero xs h = tt
every_take P (suc n) [] h = tt
every_take P (suc n) (x ∷ xs) h = (h.0, every_take P n xs h.1)

-- elements at the front of an array, by their count
pub front-taken : {A : Type 0} (m s : List A) (n : ℕ) → length s ≡ n → take n (front m s) ≡ s
unfolding front
front-taken m s n e = take_at s (drop (length s) m) n e

-- the first elements of an array, where their count covers them
pub covered-back : {A : Type 0} (n : ℕ) (xs ys : List A) → n ≤ length xs → ys ≡ take n xs → (length ys, ys) ≡ covered n xs
covered-back n xs ys h e = λ i. ((ap length e ∙ length-take-le n xs h) i, e i)
