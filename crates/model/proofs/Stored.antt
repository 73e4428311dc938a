-- Laws of an array of which the first n elements count, as f shows them.
use Prim.Native.Nat.{ℕ, zero, suc, ◌+◌, ◌<◌, ◌≤◌}
use mathlib.Core.Path.{◌≡◌, refl, sym, ap, ◌∙◌}
use mathlib.Core.Bool.{cond}
use mathlib.Core.List.{List, [], ◌∷◌, ◌++◌, map, map-append}
use native.Mathlib.{Decide.dec_lt, Numerals.add-one, Omega.arith}
use borrow.Author.Tests.{lt-ltb, le-ltb}
use lib.{Dec.ltb, ListN.length, ListN.get_or, ListN.take, ListN.set, ListN.replicate, ListN.length-map, ListN.get_or-map, ListN.get_or-eq_default, Seq.take-set-lt}
use lib.{Seq.take-suc-set, Seq.get_or-take, Seq.length-take-le}
use Rattle.model.specs.Stored.{first_of}

module _ {S A : Type 0} (f : S → A) where
  pub map-set : (xs : List S) (i : ℕ) (x : S) → map f (set xs i x) ≡ set (map f xs) i (f x)
  map-set [] i x = refl
  map-set (y ∷ xs) zero x = refl
  map-set (y ∷ xs) (suc i) x = ap (λ (l : List A). f y ∷ l) (map-set xs i x)

  -- one element more that counts
  pub first-set : (n : ℕ) (xs : List S) (i : ℕ) (x : S) → i < n → first_of f n (set xs i x) ≡ set (first_of f n xs) i (f x)
  first-set n xs i x h = rw (map-set xs i x) (take-set-lt n (map f xs) i (f x) h)

  -- all the same
  pub first-same : (n m : ℕ) (x : S) → n ≤ m → first_of f n (replicate m x) ≡ replicate n (f x)
  first-same zero m x h = refl
  first-same (suc n) zero x h = absurd (omega arith)
  first-same (suc n) (suc m) x h = ap (λ (l : List A). f x ∷ l) (first-same n m x (omega arith))

  pub first-at : (n : ℕ) (xs : List S) (k : ℕ) (d : S) → k < n → get_or (first_of f n xs) k (f d) ≡ f (get_or xs k d)
  first-at n xs k d h = get_or-take n (map f xs) k (f d) h ∙ get_or-map f xs k d

  -- one element more behind those that count
  pub map_more : (n : ℕ) (xs : List S) (x : S) → n < length xs → map f (take (n + 1) (set xs n x)) ≡ map f (take n xs) ++ (f x ∷ [])
  map_more n xs x h = rw (add-one, take-suc-set xs n x h) (map-append f (take n xs) (x ∷ []))

  -- the element at a place that the array has, where it counts
  map_below : (n : ℕ) (xs : List S) (k : ℕ) (d : S) (e : A) → k < n → k < length xs → get_or (map f (take n xs)) k e ≡ f (get_or xs k d)
  map_below n [] k d e b h = absurd (omega arith)
  map_below zero (x ∷ xs) k d e b h = absurd (omega arith)
  map_below (suc n) (x ∷ xs) zero d e b h = refl
  map_below (suc n) (x ∷ xs) (suc k) d e b h = map_below n xs k d e (omega arith) (omega arith)

  pub map_at : (n : ℕ) (xs : List S) (k : ℕ) (d : S) (e : A) → k < length xs → get_or (map f (take n xs)) k e ≡ cond (ltb k n) (f (get_or xs k d)) e
  map_at n xs k d e h = go (dec_lt k n)
    where
      go : Dec (k < n) → get_or (map f (take n xs)) k e ≡ cond (ltb k n) (f (get_or xs k d)) e
      go (yes b) = map_below n xs k d e b h ∙ sym (rw (lt-ltb _ _ b))
      go (no b) =
          let end : n ≤ k = omega arith in
          get_or-eq_default (map f (take n xs)) e (omega (arith, length-map (take n xs) f, length-take-le n xs (omega arith))) ∙ sym (rw (le-ltb _ _ end))

  pub first_count : (n : ℕ) (xs : List S) → n ≤ length xs → length (first_of f n xs) ≡ n
  first_count n xs h = length-take-le n (map f xs) (rw (length-map xs f) h)
