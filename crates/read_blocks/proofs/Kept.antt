-- The commands that are kept in a memory: a test is kept once the commands behind it are.
use Prim.Native.Nat.{ℕ, ◌+◌, ◌<◌}
use mathlib.Core.Path.{◌≡◌, ap, ◌∙◌}
use mathlib.Core.List.{List, [], ◌∷◌, ◌++◌, append_assoc}
use native.Mathlib.{Omega.arith, Numerals.add-one}
use lib.{ListN.length, ListN.take, ListN.set, ListN.get_or}
use lib.{Seq.take-suc, Seq.take-set-lt, Seq.take-suc-set, Seq.length-take-le, Seq.set_at}

-- the first t of m, and behind them the place t and xs: the place t gets x
pub kept-before : (m m' : List ℕ) (t n x : ℕ) (xs : List ℕ) → t < length m → t < n → take n m' ≡ take (t + 1) m ++ xs → take n (set m' t x) ≡ take t m ++ (x ∷ xs)
kept-before m m' t n x xs inside before e =
    take-set-lt n m' t x before
    ∙ ap (λ (l : List ℕ). set l t x) (e ∙ ap (λ (k : ℕ). take k m ++ xs) (add-one t) ∙ ap (λ (l : List ℕ). l ++ xs) (take-suc m t 0 inside) ∙ append_assoc (take t m) (get_or m t 0 ∷ []) xs)
    ∙ set_at (take t m) (get_or m t 0) xs x t (length-take-le t m (omega arith))

-- one more behind n
pub kept-behind : (m : List ℕ) (n x : ℕ) → n < length m → take (n + 1) (set m n x) ≡ take n m ++ (x ∷ [])
kept-behind m n x h = ap (λ (k : ℕ). take k (set m n x)) (add-one n) ∙ take-suc-set m n x h
