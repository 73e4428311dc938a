-- The fields that a message line fills and the columns of a sent line, key by key.
use Prim.Native.Nat.{ℕ, zero, suc, ◌+◌, ◌<◌}
use mathlib.Core.Path.{◌≡◌, refl, sym, ◌∙◌, ap}
use mathlib.Core.List.{List, [], ◌∷◌}
use lib.ListN.{length, get_or, drop}
use native.Mathlib.{Omega.arith, Nat.add-zero}
use Rattle.model_run.specs.Message.{shown, fill, source, columns}
use Rattle.model_run.specs.Data.{Entry, Absent, Key, Open, Level}

get_d_tail : {A : Type 0} (s : List A) (k : ℕ) (d : A) → get_or (drop 1 s) k d ≡ get_or s (suc k) d
get_d_tail [] k d = refl
get_d_tail (x ∷ s) k d = refl

pub fill-length : (l : Level) (ks : List Key) (es : List Entry) → length (fill l ks es) ≡ length ks
unfolding fill
fill-length l [] es = refl
fill-length l (k ∷ ks) es = ap suc (fill-length l ks (drop 1 es))

pub fill-at : (l : Level) (ks : List Key) (es : List Entry) (k : ℕ) → k < length ks → get_or (fill l ks es) k Absent ≡ shown l (get_or ks k Open) (get_or es k Absent)
unfolding fill
fill-at l [] es k h = absurd (omega arith)
fill-at l (x ∷ ks) es zero h = refl
fill-at l (x ∷ ks) es (suc k) h = fill-at l ks (drop 1 es) k (omega arith) ∙ ap (shown l (get_or ks k Open)) (get_d_tail es k Absent)

pub columns-length : (i : ℕ) (ks : List Key) (f : Level → List Entry) → length (columns i ks f) ≡ length ks
unfolding columns
columns-length i [] f = refl
columns-length i (k ∷ ks) f = ap suc (columns-length (suc i) ks f)

pub columns-at : (i : ℕ) (ks : List Key) (f : Level → List Entry) (k : ℕ) → k < length ks → get_or (columns i ks f) k Absent ≡ get_or (f (source (get_or ks k Open))) (i + k) Absent
unfolding columns
columns-at i [] f k h = absurd (omega arith)
columns-at i (x ∷ ks) f zero h = ap (λ (n : ℕ). get_or (f (source x)) n Absent) (sym (add-zero i))
columns-at i (x ∷ ks) f (suc k) h = columns-at (suc i) ks f k (omega arith) ∙ ap (λ (n : ℕ). get_or (f (source (get_or ks k Open))) n Absent) (omega arith)
