-- The keys of the first row rise, and each is one of the eight.
use mathlib.Core.Path.{◌≡◌, subst}
use mathlib.Core.List.{List, [], ◌∷◌}
use Prim.Native.Nat.{ℕ, zero, suc, ◌+◌, ◌<◌, ◌≤◌}
use native.Mathlib.Omega.{arith}
use lib.{Dec.leb, ListN.length, ListN.get_or}
use borrow.Author.Tests.{leb-true}
use Rattle.model.specs.{Parsed.got, Number.up_to}
use Rattle.model.proofs.{Parsed.bind-got, Parsed.need-got, Accepted.up-to-bound}
use Rattle.model_log.specs.Log.{Row, key_numbers, fields, header, greatest_key, or_bad}
use Rattle.model_log.specs.Claims.{Rising}
use Rattle.model_log.proofs.Passed.{or-bad-got}

-- each key is at least the one that may come next, which is one above the key before it, and at most the greatest
abbrev pub Climbs : ℕ → List ℕ → Type 0
Climbs next [] = Unit {0}
Climbs next (k ∷ ks) = (next ≤ k) × (k ≤ greatest_key) × Climbs (k + 1) ks

-- what the keys of a first row went through
keys-got : (next : ℕ) (f : List ℕ) (fs : List (List ℕ)) (ks : List ℕ) → key_numbers next (f ∷ fs) ≡ got ks
    → (k : ℕ) × (js : List ℕ) × (k ∷ js ≡ ks) × (next ≤ k) × (k ≤ greatest_key) × (key_numbers (k + 1) fs ≡ got js)
unfolding key_numbers
keys-got next f fs ks e =
    let p = bind-got (or_bad (up_to greatest_key f)) _ ks e in
    let k = p.0 in
    let q = need-got (leb next k) 42 _ ks p.2 in
    let r = bind-got (key_numbers (k + 1) fs) _ ks q.1 in
    let same = r.2 in
    (k, r.0, cc, leb-true next k q.0, up-to-bound greatest_key k f (or-bad-got (up_to greatest_key f) k p.1), r.1)

keys-climb : (next : ℕ) (fs : List (List ℕ)) (ks : List ℕ) → key_numbers next fs ≡ got ks → Climbs next ks
unfolding key_numbers
keys-climb next [] ks e = let p : [] ≡ ks = cc in subst (Climbs next) p tt
keys-climb next (f ∷ fs) ks e = let g = keys-got next f fs ks e in subst (Climbs next) g.2 (g.3, g.4, keys-climb (g.0 + 1) fs g.1 g.5)

climbs-most : (next : ℕ) (ks : List ℕ) → Climbs next ks → (j : ℕ) → j < length ks → get_or ks j 0 ≤ greatest_key
climbs-most next [] h j l = absurd (omega arith)
climbs-most next (k ∷ ks) h zero l = h.1
climbs-most next (k ∷ ks) h (suc j) l = climbs-most (k + 1) ks h.2 j (omega arith)

pub climbs-least : (next : ℕ) (ks : List ℕ) → Climbs next ks → (j : ℕ) → j < length ks → next + j ≤ get_or ks j 0
climbs-least next [] h j l = absurd (omega arith)
climbs-least next (k ∷ ks) h zero l = omega (arith, h.0)
climbs-least next (k ∷ ks) h (suc j) l = omega (arith, h.0, climbs-least (k + 1) ks h.2 j (omega arith))

climbs-rise : (next : ℕ) (ks : List ℕ) → Climbs next ks → (i j : ℕ) → i < j → j < length ks → get_or ks i 0 < get_or ks j 0
climbs-rise next [] h i j l m = absurd (omega arith)
climbs-rise next (k ∷ ks) h i zero l m = absurd (omega arith)
climbs-rise next (k ∷ ks) h zero (suc j) l m = omega (arith, climbs-least (k + 1) ks h.2 j (omega arith))
climbs-rise next (k ∷ ks) h (suc i) (suc j) l m = climbs-rise (k + 1) ks h.2 i j (omega arith) (omega arith)

pub climbs-rising : (next : ℕ) (ks : List ℕ) → Climbs next ks → Rising ks
climbs-rising next ks h = record { rise = climbs-rise next ks h; most = climbs-most next ks h }

pub header-climbs : (r : Row) (ks : List ℕ) → header r ≡ got ks → Climbs 0 ks
unfolding header
header-climbs r ks e = let p = bind-got (fields r) (key_numbers 0) ks e in keys-climb 0 p.0 ks p.2
