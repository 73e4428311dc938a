-- What is claimed of clamped results holds.
use Prim.Native.Nat.{ℕ, zero, suc, ◌*◌, ◌/◌, ◌-◌, ◌<◌, ◌≤◌, zero-le}
use mathlib.Core.Path.{◌≡◌, refl, sym, ◌∙◌, ap, subst}
use mathlib.Core.Logic.{◌≢◌}
use mathlib.Core.Bool.{Bool, true, false, cond, true≢false}
use mathlib.Core.List.{[]}
use lib.{IntN.ℤ, IntN.negsuc, IntN.pos, IntN.neg_ℤ, ListN.get_or, ListN.replicate, Dec.ltb, Signed.mag, Signed.lt_z, Signed.quot_z}
use borrow.Author.Tests.{ltb-true, ltb-false, le-ltb}
use native.Mathlib.{Omega.arith, Nat.div-le_self, Nat.div-one, Nat.div-mul-le_self, Nat.mul-le-mul, Nat.le_refl, Nat.le_trans}
use Rattle.model.specs.{Limits.greatest_number, Number.is_zero}
use Rattle.model_run.specs.{Arith.least, Arith.greatest, Arith.clamp, Arith.outside, Arith.clamps_by, Arith.computed, Arith.sum, Arith.difference, Arith.product}
use Rattle.model_run.specs.{Arith.quotient, Arith.by_zero, Step.effect_by, Secrecy.of, Secrecy.OwnedBy, Secrecy.Alike, Examples.AllHold, Examples.lent_by_runsheet}
use Rattle.model_run.specs.Clamped.{Exact, exactly, none, exact_of, AlwaysSays, Clamps, AlwaysClamps, AtTheEnds, OneQuotient, doubling, doubling_job, HighUntold}
use Rattle.model_run.specs.Clamped.{sums, examples}
use Rattle.model_run.specs.Data.{Entry, Absent, Open, Op, Set, Add, Sub, Mul, Div, Read, Has, Put, Drop, IfNeg, IfZero, Jump, Receive, Send, Stop, Command, High}
use Rattle.model_run.specs.Data.{A}
use Rattle.model_run.proofs.{Turn.says, Turn.one-result, Examples.opened, Secrecy.sheet-secrecy}

-- ---- What a command says and stores

-- the number of an exact result, and that there is none
abbrev number_in : Exact → ℤ
number_in (exactly z) = z
number_in none = pos 0

abbrev IsNone : Exact → Type 0
IsNone (exactly z) = ⊥
IsNone none = Unit {0}

value_of : {w z : ℤ} → exactly w ≡ exactly z → (computed w).value ≡ (computed z).value
value_of h = ap (λ (x : Exact). (computed (number_in x)).value) h

none-is-none : {z : ℤ} → none ≡ exactly z → ⊥
none-is-none h = subst IsNone h tt

stores : (o : Op) (c : Command) (p : ℕ) (a b : ℤ) (e : Entry) (m end : ℕ) (z : ℤ) → exact_of o a b ≡ exactly z → (effect_by o c p a b e m end).value ≡ (computed z).value
unfolding exact_of sum difference product quotient
stores Add c p a b e m end z h = value_of h
stores Sub c p a b e m end z h = value_of h
stores Mul c p a b e m end z h = value_of h
stores Div c p a b e m end z h = go (is_zero b) h
  where
    go : (t : Bool) → cond t none (exactly (quot_z a b)) ≡ exactly z → (cond t by_zero (computed (quot_z a b))).value ≡ (computed z).value
    go true g = absurd (none-is-none g)
    go false g = value_of g
stores Set c p a b e m end z h = absurd (none-is-none h)
stores Read c p a b e m end z h = absurd (none-is-none h)
stores Has c p a b e m end z h = absurd (none-is-none h)
stores Put c p a b e m end z h = absurd (none-is-none h)
stores Drop c p a b e m end z h = absurd (none-is-none h)
stores IfNeg c p a b e m end z h = absurd (none-is-none h)
stores IfZero c p a b e m end z h = absurd (none-is-none h)
stores Jump c p a b e m end z h = absurd (none-is-none h)
stores Receive c p a b e m end z h = absurd (none-is-none h)
stores Send c p a b e m end z h = absurd (none-is-none h)
stores Stop c p a b e m end z h = absurd (none-is-none h)

pub always-says : AlwaysSays
always-says c p a b e m end = record { says = says c.op c p a b e m end; stores = stores c.op c p a b e m end }

-- ---- The range

pub always-clamps : AlwaysClamps
unfolding computed clamp outside
always-clamps z = go (lt_z z least) (lt_z greatest z) refl refl
  where
    go : (below above : Bool) → lt_z z least ≡ below → lt_z greatest z ≡ above → Clamps z
    go true above eb ea =
        record {
          beyond = λ o. ((λ same. let low : least ≡ z = rw eb at same in true≢false (sym eb ∙ ap (λ (y : ℤ). lt_z y least) (sym low))), rw eb);
          within = λ i. absurd (true≢false (rw eb at i));
        }
    go false true eb ea =
        record {
          beyond = λ o. ((λ same. let high : greatest ≡ z = rw (eb, ea) at same in true≢false (sym ea ∙ ap (lt_z greatest) (sym high))), rw (eb, ea));
          within = λ i. absurd (true≢false (rw (eb, ea) at i));
        }
    go false false eb ea = record { beyond = λ o. absurd (true≢false (sym (rw (eb, ea) at o))); within = λ i. (rw (eb, ea), rw (eb, ea)) }

-- so the value that is stored tells
pub tells-within : (z : ℤ) → clamp z ≡ z → outside z ≡ false
unfolding computed
tells-within z same = go (outside z) refl
  where
    go : (t : Bool) → outside z ≡ t → outside z ≡ false
    go true e = absurd (((always-clamps z).beyond e).0 same)
    go false e = e

pub tells-beyond : (z : ℤ) → clamp z ≢ z → outside z ≡ true
unfolding computed
tells-beyond z differs = go (outside z) refl
  where
    go : (t : Bool) → outside z ≡ t → outside z ≡ true
    go true e = e
    go false e = absurd (differs ((always-clamps z).within e).0)

-- of an operation there is at most one clamped result
pub computed-most : (z : ℤ) → (computed z).clamps ≤ 1
unfolding computed
computed-most z = one-result (outside z)

pub quotient-most : (a b : ℤ) → (quotient a b).clamps ≤ 1
unfolding quotient
quotient-most a b = go (is_zero b)
  where
    go : (t : Bool) → (cond t by_zero (computed (quot_z a b))).clamps ≤ 1
    go true = zero-le
    go false = computed-most (quot_z a b)

pub at-the-ends : AtTheEnds
unfolding outside
at-the-ends = record { least = refl; below = refl; greatest = refl; above = refl }

-- ---- Quotients

-- a number of the range is small, and the reverse
small : (z : ℤ) → outside z ≡ false → mag z ≤ greatest_number
unfolding outside
small (pos n) h = ltb-false greatest_number n h
small (negsuc n) h = go (ltb greatest_number n) refl
  where
    go : (t : Bool) → ltb greatest_number n ≡ t → n ≤ greatest_number
    go true e = absurd (true≢false (rw e at h))
    go false e = ltb-false greatest_number n e

in-range : (z : ℤ) → mag z ≤ greatest_number → outside z ≡ false
unfolding outside
in-range (pos n) h = le-ltb greatest_number n h
in-range (negsuc n) h = rw (le-ltb greatest_number n h)

-- a number with its sign turned is at most as large, and smaller below zero
pub mag-negpos : (n : ℕ) → mag (neg_ℤ (pos n)) ≤ n - 1
mag-negpos zero = omega arith
mag-negpos (suc n) = omega arith

-- a quotient by two or more is at most half
half : (n m : ℕ) → n / suc (suc m) * 2 ≤ n
half n m = le_trans (mul-le-mul (le_refl (n / suc (suc m))) (omega arith)) (div-mul-le_self n (suc (suc m)))

shut : (a b : ℤ) → mag (quot_z a b) ≤ greatest_number → outside (quot_z a b) ≡ true → ⊥
shut a b h o = true≢false (sym o ∙ in-range (quot_z a b) h)

one_outside : (a b : ℤ) → mag a ≤ greatest_number → outside (quot_z a b) ≡ true → (a ≡ least) × (b ≡ negsuc 0)
one_outside (pos a) (pos b) fa o = absurd (shut (pos a) (pos b) (omega (arith, div-le_self a b)) o)
one_outside (pos a) (negsuc b) fa o = absurd (shut (pos a) (negsuc b) (omega (arith, div-le_self a (suc b), mag-negpos (a / suc b))) o)
one_outside (negsuc a) (pos b) fa o = absurd (shut (negsuc a) (pos b) (omega (arith, div-le_self (suc a) b, mag-negpos (suc a / b))) o)
one_outside (negsuc a) (negsuc zero) fa o = go (ltb a greatest_number) refl
  where
    go : (t : Bool) → ltb a greatest_number ≡ t → (negsuc a ≡ least) × (◌≡◌ {A = ℤ} (negsuc zero) (negsuc 0))
    go true e = absurd (shut (negsuc a) (negsuc zero) (omega (arith, ltb-true a greatest_number e, div-one (suc a))) o)
    go false e = let same : a ≡ greatest_number = omega (arith, ltb-false a greatest_number e) in (ap negsuc same, refl)
one_outside (negsuc a) (negsuc (suc b)) fa o = absurd (shut (negsuc a) (negsuc (suc b)) (omega (arith, half (suc a) b)) o)

-- a clamped result lay outside
clamped-outside : (t : Bool) → clamps_by t ≡ 1 → t ≡ true
clamped-outside true e = refl
clamped-outside false e = absurd (omega arith)

only : (a b : ℤ) → outside a ≡ false → (quotient a b).clamps ≡ 1 → (a ≡ least) × (b ≡ negsuc 0)
unfolding quotient computed
only a b fa o = go (is_zero b) o
  where
    go : (t : Bool) → (cond t by_zero (computed (quot_z a b))).clamps ≡ 1 → (a ≡ least) × (b ≡ negsuc 0)
    go true h = absurd (omega arith)
    go false h = one_outside a b (small a fa) (clamped-outside (outside (quot_z a b)) h)

pub one-quotient : OneQuotient
unfolding quotient computed outside
one-quotient = record { does = refl; only = only }

-- ---- The seven numbers

alike : Alike (of A) (doubling_job (pos 2147483647)) (doubling_job (pos 1))
alike = record { keys = refl; commands = refl; turns = refl; count = refl; entries = go }
  where
    go : (j k : ℕ) → k < 1 → ¬ OwnedBy (of A) (get_or (doubling_job (pos 1)).keys k Open)
        → get_or (get_or (doubling_job (pos 2147483647)).messages j []) k Absent ≡ get_or (get_or (doubling_job (pos 1)).messages j []) k Absent
    go zero zero b own = absurd (own refl)
    go zero (suc k) b own = absurd (omega arith)
    go (suc j) k b own = refl

pub high-untold : HighUntold
unfolding opened doubling
high-untold =
    record {
      accepts_great = refl;
      accepts_small = refl;
      alike = alike;
      great = refl;
      small = refl;
      numbers = (sheet-secrecy (of A) (doubling "2147483647") (doubling "1") (doubling_job (pos 2147483647)) (doubling_job (pos 1)) (replicate lent_by_runsheet 0) refl refl alike).numbers;
    }

pub texts : AllHold examples
unfolding opened doubling sums examples
texts = (refl, (refl, (refl, (refl, (refl, tt)))))
