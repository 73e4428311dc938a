-- Bounds on the integers that the machine's signed operations ask, what std's `clamp` and `computed` are, and one law
-- for every operation that is done at `i64` and then computed. Assumes nothing.
use mathlib.Core.Path.{◌≡◌, refl, sym, ap, ap₂, ◌∙◌}
use mathlib.Core.Bool.{Bool, true, false, not, cond}
use Prim.Native.Nat.{ℕ, suc, ◌/◌, ◌^◌, ◌≤◌, ◌<◌}
use native.Mathlib.{Nat.div-le_self, Omega.arith}
use lib.{IntN.ℤ, IntN.pos, IntN.negsuc, IntN.◌+ℤ◌, IntN.◌-ℤ◌, IntN.◌*ℤ◌, Dec.eqb, Dec.lit<, Signed.◌≤ℤ◌, Signed.mag, Signed.lt_z, Signed.quot_z}
use borrow.Author.Rules.{rules}
use borrow.Author.Differences.{fits_in}
use borrow.Author.Tests.{eqb-true, eqb-false}
use mir.{Val.bool_byte, Syntax.w32, Syntax.w64, Val.SFits, Val.to_z, Val.of_z, Facts.to_z-of_z}
use Rattle.std.specs.Int.{int_max, int_min}
use Rattle.std.proofs.lemmas.Int.{ints, fits_signed_mul}
use Rattle.model.specs.{Number.is_zero}
use Rattle.model_run.specs.{Arith.clamp, Arith.outside, Arith.clamps_by, Arith.computed, Arith.quotient, Arith.by_zero, Arith.least, Arith.greatest}
use Rattle.model.specs.declared.Computed.{Computed}
use Rattle.model_run.proofs.Clamped.{mag-negpos, tells-within, tells-beyond}

-- what a call returned, read back from its bits
pub returned : {r z : ℤ} → mag r < 2 ^ 31 → r ≡ z → to_z w32 (of_z w32 r) ≡ z
returned ok e = to_z-of_z {w = w32} (record { sfits = ok }) ∙ e

-- ---- The range

-- std's `clamp` to the range is the definition's
clamped-is : (z : ℤ) → int_max least (int_min z greatest) ≡ clamp z
unfolding clamp
clamped-is z = go (lt_z z least) (lt_z greatest z) refl refl
  where
    go : (below above : Bool) → lt_z z least ≡ below → lt_z greatest z ≡ above
        → int_max least (int_min z greatest) ≡ cond (lt_z z least) least (cond (lt_z greatest z) greatest z)
    go true true h k = absurd (grind (arith, ints))
    go true false h k = simp (h, k)
    go false true h k = simp (h, k)
    go false false h k = simp (h, k)

-- the value that is stored tells whether the exact result lay outside; the machine compares the two by their bits
module _ {x v : ℤ} {n : ℕ} (f : SFits w64 x) (low : least ≤ℤ v) (high : v ≤ℤ greatest) where
  module _ (ev : v ≡ int_max least (int_min (to_z w64 (of_z w64 x)) greatest)) (en : n ≡ bool_byte (not (eqb (of_z w64 v) (of_z w64 x)))) where
    value-is : v ≡ clamp x
    value-is = ev ∙ ap (λ (z : ℤ). int_max least (int_min z greatest)) (to_z-of_z f) ∙ clamped-is x

    fits : SFits w32 v
    fits = search (rules, ints)

    wider : SFits w64 v
    wider = search (rules, ints)

    clamps-is : n ≡ clamps_by (outside x)
    clamps-is = go (eqb (of_z w64 v) (of_z w64 x)) refl
      where
        go : (t : Bool) → eqb (of_z w64 v) (of_z w64 x) ≡ t → n ≡ clamps_by (outside x)
        go true h =
            let same : v ≡ x = sym (to_z-of_z wider) ∙ ap (to_z w64) (eqb-true _ _ h) ∙ to_z-of_z f in
            en ∙ ap (λ (t : Bool). bool_byte (not t)) h ∙ ap clamps_by (sym (tells-within x (sym value-is ∙ same)))
        go false h =
            en ∙ ap (λ (t : Bool). bool_byte (not t)) h
            ∙ ap clamps_by (sym (tells-beyond x (λ same. eqb-false _ _ h (ap (of_z w64) (value-is ∙ same)))))

    pub computed-is : record { value = to_z w32 (of_z w32 (to_z w64 (of_z w64 v))); clamps = n } ≡ computed x
    unfolding computed
    computed-is = ap₂ (λ (z : ℤ) (m : ℕ). record { value = z; clamps = m }) (ap (λ (z : ℤ). to_z w32 (of_z w32 z)) (to_z-of_z wider) ∙ to_z-of_z fits ∙ value-is) clamps-is

-- ---- The operations

mag-quot : (a b : ℤ) → mag (quot_z a b) ≤ suc (mag a)
mag-quot (pos a) (pos b) = omega (arith, div-le_self a b)
mag-quot (pos a) (negsuc b) = omega (arith, div-le_self a (suc b), mag-negpos (a / suc b))
mag-quot (negsuc a) (pos b) = omega (arith, div-le_self (suc a) b, mag-negpos (suc a / b))
mag-quot (negsuc a) (negsuc b) = omega (arith, div-le_self (suc a) (suc b))

-- of two numbers of the range, each fits an `i64`
module _ {a b : ℤ} (fa : SFits w32 a) (fb : SFits w32 b) where
  pub add-fits : SFits w64 (a +ℤ b)
  add-fits = fits_in w64 (a +ℤ b) (omega (arith, ints))

  pub sub-fits : SFits w64 (a -ℤ b)
  sub-fits = fits_in w64 (a -ℤ b) (omega (arith, ints))

  pub mul-fits : SFits w64 (a *ℤ b)
  mul-fits = fits_signed_mul w64 a b 2147483648 2147483648 (omega (arith, ints)) (omega (arith, ints)) (lit< tt)

  pub quot_fits : SFits w64 (quot_z a b)
  quot_fits = record { sfits = omega (arith, mag-quot a b) }

-- what is computed of the exact result, where x and y are a and b at `i64`
operand : {a x : ℤ} → SFits w32 a → x ≡ to_z w32 (of_z w32 a) → to_z w64 (of_z w64 x) ≡ a
operand fa ex = ap (λ (z : ℤ). to_z w64 (of_z w64 z)) (ex ∙ to_z-of_z fa) ∙ to_z-of_z {w = w64} (search (rules, ints))

pub answered : (op : ℤ → ℤ → ℤ) {a b x y : ℤ} → SFits w32 a → SFits w32 b → x ≡ to_z w32 (of_z w32 a) → y ≡ to_z w32 (of_z w32 b) → SFits w64 (op a b)
    → {r : Computed} → r ≡ computed (to_z w64 (of_z w64 (op (to_z w64 (of_z w64 x)) (to_z w64 (of_z w64 y))))) → r ≡ computed (op a b)
answered op fa fb ex ey fits e =
    e ∙ ap computed (ap₂ (λ (u v : ℤ). to_z w64 (of_z w64 (op u v))) (operand fa ex) (operand fb ey) ∙ to_z-of_z {w = w64} fits)

-- the cases of `quotient`: a divisor's bits are 0 where it is 0, and only there
pub div-by-zero : (a b : ℤ) → SFits w32 b → of_z w32 b ≡ 0 → by_zero ≡ quotient a b
unfolding quotient
div-by-zero a b f h = let e : is_zero b ≡ true = grind (arith, ints) in simp e

pub div-by : (a b : ℤ) → SFits w32 b → (of_z w32 b ≡ 0 → ⊥) → computed (quot_z a b) ≡ quotient a b
unfolding quotient
div-by a b f h = let e : is_zero b ≡ false = grind (arith, ints) in simp e
