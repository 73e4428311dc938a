-- What a reading that gave a value went through, beyond the laws of crate model.
use mathlib.Core.Path.{◌≡◌, refl}
use mathlib.Core.Bool.{Bool, true, false, cond}
use Prim.Native.Nat.{ℕ}
use Rattle.model.specs.Parsed.{Parsed, got, refused}
use Rattle.model.proofs.Parsed.{never}

-- a reading gives one value
pub got-is : {A : Type 0} {a b : A} → ◌≡◌ {A = Parsed A} (got a) (got b) → a ≡ b
got-is e = cc

module _ {A : Type 0} (n : ℕ) (r : Parsed A) (a : A) where
  -- a test that must hold held
  pub when-got : (t : Bool) → cond t r (refused n) ≡ got a → (t ≡ true) × (r ≡ got a)
  when-got true e = (refl, e)
  when-got false e = never e

  -- a test that must not hold did not
  pub unless-got : (t : Bool) → cond t (refused n) r ≡ got a → (t ≡ false) × (r ≡ got a)
  unless-got true e = never e
  unless-got false e = (refl, e)
