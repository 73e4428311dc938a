-- What a reading that gave a value went through.
use mathlib.Core.Path.{◌≡◌, refl}
use mathlib.Core.Bool.{Bool, true, false}
use Prim.Native.Nat.{ℕ}
use native.Mathlib.Omega.{arith}
use Rattle.model.specs.Parsed.{Parsed, got, refused, need, ◌>>=◌, ◌>>◌}

pub never : {A B : Type 0} {n : ℕ} {a : A} → ◌≡◌ {A = Parsed A} (refused n) (got a) → B
never e = absurd (let z : ◌≡◌ {A = ℕ} 0 1 = cc in omega arith)

module _ {A B : Type 0} where
  pub bind-got : (r : Parsed A) (f : A → Parsed B) (b : B) → (r >>= f) ≡ got b → (a : A) × (r ≡ got a) × (f a ≡ got b)
  bind-got (got a) f b e = (a, refl, e)
  bind-got (refused n) f b e = never e

module _ {A : Type 0} where
  pub need-got : (t : Bool) (n : ℕ) (r : Parsed A) (a : A) → (need t n >> r) ≡ got a → (t ≡ true) × (r ≡ got a)
  need-got true n r a e = (refl, e)
  need-got false n r a e = never e
