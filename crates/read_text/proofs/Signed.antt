-- The negation of a number from 1 to 2147483648, by way of an i64, is an i32.
use mathlib.Core.Path.{◌≡◌}
use Prim.Native.Nat.{ℕ, zero, suc, pred, ◌<◌, ◌≤◌, ◌^◌}
use native.Mathlib.Omega.{arith}
use lib.IntN.{pos, negsuc, ◌-ℤ◌, +ℤ_idl}
use Rattle.model.specs.Limits.{least_number}
use mir.{Syntax.w32, Syntax.w64, Val.SFits, Val.to_z, Val.of_z, ValLaws.to_z_pos, ValLaws.to_z-of_z}

pub negated : (n : ℕ) → 1 ≤ n → n ≤ least_number → (pos 0 -ℤ to_z w64 n) ≡ negsuc (pred n)
negated zero h b = absurd (omega arith)
negated (suc k) h b = rw (to_z_pos w64 (suc k) (omega arith)) (+ℤ_idl (negsuc k))

pub fits64 : (n : ℕ) → n ≤ least_number → SFits w64 (negsuc (pred n))
fits64 n b = record { sfits = below64 }
  where
    below64 : pred n < 2 ^ 63
    below64 = omega arith

pub fits32 : (n : ℕ) → 1 ≤ n → n ≤ least_number → SFits w32 (negsuc (pred n))
fits32 n h b = record { sfits = below32 }
  where
    below32 : pred n < 2 ^ 31
    below32 = omega arith

pub back : (n : ℕ) → 1 ≤ n → n ≤ least_number → to_z w32 (of_z w32 (to_z w64 (of_z w64 (pos 0 -ℤ to_z w64 n)))) ≡ negsuc (pred n)
back n h b = rw (negated n h b, to_z-of_z w64 (negsuc (pred n)) (fits64 n b), to_z-of_z w32 (negsuc (pred n)) (fits32 n h b))
