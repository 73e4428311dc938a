-- What a refusal was before a closure gave it the number of its line.
use Rattle.std.specs.Prelude.{◌≡◌, Result, Ok, Err}
use Rattle.std.specs.Result.{MatchResult, IsErrAnd}
use Rattle.std.proofs.Common.{refl, subst}

-- r is what was read, and t the same, where Q says what the closure makes of a refusal
module _ {X E F : Type 0} (Q : E → F → Type 0) where
  pub named_ok : (r : Result X E) (t : Result X F) (x : X) → MatchResult r (λ y. t ≡ Ok y) (λ e. IsErrAnd t (Q e)) → t ≡ Ok x → r ≡ Ok x
  named_ok (Ok y) t x h e = cc
  named_ok (Err y) (Ok z) x h e = absurd h
  named_ok (Err y) (Err z) x h e = cc

  pub named-err : (r : Result X E) (t : Result X F) (f : F) → MatchResult r (λ y. t ≡ Ok y) (λ e. IsErrAnd t (Q e)) → t ≡ Err f → (e : E) × (r ≡ Err e) × Q e f
  named-err (Ok y) t f h q = cc
  named-err (Err y) (Ok z) f h q = absurd h
  named-err (Err y) (Err z) f h q = let p : z ≡ f = cc in (y, refl, subst (Q y) p h)
