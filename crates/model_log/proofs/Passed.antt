-- What an export that gave messages went through.
use mathlib.Core.Path.{◌≡◌}
use mathlib.Core.List.{List, [], ◌∷◌, ◌++◌}
use Prim.Native.Nat.{ℕ, ◌<◌}
use lib.{Dec.ltb, ListN.length}
use borrow.Author.Tests.{ltb-true}
use Rattle.model.specs.{Parsed.Parsed, Parsed.got, Parsed.refused, Phase.one_more}
use Rattle.model.proofs.Parsed.{never, bind-got, need-got}
use Rattle.model_log.specs.Log.{or_bad}

module _ {A : Type 0} where
  pub or-bad-got : (r : Parsed A) (a : A) → or_bad r ≡ got a → r ≡ got a
  or-bad-got (got b) a e = e
  or-bad-got (refused n) a e = never e

-- one more, within the limit
module _ {A B : Type 0} (limit : ℕ) (f : B → Parsed A) (xs : List A) (v : B) where
  pub more-got : (ys : List A) → one_more limit f xs v ≡ got ys → (length xs < limit) × ((x : A) × (f v ≡ got x) × (xs ++ (x ∷ []) ≡ ys))
  unfolding one_more
  more-got ys e =
      let p = need-got (ltb (length xs) limit) 8 _ ys e in
      let q = bind-got (f v) _ ys p.1 in
      let x = q.0 in
      let h = q.2 in
      (ltb-true (length xs) limit p.0, (x, q.1, cc))
