-- One turn of a `for` over what an iterator yields: the items that are left.
use Rattle.std.proofs.Common.{◌≡◌, ◌∙◌, ◌+◌, List, [], ◌∷◌, length, drop, Option, Some, None, sym, ap, arith}
use Rattle.std.proofs.lemmas.Iterator.{YieldsList, Consumers.YieldsList-turn, Consumers.YieldsList-end}
use Rattle.std.proofs.lemmas.List.{at_drop_more, at_drop_all}
use Rattle.std.specs.Iterator.{Yields}

module _ {S A B : Type 0} {steps : S → Option A → S → Type 0} {v : A → B} {s : S} {all : List B} (e : YieldsList steps v s all) (xs : List A) (t : S) (y : Yields steps s xs t) where
  pub next_item : {r : Option A} {u : S} {x : A} → r ≡ Some x → steps t r u → drop (length xs) all ≡ v x ∷ drop (length xs + 1) all
  next_item {r} {u} {x} is p =
      let k = YieldsList-turn e xs t y r u x is p in
      at_drop_more (λ l. l) all (length xs) (v x) k.0 ∙ ap (λ z. z ∷ drop (length xs + 1) all) (sym k.1)

  pub no-item : {r : Option A} {u : S} → r ≡ None → steps t r u → drop (length xs) all ≡ []
  no-item {r} {u} is p = at_drop_all (λ l. l) all (length xs) (omega (arith, (YieldsList-end e xs t y r u is p).1))
