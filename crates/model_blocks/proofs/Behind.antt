-- A block behind another.
use Prim.Native.Nat.{ℕ, ◌+◌}
use mathlib.Core.Path.{◌≡◌, refl, sym, ap, ◌∙◌}
use mathlib.Core.List.{List, [], ◌∷◌, ◌++◌, append_assoc}
use native.Mathlib.Omega.{arith}
use Rattle.model.specs.declared.Command.{Command}
use Rattle.model_blocks.specs.Block.{Block, empty, own, if_only, if_else, while, places, test_to, jump_to, translate, ◌then◌}

pub then-empty : (a : Block) → a then empty ≡ a
unfolding ◌then◌
then-empty empty = refl
then-empty (own c b) = ap (own c) (then-empty b)
then-empty (if_only v a b) = ap (if_only v a) (then-empty b)
then-empty (if_else v a o b) = ap (if_else v a o) (then-empty b)
then-empty (while v a b) = ap (while v a) (then-empty b)

pub then-assoc : (a b d : Block) → (a then b) then d ≡ a then (b then d)
unfolding ◌then◌
then-assoc empty b d = refl
then-assoc (own c a) b d = ap (own c) (then-assoc a b d)
then-assoc (if_only v x a) b d = ap (if_only v x) (then-assoc a b d)
then-assoc (if_else v x o a) b d = ap (if_else v x o) (then-assoc a b d)
then-assoc (while v x a) b d = ap (while v x) (then-assoc a b d)

pub places_then : (a b : Block) → places (a then b) ≡ places a + places b
unfolding ◌then◌ places
places_then empty b = omega arith
places_then (own c a) b = omega (arith, places_then a b)
places_then (if_only v x a) b = omega (arith, places_then a b)
places_then (if_else v x o a) b = omega (arith, places_then a b)
places_then (while v x a) b = omega (arith, places_then a b)

-- A block behind another is translated for the place behind it: what stands before it, and its own rest
module _ (b : Block) where
  from_place : {p q : ℕ} → p ≡ q → translate p b ≡ translate q b
  from_place e = ap (λ (r : ℕ). translate r b) e

  -- some commands, the rest a from the place e on, and then b
  further : (xs : List Command) (e q : ℕ) (a : Block) → translate e (a then b) ≡ translate e a ++ translate (e + places a) b → e + places a ≡ q
      → xs ++ translate e (a then b) ≡ (xs ++ translate e a) ++ translate q b
  further xs e q a h r =
      ap (λ (l : List Command). xs ++ l) (h ∙ ap (λ (l : List Command). translate e a ++ l) (from_place r))
      ∙ sym (append_assoc xs (translate e a) (translate q b))

  pub translate-then : (p : ℕ) (a : Block) → translate p (a then b) ≡ translate p a ++ translate (p + places a) b
  unfolding ◌then◌ translate places
  translate-then p empty = from_place (omega arith)
  translate-then p (own c a) = further (c ∷ []) (p + 1) (p + (1 + places a)) a (translate-then (p + 1) a) (omega arith)
  translate-then p (if_only v x a) =
      let e = p + 1 + places x in
      further (test_to e v ∷ translate (p + 1) x) e (p + (1 + places x + places a)) a (translate-then e a) (omega arith)
  translate-then p (if_else v x o a) =
      let m = p + 1 + places x + 1 in
      let e = m + places o in
      let q = p + (1 + places x + 1 + places o + places a) in
      let first = test_to m v ∷ translate (p + 1) x in
      ap (λ (l : List Command). first ++ (jump_to e ∷ l)) (further (translate m o) e q a (translate-then e a) (omega arith))
      ∙ sym (append_assoc first (jump_to e ∷ (translate m o ++ translate e a)) (translate q b))
  translate-then p (while v x a) =
      let e = p + 1 + places x + 1 in
      let q = p + (1 + places x + 1 + places a) in
      let first = test_to e v ∷ translate (p + 1) x in
      ap (λ (l : List Command). first ++ l) (further (jump_to p ∷ []) e q a (translate-then e a) (omega arith))
      ∙ sym (append_assoc first (jump_to p ∷ translate e a) (translate q b))
