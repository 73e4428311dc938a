-- The translation of a block stands where it was made for: code at a place.
use Prim.Native.Nat.{ℕ, ◌+◌, ◌<◌}
use mathlib.Core.Path.{◌≡◌, refl, sym, ◌∙◌, ap, subst}
use mathlib.Core.List.{List, [], ◌∷◌, ◌++◌}
use lib.ListN.{length, get_or, length-append}
use lib.Seq.{get_or-append_seam, append_snoc}
use native.Mathlib.Omega.{arith}
use Rattle.model.specs.Command.{blank}
use Rattle.model.specs.declared.Command.{Command}
use Rattle.model.specs.declared.Op.TheVariants.{Set}
use Rattle.model_blocks.specs.Block.{Block, empty, own, if_only, if_else, while, places, translate}

-- there are as many commands as places
pub length-translate : (p : ℕ) (b : Block) → length (translate p b) ≡ places b
unfolding translate places
length-translate p empty = refl
length-translate p (own c b) = omega (arith, length-translate (p + 1) b)
length-translate p (if_only v a b) = simp length-append (omega (arith, length-translate (p + 1) a, length-translate (p + 1 + places a) b))
length-translate p (if_else v a o b) = simp length-append (omega (arith, length-translate (p + 1) a, length-translate (p + 1 + places a + 1) o, length-translate (p + 1 + places a + 1 + places o) b))
length-translate p (while v a b) = simp length-append (omega (arith, length-translate (p + 1) a, length-translate (p + 1 + places a + 1) b))

-- ---- Code at a place

-- the command at place p of a program is c
pub record StandsAt (cs : List Command) (p : ℕ) (c : Command) : Type 0 where
  pub within : p < length cs
  pub is : get_or cs p (blank Set) ≡ c

-- from place p on a program has these commands
abbrev pub HoldsAt : List Command → ℕ → List Command → Type 0
HoldsAt cs p [] = Unit {0}
HoldsAt cs p (d ∷ ds) = StandsAt cs p d × HoldsAt cs (p + 1) ds

module _ (cs : List Command) where
  pub holds-front : (p : ℕ) (ds es : List Command) → HoldsAt cs p (ds ++ es) → HoldsAt cs p ds
  holds-front p [] es h = tt
  holds-front p (d ∷ ds) es h = (h.0, holds-front (p + 1) ds es h.1)

  holds-rest : (p q : ℕ) (ds es : List Command) → p + length ds ≡ q → HoldsAt cs p (ds ++ es) → HoldsAt cs q es
  holds-rest p q [] es e h = subst (λ (r : ℕ). HoldsAt cs r es) (omega arith) h
  holds-rest p q (d ∷ ds) es e h = holds-rest (p + 1) q ds es (omega arith) h.1

  -- behind the translation of a block
  pub holds_after : (p : ℕ) (b : Block) (es : List Command) → HoldsAt cs p (translate p b ++ es) → HoldsAt cs (p + places b) es
  holds_after p b es h = holds-rest p (p + places b) (translate p b) es (ap (λ (n : ℕ). p + n) (length-translate p b)) h

  holds-end : (xs ds : List Command) → cs ≡ xs ++ ds → HoldsAt cs (length xs) ds
  holds-end xs [] e = tt
  holds-end xs (d ∷ ds) e = (
    record { within = omega (arith, ap length e, length-append xs (d ∷ ds)); is = ap (λ (l : List Command). get_or l (length xs) (blank Set)) e ∙ get_or-append_seam xs d ds (blank Set) },
    subst (λ (n : ℕ). HoldsAt cs n ds) (length-append xs (d ∷ [])) (holds-end (xs ++ (d ∷ [])) ds (e ∙ sym (append_snoc xs d ds))),
  )

  -- a program holds itself
  pub holds-all : HoldsAt cs 0 cs
  holds-all = holds-end [] cs refl
