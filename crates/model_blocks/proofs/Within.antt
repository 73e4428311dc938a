-- The commands of a translation are commands of a sheet: their count, their operands and their targets.
use Prim.Native.Nat.{ℕ, ◌+◌, ◌<◌, ◌≤◌}
use mathlib.Core.Path.{refl}
use native.Mathlib.Omega.{arith}
use lib.ListN.{length}
use Rattle.model.specs.{Limits.variables, Command.table, Accepted.Every, Accepted.Within, Accepted.row_for, Accepted.has, Accepted.kept, Accepted.Bare}
use Rattle.model.specs.declared.Command.{Command}
use Rattle.model_text.proofs.Bytes.{every_append, every-imply}
use Rattle.model_blocks.specs.Block.{Block, empty, own, if_only, if_else, while, places, test_to, jump_to, translate, commands_of}
use Rattle.model_blocks.specs.Claims.{Operands, CountIsPlaces, CommandsWithin}
use Rattle.model_blocks.proofs.Translated.{length-translate}

pub count-is-places : CountIsPlaces
count-is-places b = length-translate 0 b

bare-test : (t v : ℕ) → Bare (test_to t v)
unfolding row_for table has kept
bare-test t v = refl

bare-jump : (t : ℕ) → Bare (jump_to t)
unfolding row_for table has kept
bare-jump t = refl

module _ (K most : ℕ) (some : 1 ≤ K) where
  abbrev Fine : Command → Type 0
  Fine c = Within K most c × Bare c

  fine-test : (t v : ℕ) → v < variables → t ≤ most → Fine (test_to t v)
  fine-test t v h l = (record { v = h; w = omega arith; k = some; t = l; n = omega arith }, bare-test t v)

  fine-jump : (t : ℕ) → t ≤ most → Fine (jump_to t)
  fine-jump t l = (record { v = omega arith; w = omega arith; k = some; t = l; n = omega arith }, bare-jump t)

  fine-own : (c : Command) → Within K 0 c → Bare c → Fine c
  fine-own c h b = (record { v = h.v; w = h.w; k = h.k; t = omega (arith, h.t); n = h.n }, b)

  -- of a block that ends at the highest target or before it
  all-fine : (p : ℕ) (b : Block) → p + places b ≤ most → Operands K b → Every Fine (translate p b)
  unfolding places translate
  all-fine p empty l h = tt
  all-fine p (own c b) l h = (fine-own c h.0 h.1, all-fine (p + 1) b (omega arith) h.2)
  all-fine p (if_only v a b) l h =
      let e : ℕ = p + 1 + places a in (
        fine-test e v h.0 (omega arith),
        every_append Fine (translate (p + 1) a) (translate e b) (all-fine (p + 1) a (omega arith) h.1) (all-fine e b (omega arith) h.2),
      )
  all-fine p (if_else v a o b) l h =
      let m : ℕ = p + 1 + places a + 1 in
      let e : ℕ = m + places o in (
        fine-test m v h.0 (omega arith),
        every_append Fine (translate (p + 1) a) _ (all-fine (p + 1) a (omega arith) h.1)
            (fine-jump e (omega arith), every_append Fine (translate m o) (translate e b) (all-fine m o (omega arith) h.2) (all-fine e b (omega arith) h.3)),
      )
  all-fine p (while v a b) l h =
      let e : ℕ = p + 1 + places a + 1 in (
        fine-test e v h.0 (omega arith),
        every_append Fine (translate (p + 1) a) _ (all-fine (p + 1) a (omega arith) h.1) (fine-jump p (omega arith), all-fine e b (omega arith) h.2),
      )

pub commands-within : CommandsWithin
commands-within K b h =
    let m = length (commands_of b) in
    let f = all-fine K m h.some_keys 0 b (omega (arith, count-is-places b)) h.operands in
    (every-imply (Fine K m h.some_keys) (Within K m) (λ c q. q.0) (commands_of b) f, every-imply (Fine K m h.some_keys) Bare (λ c q. q.1) (commands_of b) f)
