-- What the calls that read blocks ask of each other and of the commands that they keep.
use Prim.Native.Nat.{ℕ, ◌+◌, ◌-◌, ◌*◌, ◌<◌, ◌≤◌}
use mathlib.Core.Path.{◌≡◌, refl, sym, ap, subst, ◌∙◌}
use mathlib.Core.Bool.{Bool, true, false, cond}
use mathlib.Core.List.{List}
use native.Mathlib.Omega.{arith}
use lib.{Dec.ltb, ListN.length, ListN.take, ListN.drop}
use borrow.Author.Tests.{ltb-true}
use Rattle.std.specs.Prelude.{Result}
use Rattle.model.specs.{Limits.variables, Refusal.parsed}
use Rattle.model.specs.declared.Refusal.{Refusal}
use Rattle.model_blocks.specs.{Block.test_to, Block.jump_to, Dialect.tested, Dialect.deepest, Dialect.BlockWord}
use Rattle.pack_command.specs.Pack.{Packable}
use Rattle.read_command.specs.Command.{parts_after}
use Rattle.read_blocks.specs.Blocks.{near_by, next_line, Starts, Sane, LineAt}
use Rattle.read_blocks.specs.declared.{Mark.Mark, Line.Line}
use Rattle.read_blocks.proofs.Goes.{starts-next}

near-small : (t : ℕ) → near_by t < 65536
unfolding near_by
near-small t = go (ltb t 65536) (λ e. ltb-true t 65536 e)
  where
    go : (b : Bool) → (b ≡ true → t < 65536) → cond b t 0 < 65536
    go true h = h refl
    go false h = omega arith

-- a test and a jump have room in a number
pub test-packable : (t v : ℕ) → v < variables → Packable (test_to (near_by t) v)
test-packable t v h = record { v = h; w = omega arith; k = omega arith; t = near-small t; n = omega arith }

pub jump-packable : (t : ℕ) → Packable (jump_to (near_by t))
jump-packable t = record { v = omega arith; w = omega arith; k = omega arith; t = near-small t; n = omega arith }

-- the place behind a line that is not empty
pub line-fits : (s : List ℕ) (p : Mark) (e more n : ℕ) → Starts s p → 1 ≤ e → p.at + e + 1 ≤ length s → length s < n → more ≤ 1
    → (p.at + e + 1 < n) × (p.line + 1 < n) × (p.count + more < n)
line-fits s p e more n h i j k l = (omega arith, omega (arith, h.near), omega (arith, h.near, h.few))

-- the v of a line from the place at on, as it is read in the text from there on
pub variable-at : (s t : List ℕ) (at : ℕ) (ln : Line) → t ≡ drop at s → {r x : Result ℕ Refusal} → parsed r ≡ tested (parts_after ln.word (take ln.end t)) → r ≡ x
    → tested (parts_after ln.word (take ln.end (drop at s))) ≡ parsed x
variable-at s t at ln g h q = ap (λ (z : List ℕ). tested (parts_after ln.word (take ln.end z))) (sym g) ∙ sym h ∙ ap parsed q
