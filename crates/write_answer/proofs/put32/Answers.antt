-- The four bytes stored are those of the number.
use mathlib.Core.Path.{◌≡◌, refl, sym, ap₂, ◌∙◌}
use mathlib.Core.List.{List, ◌++◌}
use Prim.Native.Nat.{ℕ, ◌+◌, ◌-◌, ◌≤◌}
use native.Mathlib.{Omega.arith}
use lib.{ListN.length, ListN.take}
use borrow.Rule.Slice.PartMut.{post_of, Post-is}
use Rattle.std.specs.Int.{w32, to_le_bytes}
use Rattle.model.specs.{Placed.placed, Answer.le32}
use Rattle.model.proofs.Placed.{placed-between}
use Rattle.write_answer.proofs.put32.Goals as goal

le-is : (n : ℕ) → to_le_bytes w32 n ≡ le32 n
unfolding le32
le-is n = refl

stored : (d : List ℕ) (at x : ℕ) → at + 4 ≤ length d → (s : List ℕ) → s ≡ le32 x → take at d ++ (s ++ post_of at (at + 4 - at) d) ≡ placed d at (le32 x)
unfolding le32
stored d at x room s e =
    ap₂ (λ (s r : List ℕ). take at d ++ (s ++ r)) e (Post-is at (at + 4) d (omega arith)) ∙ sym (placed-between d at (le32 x) room)

pub returns : goal.returns
returns c = stored c.args.dst.now c.args.at c.args.x c.requires c.copy_from_slice.new.self (c.copy_from_slice.ensures.after ∙ c.to_le_bytes.ensures ∙ le-is c.args.x)
