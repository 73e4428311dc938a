-- A comma where the part is not the first, and the pair.
use mathlib.Core.Path.{◌≡◌, refl}
use mathlib.Core.Bool.{Bool, true, false, not}
use mathlib.Core.List.{◌++◌}
use Prim.Native.Nat.{ℕ}
use lib.IntN.{ℤ}
use mir.{Syntax.w32, Facts.to_z-of_z}
use Rattle.model.specs.Text.{comma}
use Rattle.model_text.specs.Text.{pair_text}
use Rattle.write_text.specs.Put.{byte_if}
use Rattle.write_text.proofs.Laws.{put_then}
use Rattle.write_messages.specs.Messages.{part_text}
use Rattle.write_messages.proofs.put_part.Goals as goal

part-is : (first : Bool) (k : ℕ) (v : ℤ) → part_text first k v ≡ byte_if (not first) comma ++ pair_text (k, v)
part-is true k v = refl
part-is false k v = refl

pub returns : goal.returns
returns c =
    let a = c.args in
    rw (part-is a.first a.k a.v) (put_then c.put_if-part.ensures (rw (to_z-of_z {w = w32} c.ranges.v) at c.put_pair.ensures))
