-- The name stored, and the digits placed after it.
use mathlib.Core.Path.{ap, ◌∙◌}
use mathlib.Core.List.{List, [], ◌∷◌}
use Prim.Native.Nat.{ℕ, ◌+◌}
use native.Mathlib.Omega.{arith}
use Rattle.model.specs.{Text.bytes, Decimal.digits, Placed.placed}
use Rattle.model.proofs.Placed.{placed-append}
use Rattle.model_run.specs.{Line.heading}
use Rattle.write_text.proofs.Laws.{placed_part}
use Rattle.write_line.proofs.heading.Goals as goal

-- `sent=`, as the code has it
abbrev name : List ℕ
name = 115 ∷ 101 ∷ 110 ∷ 116 ∷ 61 ∷ []

pub returns : goal.returns
unfolding heading bytes
returns c =
    let a = c.args in
    let d = digits 4 a.position in
    c.spell.ensures
    ∙ ap (λ (m : List ℕ). placed m (a.at + 5) d) (placed_part a.out.now a.at {s = name} c.copy_from_slice.ensures.after (omega arith) (omega arith))
    ∙ placed-append a.out.now a.at name d
