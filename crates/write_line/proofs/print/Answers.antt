-- The sign is stored, and the digits are placed after it.
use mathlib.Core.Path.{ap, ap₂, ◌∙◌}
use mathlib.Core.List.{◌∷◌}
use Prim.Native.Nat.{ℕ}
use lib.{IntN.nat_abs}
use mir.{Syntax.w32, Facts.to_z-of_z}
use Rattle.model.specs.{Decimal.digits}
use Rattle.model_run.specs.{Line.sign}
use Rattle.model.specs.Placed.{placed}
use Rattle.model.proofs.Placed.{placed-cons}
use Rattle.write_line.proofs.print.Goals as goal

pub returns : goal.returns
returns c =
    let a = c.args in
    let e = to_z-of_z {w = w32} c.ranges.x in
    c.spell.ensures
    ∙ placed-cons a.out.now a.at c.sign.result (digits 10 c.unsigned_abs.result)
    ∙ ap₂ (λ (v n : ℕ). placed a.out.now a.at (v ∷ digits 10 n)) (c.sign.ensures ∙ ap sign e) (c.unsigned_abs.ensures.value ∙ ap nat_abs e)
