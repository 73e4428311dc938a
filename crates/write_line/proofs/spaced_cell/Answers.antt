-- A byte stored, and a cell placed after it.
use mathlib.Core.Path.{◌∙◌}
use Rattle.model.proofs.Placed.{placed-cons}
use Rattle.write_line.proofs.spaced_cell.Goals as goal

pub returns : goal.returns
returns c = c.cell.ensures ∙ placed-cons _ _ _ _
