-- The parts of the word are none, or as its shape has them.
use Rattle.std.proofs.Common.{◌∙◌, ℕ, List, sym, ap, ap₂}
use Rattle.model.specs.{Command.by_row, Command.limits, Parsed.got}
use Rattle.read_command.specs.Command.{shape_as}
use Rattle.read_command.specs.declared.Shape.{Shape}
use Rattle.read_command.proofs.Laws.{alone-is, parts-not, parts_none, parts-behind}
use Rattle.read_command.proofs.read_by_row.Goals as goal

pub returns-then-e-s : goal.returns-then-e-s
returns-then-e-s c = c.read_parts.ensures ∙ ap (by_row _ _ (shape_as c.args.shape)) (sym (parts-behind _ _ c.if-e-s.true))

pub returns-in-Alone : goal.returns-in-Alone
returns-in-Alone c =
    let a = c.args in
    ap got c.command_of.ensures
    ∙ sym (ap₂ (λ (s : Shape) (ps : List (List ℕ)). by_row (limits a.keys a.target) a.op (shape_as s) ps) c.in-Alone.is (parts_none _ _ c.if-e-s.false) ∙ alone-is _ _)

pub returns-in_default : goal.returns-in_default
returns-in_default c = sym (ap (by_row _ _ (shape_as c.args.shape)) (parts_none _ _ c.if-e-s.false) ∙ parts-not _ _ c.args.shape c.in_default.not-Alone)
