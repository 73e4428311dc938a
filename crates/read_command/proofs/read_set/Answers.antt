-- A variable and a number, read from left to right on either side of their space.
use Rattle.std.proofs.Common.{◌∙◌, refl, sym, ap, rules}
use mir.{ValLaws.to_z-of_z, Syntax.w32}
use Rattle.model.specs.declared.Command.{Command}
use Rattle.model.proofs.{Accepted.up-to-bound, Handed.refused-handed}
use Rattle.read_command.specs.Command.{command_of}
use Rattle.read_command.proofs.Laws.{two-not, two-read, mapped-got, mapped-refused}
use Rattle.read_command.proofs.read_set.Goals as goal

pub returns-in_err-variable : goal.returns-in_err-variable
returns-in_err-variable c = refused-handed _ _ c.from_residual.ensures.1 ∙ mapped-refused _ _ refl (sym (two-not _ _ _ c.in_err-variable.ensures))

pub returns-in_err-v : goal.returns-in_err-v
returns-in_err-v c =
    refused-handed _ _ c.from_residual-in_err-v.ensures.1
    ∙ mapped-refused _ _ refl (sym (two-read _ _ _ c.in_ok-variable.ensures c.in_err-v.ensures refl))

pub returns-in_err-n : goal.returns-in_err-n
returns-in_err-n c =
    refused-handed _ _ c.from_residual-in_err-n.ensures.1
    ∙ mapped-refused _ _ refl (sym (two-read _ _ _ c.in_ok-variable.ensures c.in_ok-v.ensures c.in_err-n.ensures))

pub command_of-c-requires : goal.command_of-c-requires
command_of-c-requires c = let b = up-to-bound _ _ _ (sym c.in_ok-v.ensures) in search rules

pub returns : goal.returns
returns c =
    let d = c.command_of-c.result in
    let z = c.in_ok-n.n in
    mapped-got _ _ refl
    (sym (two-read _ _ _ c.in_ok-variable.ensures c.in_ok-v.ensures c.in_ok-n.ensures))
    (ap (command_of d.op d.v d.w d.k d.t) (to_z-of_z w32 z (search rules)) ∙ ap (λ (e : Command). command_of e.op e.v e.w e.k e.t z) c.command_of-c.ensures)
