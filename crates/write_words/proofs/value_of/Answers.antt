-- A number of the full range, by the sign and the size that the machine finds.
use mathlib.Core.Path.{sym, ap, ◌∙◌}
use borrow.Author.Rules.{rules}
use mir.{Syntax.w32, ValLaws.to_z-of_z}
use Rattle.model.specs.declared.Operand.{Operand}
use Rattle.model_text.specs.Text.{operand_text}
use Rattle.write_text.proofs.Laws.{whole_found}
use Rattle.write_words.proofs.value_of.Goals as goal

pub returns-in-InN : goal.returns-in-InN
unfolding operand_text
returns-in-InN c =
    let a = c.args in
    whole_found (to_z-of_z w32 a.c.n (search rules)) c.unsigned_abs.ensures.value ∙ sym (ap (λ (x : Operand). operand_text x a.c) c.in-InN.is)
