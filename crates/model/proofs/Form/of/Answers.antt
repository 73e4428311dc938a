-- The choice of a form, as the definition makes it.
use Rattle.std.proofs.Common.{arith}
use Rattle.std.proofs.lemmas.Grind.{common_steps}
use Rattle.model.specs.Form.{form_of}
use Rattle.model.proofs.Form.of.Goals as goal

pub returns-then-number-eq2 : goal.returns-then-number-eq2
unfolding form_of
returns-then-number-eq2 c = grind (arith, common_steps)

pub returns : goal.returns
unfolding form_of
returns c = grind (arith, common_steps)
