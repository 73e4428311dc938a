-- No part, or those behind the first space.
use Rattle.std.proofs.Common.{◌∙◌, sym, ap}
use Rattle.model_blocks.specs.Dialect.{tested}
use Rattle.read_command.proofs.Laws.{parts_none, parts-behind}
use Rattle.read_blocks.proofs.Words.{tested-one}
use Rattle.read_blocks.proofs.variable_of.Goals as goal

pub returns-then-l-e : goal.returns-then-l-e
unfolding tested
returns-then-l-e c = sym (ap tested (parts_none _ _ c.if-l-e.true))

pub returns : goal.returns
unfolding tested
returns c = c.one_part.ensures ∙ sym (ap tested (parts-behind _ _ c.if-l-e.false) ∙ tested-one _)
