-- The last byte, or none.
use mathlib.Core.{Path.sym, Path.ap, Path.◌∙◌, Bool.not}
use native.Mathlib.Omega.{arith}
use Rattle.model_text.proofs.TextLaws.{closed-empty, closed-last}
use Rattle.std.proofs.lemmas.Bool.Decides.{nat_tests}
use Rattle.read_line.proofs.is_closed.Goals as goal

pub returns-then-not-is_empty : goal.returns-then-not-is_empty
returns-then-not-is_empty c = sym (closed-last _ (grind (arith, nat_tests, c.if-not-is_empty.ensures)))

pub returns-else-not-is_empty : goal.returns-else-not-is_empty
returns-else-not-is_empty c = ap not c.if-not-is_empty.false ∙ sym (closed-empty _ (grind (arith, nat_tests, c.if-not-is_empty.ensures)))
