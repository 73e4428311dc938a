-- Nothing, a minus sign, or a number without one.
use Rattle.std.proofs.Common.{◌≢◌, ◌∙◌, sym, ap, arith, length}
use Rattle.std.proofs.lemmas.Bool.Decides.{nat_tests}
use Rattle.model.specs.Number.{negative}
use Rattle.model_text.proofs.TextLaws.{rest, number-empty, number-minus, number-plain}
use Rattle.read_text.proofs.number_of.Goals as goal

pub returns-then-is_empty : goal.returns-then-is_empty
returns-then-is_empty c = sym (number-empty _ (grind (arith, nat_tests, c.if-is_empty.ensures)))

pub returns-then-s-eq45 : goal.returns-then-s-eq45
returns-then-s-eq45 c =
    let some : length c.args.s.now ≢ 0 = grind (arith, nat_tests, c.if-is_empty.ensures) in
    c.negative_of.ensures ∙ ap negative (rest c.args.s.now 1) ∙ sym (number-minus _ some c.if-s-eq45.true)

pub returns : goal.returns
returns c =
    let some : length c.args.s.now ≢ 0 = grind (arith, nat_tests, c.if-is_empty.ensures) in
    c.positive_of.ensures ∙ sym (number-plain _ some c.if-s-eq45.false)
