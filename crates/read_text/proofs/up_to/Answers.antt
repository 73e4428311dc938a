-- Nothing, a leading zero, one byte, or digits.
use Rattle.std.proofs.Common.{◌≢◌, ◌∙◌, sym, arith, length}
use Rattle.std.proofs.lemmas.Bool.Decides.{nat_tests}
use Rattle.model_text.proofs.TextLaws.{up-to-empty, up-to-one, up_to_zero, up-to-more}
use Rattle.read_text.proofs.up_to.Goals as goal
use Rattle.read_text.proofs.up_to.Goals.{else-s-gt1-via-then-s-gt1+else-s-eq48, else-s-gt1-via-else-s-gt1}

pub returns-then-is_empty : goal.returns-then-is_empty
returns-then-is_empty c = sym (up-to-empty _ _ (grind (arith, nat_tests, c.if-is_empty.ensures)))

pub returns-then-s-eq48 : goal.returns-then-s-eq48
returns-then-s-eq48 c = sym (up_to_zero _ _ (λ e. omega arith) (λ e. omega arith) c.if-s-eq48.true)

pub returns : goal.returns
returns c =
    let some : length c.args.s.now ≢ 0 = grind (arith, nat_tests, c.if-is_empty.ensures) in
    c.digits_up_to.ensures
    ∙ sym
    (elim c.else-s-gt1.branch [
      | else-s-gt1-via-then-s-gt1+else-s-eq48 w ↦ up-to-more _ _ some (λ e. omega arith) w.if-s-eq48.false
      | else-s-gt1-via-else-s-gt1 w ↦ up-to-one _ _ (omega arith)
    ])
