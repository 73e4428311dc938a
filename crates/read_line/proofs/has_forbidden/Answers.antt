-- What was found, or else is among the bytes that are left, is what all of them have.
use mathlib.Core.Bool.{Bool, true, false, cond}
use mathlib.Core.Path.{◌≡◌, sym, ◌∙◌}
use native.Mathlib.Omega.{arith}
use Rattle.model_text.proofs.TextLaws.{forbids-end, forbids-here, forbids-next}
use Rattle.read_line.proofs.has_forbidden.Goals as goal
use Rattle.read_line.proofs.has_forbidden.Goals.{then-class_of-eq-FORBIDDEN_CLASS, else-class_of-eq-FORBIDDEN_CLASS}

found-now : (x y z : Bool) → cond x true y ≡ z → y ≡ true → true ≡ z
found-now true y z e f = e
found-now false y z e f = sym f ∙ e

found-never : (x y z : Bool) → cond x true y ≡ z → y ≡ false → x ≡ z
found-never true y z e f = e
found-never false y z e f = sym f ∙ e

pub loop-b-preserved : goal.loop-b-preserved
loop-b-preserved c =
    let l = c.loop-b in
    let s = c.args.s.now in
    let h = c.loop-b-test.true in
    let k = c.class_of.ensures in
    elim c.if-class_of-eq-FORBIDDEN_CLASS.branch [
      | then-class_of-eq-FORBIDDEN_CLASS w ↦
          rw w.found-is (found-now l.found _ _ l.invariant (forbids-here s l.b-index h (sym k ∙ w.if-class_of-eq-FORBIDDEN_CLASS.true)))
      | else-class_of-eq-FORBIDDEN_CLASS w ↦
          rw (w.found-is, ← forbids-next s l.b-index h (λ e. w.if-class_of-eq-FORBIDDEN_CLASS.false (k ∙ e))) l.invariant
    ]

pub returns : goal.returns
returns c = found-never c.loop-b.found _ _ c.loop-b.invariant (forbids-end c.args.s.now c.loop-b.b-index (omega arith))
