-- The line of what is left, counted from the one that is reached, is the line of the whole text; at the end of a text that is not closed it is the line after
-- the last line feed.
use Prim.Native.Nat.{◌≤◌, ◌+◌}
use mathlib.Core.Path.{◌≡◌, refl, sym, ◌∙◌}
use native.Mathlib.Omega.{arith}
use lib.ListN.{length}
use Rattle.model_text.proofs.TextLaws.{line-end, line-forbidden, line-feed, line_same, count-here, count_next, count-end, closed-empty, last-closed, last-open}
use Rattle.model_text.proofs.TextLaws.{spoilt-forbidden, spoilt-none, spoilt-open}
use Rattle.read_line.proofs.fault_line.Goals as goal
use Rattle.read_line.proofs.fault_line.Goals.{then-b-eq10+else-s-i, else-b-eq10}

pub returns-then-class_of-eq-FORBIDDEN_CLASS : goal.returns-then-class_of-eq-FORBIDDEN_CLASS
returns-then-class_of-eq-FORBIDDEN_CLASS c =
    let p = c in
    let l = p.loop-i in
    let s = p.args.s.now in
    let e = line-forbidden l.line s l.i p.loop-i-test.true (sym p.class_of.ensures ∙ c.if-class_of-eq-FORBIDDEN_CLASS.true) in
    omega (arith, e, l.invariant.2, spoilt-forbidden s (omega (arith, e, l.invariant.2)))

pub returns-then-s-i : goal.returns-then-s-i
returns-then-s-i c =
    let p = c in
    let l = p.loop-i in
    let s = p.args.s.now in
    let h = p.loop-i-test.true in
    let b = c.if-b-eq10.true in
    let none = sym l.invariant.2 ∙ line-feed l.line s l.i h b ∙ line-end (l.line + 1) s (l.i + 1) c.if-s-i.true in
    sym (spoilt-none s none (last-closed s l.i (omega (arith, h, c.if-s-i.true)) b))

pub loop-i-preserved : goal.loop-i-preserved
loop-i-preserved c =
    let l = c.loop-i in
    let s = c.args.s.now in
    let h = c.loop-i-test.true in
    let k = c.class_of.ensures in
    elim c.if-b-eq10.branch [
      | then-b-eq10+else-s-i w ↦ (
        rw w.line-is (omega arith),
        rw w.line-is (omega arith),
        rw w.line-is (sym (line-feed l.line s l.i h w.if-b-eq10.true) ∙ l.invariant.2),
        rw w.line-is (omega (arith, count-here 10 s l.i h w.if-b-eq10.true, l.invariant.3)),
        λ e. absurd (omega (arith, e, w.if-s-i.false)),
      )
      | else-b-eq10 w ↦ (
        rw w.line-is (omega arith),
        rw w.line-is (omega arith),
        rw w.line-is (sym (line_same l.line s l.i h (λ e. c.if-class_of-eq-FORBIDDEN_CLASS.false (k ∙ e)) w.if-b-eq10.false) ∙ l.invariant.2),
        rw w.line-is (omega (arith, count_next 10 s l.i h w.if-b-eq10.false, l.invariant.3)),
        λ e. last-open s l.i e w.if-b-eq10.false,
      )
    ]

pub returns : goal.returns
returns c =
    let l = c.loop-i in
    let s = c.args.s.now in
    let h : length s ≤ l.i = omega arith in
    let none = sym l.invariant.2 ∙ line-end l.line s l.i h in
    let over : l.i ≡ length s = omega arith in
    omega (arith, count-end 10 s l.i h, l.invariant.3, spoilt-open s none (l.invariant.4 over))

pub loop-i-init : goal.loop-i-init
loop-i-init c = (omega arith, omega arith, refl, refl, λ e. closed-empty _ (sym e))
