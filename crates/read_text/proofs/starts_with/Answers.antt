-- The prefix that is still to compare starts what is left of the text, as the whole starts the whole.
use Rattle.std.proofs.Common.{◌≡◌, ◌∙◌, sym, refl, arith}
use Rattle.model_text.proofs.TextLaws.{starts-short, starts-end, starts-next, starts-differ}
use Rattle.read_text.proofs.starts_with.Goals as goal

pub returns-then-t-p : goal.returns-then-t-p
returns-then-t-p c = sym (starts-short _ _ c.if-t-p.true)

pub loop-i-init : goal.loop-i-init
loop-i-init c = (omega arith, refl)

pub returns-then-t-i : goal.returns-then-t-i
returns-then-t-i c =
    let l = c.loop-i in
    sym (starts-differ _ _ l.i c.loop-i-test.true (omega arith) c.if-t-i.true) ∙ l.invariant.1

pub loop-i-preserved : goal.loop-i-preserved
loop-i-preserved c =
    let l = c.loop-i in
    (omega arith, sym (starts-next _ _ l.i c.loop-i-test.true (omega arith) c.if-t-i.false) ∙ l.invariant.1)

pub returns : goal.returns
returns c = sym (starts-end c.args.p.now c.args.t.now c.loop-i.i (omega arith)) ∙ c.loop-i.invariant.1
