-- The digits that are left, after those that make `a`, give what all of them give.
use Rattle.std.proofs.Common.{◌*◌, ◌+◌, arith, drop}
use Rattle.model_text.proofs.TextLaws.{class-digit, digit-class, digits-next, digits-bad, digits-end, digits-past}
use Rattle.read_text.proofs.digits_up_to.Goals as goal

pub returns-then-b-lt48 : goal.returns-then-b-lt48
returns-then-b-lt48 c =
    let a = c.args in
    let l = c.loop-b in
    cc (l.invariant.1, digits-bad a.m l.a a.s.now l.b-index c.loop-b-test.true (λ e. let d = class-digit _ e in omega (arith, c.then-b-lt48.either)))

pub returns-then-m-a : goal.returns-then-m-a
returns-then-m-a c =
    let a = c.args in
    let l = c.loop-b in
    cc (
      c.from.ensures,
      digits-next a.m l.a a.s.now l.b-index c.loop-b-test.true (digit-class _ c.if-b-lt48.false c.if-b-gt57.false),
      digits-past a.m (l.a * 10 + c.from.result) (drop (l.b-index + 1) a.s.now) c.if-m-a.true,
    )

pub loop-b-preserved : goal.loop-b-preserved
loop-b-preserved c =
    let a = c.args in
    let l = c.loop-b in (
      omega arith,
      cc (c.from.ensures, digits-next a.m l.a a.s.now l.b-index c.loop-b-test.true (digit-class _ c.if-b-lt48.false c.if-b-gt57.false)),
    )

pub returns : goal.returns
returns c =
    let a = c.args in
    let l = c.loop-b in
    cc (l.invariant.1, digits-end a.m l.a a.s.now l.b-index (omega arith) l.invariant.0)
