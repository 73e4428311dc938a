-- The letters that are left, after those that are copied, give what all of them give, as long as all are known.
use Rattle.std.proofs.Common.{◌≡◌, ◌≤◌, ◌∙◌, sym, ap, refl, arith, rules, length, length-set, Bool}
use Rattle.read_turns.proofs.Laws.{onto-none, sofar, letters-more, letters-end, turns-long, turns-none, turns-letters}
use Rattle.read_turns.proofs.copy_letters.Goals as goal

pub returns-then-form-s : goal.returns-then-form-s
returns-then-form-s c = record { read = sym (turns-long _ _ (omega arith)); few = tt }

pub returns-then-s-eq0 : goal.returns-then-s-eq0
returns-then-s-eq0 c = record { read = sym (turns-none _ _ c.if-s-eq0.true); few = tt }

pub loop-i-init : goal.loop-i-init
loop-i-init c = (search rules, onto-none _ ∙ sym (turns-letters _ _ (omega arith) c.if-s-eq0.false))

pub is_letter-known-requires : goal.is_letter-known-requires
is_letter-known-requires c = (c.requires, c.third-third.ensures)

pub loop-i-preserved : goal.loop-i-preserved
loop-i-preserved c =
    let l = c.loop-i in
    (simp length-set l.invariant.0, sym (letters-more _ _ l.i l.letters c.loop-i-test.true (omega arith) l.known _ c.is_letter-known.ensures) ∙ l.invariant.1)

pub returns-then-not-known : goal.returns-then-not-known
returns-then-not-known c = record { read = rw c.if-not-known.true at c.loop-i.invariant.1; few = tt }

pub returns : goal.returns
returns c =
    let l = c.loop-i in
    let over : l.i ≡ length c.args.s.now = omega arith in
    let e = sym (letters-end c.args.form c.args.s.now l.i l.letters (omega arith)) ∙ (rw c.if-not-known.false at l.invariant.1) in
    record { read = rw (← over) e; few = omega arith }
