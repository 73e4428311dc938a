-- The bytes before a place have no forbidden one: if those that are left have none, the text has none.
use Prim.Native.Nat.{ℕ, ◌≤◌, ◌+◌, ◌-◌}
use mathlib.Core.Path.{◌≡◌, sym, ap, ◌∙◌}
use native.Mathlib.Omega.{arith}
use borrow.Author.Tests.{le-leb, lt-leb}
use lib.ListN.{length, take, drop}
use Rattle.model_text.specs.Found.{forbids}
use Rattle.model_text.proofs.TextLaws.{forbids-end, part-forbids, part-allowed}
use Rattle.read_line.proofs.all_allowed.Goals as goal
use Rattle.read_line.proofs.all_allowed.Goals.{After-min-a}

-- the bytes that are tested: they start no later than the ones that are left, and end within the text
part : (c : After-min-a) → (c.min-a.result ≤ c.loop-i.i) × (c.min-a.result + 16 ≤ length c.args.s.now)
part c = (omega (arith, c.min-a.ensures), omega (arith, c.min-a.ensures))

pub returns-then-has_forbidden : goal.returns-then-has_forbidden
returns-then-has_forbidden c =
    let p = c in
    let s = p.args.s.now in
    let a = p.min-a.result in
    let e = part-forbids (a + 16 - a) a s (sym c.has_forbidden.ensures ∙ c.if-has_forbidden.true) in
    rw (le-leb 16 (length s) p.if-n-lt-AT_ONCE.false, e)

pub loop-i-preserved : goal.loop-i-preserved
loop-i-preserved c =
    let l = c.loop-i in
    let s = c.args.s.now in
    let a = c.min-a.result in
    let h : (a ≤ l.i) × (a + 16 ≤ length s) = (omega (arith, c.min-a.ensures), omega (arith, c.min-a.ensures)) in
    let q : a + 16 - a ≡ 16 = omega arith in
    let e = ap (λ (m : ℕ). forbids (take m (drop a s))) (sym q) ∙ sym c.has_forbidden.ensures ∙ c.if-has_forbidden.false in
    (omega (arith, h.1), λ f. l.invariant.1 (part-allowed 16 a l.i s h.0 e f))

pub returns-then-n-lt-AT_ONCE : goal.returns-then-n-lt-AT_ONCE
returns-then-n-lt-AT_ONCE c = rw (lt-leb 16 _ c.if-n-lt-AT_ONCE.true)

pub loop-i-init : goal.loop-i-init
loop-i-init c = (omega arith, λ e. e)

pub overflow_add-a : goal.overflow_add-a
overflow_add-a c = omega (arith, (part c).1)

pub slice_bounds-has_forbidden-count : goal.slice_bounds-has_forbidden-count
slice_bounds-has_forbidden-count c = omega (arith, (part c).1)

pub slice_bounds-has_forbidden-start : goal.slice_bounds-has_forbidden-start
slice_bounds-has_forbidden-start c = omega (arith, (part c).1)

pub slice_bounds-has_forbidden-end : goal.slice_bounds-has_forbidden-end
slice_bounds-has_forbidden-end c = omega (arith, (part c).1)

pub overflow_add-i : goal.overflow_add-i
overflow_add-i c = omega (arith, c.min-a.ensures)

pub loop-i-smaller : goal.loop-i-smaller
loop-i-smaller c = omega (arith, c.min-a.ensures)

pub returns : goal.returns
returns c = let l = c.loop-i in rw (le-leb 16 _ c.if-n-lt-AT_ONCE.false, l.invariant.1 (forbids-end _ _ c.loop-i-test.false))
