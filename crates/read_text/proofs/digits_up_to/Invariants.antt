-- The digits that are left, after those that make `a`, give what all of them give.
use Rattle.std.proofs.Common.{◌≡◌, ◌≤◌, drop}
use Rattle.model.specs.Number.{digits_to}
use Rattle.read_text.proofs.digits_up_to.Given as goal

abbrev pub invariant-loop-b : goal.invariant-loop-b
invariant-loop-b l = (l.a ≤ l.m) × (digits_to l.m l.a (drop l.b-index l.s) ≡ digits_to l.m 0 l.s)
