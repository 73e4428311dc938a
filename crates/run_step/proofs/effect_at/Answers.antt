-- An operation adds at most one clamped result.
use mathlib.Core.Path.{◌≡◌, sym, subst}
use Prim.Native.Nat.{◌<◌, ◌≤◌}
use Rattle.model.specs.declared.Computed.{Computed}
use Rattle.model_run.specs.Arith.{sum, difference, product}
use Rattle.model_run.proofs.Clamped.{computed-most, quotient-most}
use Rattle.run_step.proofs.effect_at.Goals as goal
use Rattle.run_step.proofs.effect_at.Goals.{Start}

most : (s : Start) {r z : Computed} → r ≡ z → z.clamps ≤ 1 → (s.args.m < 4294967296) × (r.clamps ≤ 1)
most s e h = (s.requires.1, subst (λ (y : Computed). y.clamps ≤ 1) (sym e) h)

pub computed-requires : goal.computed-requires
unfolding sum
computed-requires c = most (goal.at.computed-requires c).Start c.add.ensures (computed-most _)

pub computed-requires-in-Sub : goal.computed-requires-in-Sub
unfolding difference
computed-requires-in-Sub c = most (goal.at.computed-requires-in-Sub c).Start c.sub.ensures (computed-most _)

pub computed-requires-in-Mul : goal.computed-requires-in-Mul
unfolding product
computed-requires-in-Mul c = most (goal.at.computed-requires-in-Mul c).Start c.mul.ensures (computed-most _)

pub computed-requires-in-Div : goal.computed-requires-in-Div
computed-requires-in-Div c = most (goal.at.computed-requires-in-Div c).Start c.div.ensures (quotient-most _ _)
