-- Whether those so far are none of B's, and those that are left, is whether all are.
use Prim.Native.Nat.{ℕ}
use mathlib.Core.Bool.{Bool}
use Rattle.model.specs.Stored.{level_of}
use Rattle.model_forms.specs.Forms.{turn_a}
use Rattle.model_text.proofs.Tests.{Told}
use Rattle.turn_form.proofs.turns_a.Given as goal

abbrev pub of_a : ℕ → Bool
of_a b = turn_a (level_of b)

abbrev pub invariant-loop-b : goal.invariant-loop-b
invariant-loop-b l = Told of_a l.turns l.b-index l.known
