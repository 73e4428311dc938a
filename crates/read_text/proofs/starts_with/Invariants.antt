-- The prefix that is still to compare starts what is left of the text, as the whole starts the whole.
use Rattle.std.proofs.Common.{◌≡◌, ◌≤◌, length, drop}
use Rattle.model_text.specs.Found.{starts}
use Rattle.read_text.proofs.starts_with.Given as goal

abbrev pub invariant-loop-i : goal.invariant-loop-i
invariant-loop-i l = (length l.p ≤ length l.t) × (starts (drop l.i l.p) (drop l.i l.t) ≡ starts l.p l.t)
