-- What was found, or else is among the bytes that are left, is what all of them have.
use mathlib.Core.Bool.{true, cond}
use mathlib.Core.Path.{◌≡◌}
use lib.ListN.{drop}
use Rattle.model_text.specs.Found.{forbids}
use Rattle.read_line.proofs.has_forbidden.Given as goal

abbrev pub invariant-loop-b : goal.invariant-loop-b
invariant-loop-b l = cond l.found true (forbids (drop l.b-index l.s)) ≡ forbids l.s
