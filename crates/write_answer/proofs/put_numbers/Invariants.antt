-- The first i numbers are stored.
use mathlib.Core.Path.{◌≡◌}
use lib.ListN.{take}
use Rattle.model.specs.{Placed.placed, Answer.all_le32}
use Rattle.write_answer.proofs.put_numbers.Given as goal

abbrev pub invariant-loop-i : goal.invariant-loop-i
invariant-loop-i l = l.dst ≡ placed l.initial.dst 0 (all_le32 (take l.i l.ns))
