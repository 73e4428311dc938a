-- The line of what is left, counted from the one that is reached, is the line of the whole text; at the end of a text that is not closed it is the line after
-- the last line feed.
use Prim.Native.Nat.{◌≤◌, ◌+◌}
use mathlib.Core.Bool.{false}
use mathlib.Core.Path.{◌≡◌}
use lib.ListN.{length, drop}
use Rattle.model.specs.{Sheet.forbidden_line, Sheet.closed, Text.count}
use Rattle.read_line.proofs.fault_line.Given as goal

abbrev pub invariant-loop-i : goal.invariant-loop-i
invariant-loop-i l = (1 ≤ l.line) × (l.line ≤ l.i + 1) × (forbidden_line l.line (drop l.i l.s) ≡ forbidden_line 1 l.s) × (l.line + count 10 (drop l.i l.s) ≡ 1 + count 10 l.s) × (l.i ≡ length l.s → closed l.s ≡ false)
