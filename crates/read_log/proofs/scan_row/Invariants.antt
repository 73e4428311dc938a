-- What the scan finds from here on is what it finds from the start.
use Rattle.std.proofs.Common.{◌≡◌, ◌+◌, ◌≤◌, drop}
use Rattle.read_log.specs.Log.{scan}
use Rattle.read_log.proofs.scan_row.Given as goal

abbrev pub invariant-loop-i : goal.invariant-loop-i
invariant-loop-i l = record { few : l.fields ≤ l.i + 1; same : scan l.i l.fields (drop l.i l.s) ≡ scan 0 1 l.s }
