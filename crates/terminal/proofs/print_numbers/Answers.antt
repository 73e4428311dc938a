-- The name, and then the numbers one after the other.
use Rattle.std.proofs.Common.{subst, sym}
use Rattle.std.specs.Io.KnownBytes.{Appends}
use Rattle.terminal.proofs.Numbers.{none_printed, next_number, first_number}
use Rattle.terminal.proofs.print_numbers.Goals as goal
use Rattle.terminal.proofs.print_numbers.Goals.{then-i-gt0+in_ok-write_all-2, else-i-gt0}

pub loop-i-init : goal.loop-i-init
loop-i-init g c = subst (Appends _ _) (sym (none_printed c.args.name.now c.args.ns.now)) c.in_ok-write_all.ensures.bytes

pub loop-i-preserved : goal.loop-i-preserved
loop-i-preserved g c =
    let a = c.args in
    let before = c.loop-i.invariant in
    let number = c.in_ok-print_number.ensures in
    elim c.if-i-gt0.branch [
      | then-i-gt0+in_ok-write_all-2 w ↦ next_number _ _ _ _ a.name.now a.ns.now c.loop-i.i w.if-i-gt0.true c.loop-i-test.true before w.in_ok-write_all-2.ensures.bytes (rw w.to-is at number)
      | else-i-gt0 w ↦ first_number _ _ _ a.name.now a.ns.now c.loop-i.i w.if-i-gt0.false c.loop-i-test.true before (rw w.to-is at number)
    ]
