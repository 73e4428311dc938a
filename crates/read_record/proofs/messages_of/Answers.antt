-- The messages that are left pass as all of them do, and make the rest of what all make.
use mathlib.Core.Path.{refl}
use mathlib.Core.List.{[]}
use native.Mathlib.Omega.{arith}
use lib.ListN.{length-set}
use Rattle.model_record.specs.declared.MessageRecord.{MessageRecord}
use Rattle.model_text.proofs.Tests.{tested-bad, tested-end}
use Rattle.read_record.proofs.Laws.{left, none, taking-begins, taking-more, taking-end}
use Rattle.read_record.proofs.messages_of.Goals as goal

-- what an array of messages has beyond its end
abbrev blank : MessageRecord
blank = record { entry_count = 0; entries = [] }

pub loop-i-init : goal.loop-i-init
loop-i-init c = (taking-begins _ _ _ _ _, rw c.no_messages-taken.ensures refl)

pub returns-in_err-taken : goal.returns-in_err-taken
returns-in_err-taken c =
    rw c.from_residual.ensures (tested-bad c.loop-i.invariant.0.tested (left _ _ blank c.loop-i-test.true) c.in_err-taken.ensures)

pub loop-i-preserved : goal.loop-i-preserved
loop-i-preserved c =
    let h = c.loop-i.invariant in
    let e = c.in_ok-taken.ensures in
    (taking-more h.0 blank _ c.loop-i-test.true e.0 e.1.are (omega (arith, h.1, c.requires.0, c.loop-i-test.true)), simp length-set h.1)

pub returns : goal.returns
returns c =
    let h = c.loop-i.invariant in (
      tested-end h.0.tested (none _ _ c.loop-i-test.false),
      record { are = taking-end h.0 (omega (arith, c.loop-i-test.false, c.loop-i.auto)); room = omega (arith, h.1, c.requires.0) },
    )
