-- Of the entries, those from key k on are still to store.
use Prim.Native.Nat.{ℕ}
use mathlib.Core.Path.{◌≡◌, ap₂}
use mathlib.Core.List.{List}
use native.Mathlib.Omega.{arith}
use borrow.Author.Rules.{rules}
use lib.ListN.{length}
use mir.{Syntax.w32, ValLaws.to_z-of_z}
use Rattle.model.specs.Stored.{entry_in, absent_slot}
use Rattle.model_record.specs.declared.{EntryRecord.EntryRecord, MessageRecord.MessageRecord}
use Rattle.model_record.specs.Record.{entry_record, entry_records, message_over}
use Rattle.write_record.proofs.Laws.{keys_none, keys-one, keys-end, length-mapped}
use Rattle.write_record.proofs.message_over.Goals as goal
use Rattle.write_record.proofs.message_over.Goals.{in-Number, in_default}

pub loop-k-preserved : goal.loop-k-preserved
loop-k-preserved c =
    let a = c.args in
    let h = c.loop-k.invariant in
    elim c.match-slot.branch [
      | in-Number w ↦
          let z = to_z-of_z w32 w.in-Number.value (search rules) in
          let e = keys-one entry_in entry_record a.slots.now h.1 absent_slot w.in-Number.value c.loop-k-test.true w.in-Number.is in
          (omega (arith, h.0, w.count-is), rw (w.message-is, w.count-is, z) e)
      | in_default w ↦
          (omega (arith, h.0, w.count-is), rw (w.message-is, w.count-is) (keys_none entry_in entry_record a.slots.now h.1 absent_slot c.loop-k-test.true w.in_default.is))
    ]

-- a message of these two parts
abbrev made : ℕ → List EntryRecord → MessageRecord
made n es = record { entry_count = n; entries = es }

pub returns : goal.returns
unfolding message_over entry_records
returns c =
    let s : length c.args.message.entries ≡ 16 = search (rules, length-mapped) in
    let e = keys-end entry_in entry_record c.args.slots.now c.loop-k.invariant.1 c.loop-k-test.false (omega (arith, c.loop-k.invariant, c.loop-k.auto, c.requires)) in
    ap₂ made e.0 e.1
