-- The entries that are left pass as all of them do, and give the message of all, entered where the others stand.
use mathlib.Core.Path.{ap, refl}
use borrow.Author.{Rules.rules, Tests.le-leb, Tests.lt-leb}
use lib.{IntN.pos, ListN.get_or, ListN.take, ListN.length-set}
use mir.{Syntax.w32, Val.SFits, ValLaws.to_z-of_z}
use Rattle.model.specs.Stored.{key_capacity, absent_slot}
use Rattle.model.specs.declared.Entry.TheVariants.{Number}
use Rattle.model_record.specs.Record.{entries_fit, message_fits, entries_of}
use Rattle.model_record.specs.declared.EntryRecord.{EntryRecord}
use Rattle.read_fields.proofs.Laws.{in-range}
use Rattle.read_record.proofs.Laws.{entering-begins, entering-bad, entering-more, entering-end, entries-enter}
use Rattle.read_record.proofs.entries_of.Goals as goal

-- what an array of entries has beyond its end
abbrev blank : EntryRecord
blank = record { key = 0; value = pos 0 }

pub returns-then-keys-count : goal.returns-then-keys-count
unfolding message_fits
returns-then-keys-count c = rw (lt-leb _ _ c.if-keys-count.true)

pub loop-e-init : goal.loop-e-init
loop-e-init c = (rw c.no_entries-slots.ensures (entering-begins key_capacity absent_slot c.requires), rw c.no_entries-slots.ensures refl)

pub returns-then-not-rises : goal.returns-then-not-rises
unfolding message_fits entries_fit
returns-then-not-rises c =
    rw (le-leb _ _ c.if-keys-count.false) (entering-bad c.loop-e.invariant.0 blank c.loop-e-test.true (rw c.if-not-rises.true))

pub loop-e-preserved : goal.loop-e-preserved
loop-e-preserved c =
    let e : EntryRecord = get_or (take c.args.message.now.entry_count c.args.message.now.entries) c.loop-e.e-index blank in
    let f : SFits w32 e.value = search rules in
    let h = c.loop-e.invariant in
    (entering-more h.0 entries-enter blank _ c.loop-e-test.true c.if-not-rises.false (in-range f) (ap Number (to_z-of_z w32 _ f)), simp length-set h.1)

pub returns : goal.returns
unfolding message_fits entries_fit entries_of
returns c =
    let e = entering-end c.loop-e.invariant.0 entries-enter c.loop-e-test.false in
    (rw (le-leb _ _ c.if-keys-count.false) e.0, record { are = e.1 })
