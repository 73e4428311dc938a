-- The fields that are left, entered into what the array holds, give what the whole row gives.
use Rattle.std.proofs.Common.{◌≡◌, ◌∙◌, ◌+◌, ◌∷◌, ◌<◌, sym, ap, arith, rules, length, length-set, drop, replicate}
use Rattle.std.proofs.lemmas.{Iterator.YieldsList-from_slice, Iterator.YieldsList-from_zip, Iterator.Consumers.YieldsList-from_first, List.length_push}
use Rattle.std.specs.List.{zip}
use Rattle.model.specs.{Text.comma, Text.split, Stored.key_capacity, Stored.absent_slot, Stored.entry_in, Stored.first_of}
use Rattle.model.specs.declared.Entry.TheVariants.{Absent}
use Rattle.model.proofs.{Stored.first-same, Handed.refused_by-handed}
use Rattle.model_log.specs.Log.{key_count, entries}
use Rattle.read_messages.specs.Messages.{parts_left}
use Rattle.read_messages.proofs.Items.{next_item, no-item}
use Rattle.read_log.proofs.Fields.{entered, entries-zip, entered-none, entry-bad, entry_next, key-held}
use Rattle.read_log.proofs.read_row.Goals as goal
use Rattle.read_log.proofs.read_row.Goals.{In-Some}

pub loop-k-init : goal.loop-k-init
loop-k-init c =
    let blank : first_of entry_in key_count c.no_entries-slots.result ≡ replicate key_count Absent = rw c.no_entries-slots.ensures (first-same entry_in key_count key_capacity absent_slot (omega arith)) in
    record { can = (tt, tt); finite = tt; all = ap length c.no_entries-slots.ensures; same = sym (entries-zip _ _ _) ∙ ap (entries c.args.keys.now (split comma c.args.t.now)) blank }

-- the fields that are left with their keys, of which this is the first
left : (c : In-Some) →
    let ps = zip c.args.keys.now (split comma c.args.t.now) in
    drop (length c.loop-k.yielded) ps ≡ (c.in-Some.field-0-0.now, c.in-Some.f.now) ∷ drop (length c.loop-k.yielded + 1) ps
left c =
    next_item
    (YieldsList-from_zip (YieldsList-from_slice c.args.keys.now (search rules)) (YieldsList-from_first (λ p. p.now) parts_left (split comma c.args.t.now) (search rules)))
    _ _ c.loop-k.yielded_by {u = c.next.new.self} c.in-Some.is c.next.ensures.steps

key : (c : In-Some) → c.in-Some.field-0-0.now < key_count
key c = key-held _ _ _ _ _ _ c.requires (left c)

pub returns-in_err-entry : goal.returns-in_err-entry
returns-in_err-entry c =
    let l = left (goal.at.returns-in_err-entry c).In-Some in
    let b = ap (λ ps. entered ps (first_of entry_in key_count c.loop-k.slots)) l ∙ entry-bad _ _ _ _ _ (sym c.in_err-entry.ensures) in
    refused_by-handed _ _ _ c.from_residual.ensures.1 ∙ sym (sym c.loop-k.invariant.same ∙ b)

pub loop-k-preserved : goal.loop-k-preserved
loop-k-preserved c =
    let i = (goal.at.loop-k-preserved c).In-Some in
    let b = ap (λ ps. entered ps (first_of entry_in key_count c.loop-k.slots)) (left i) ∙ entry_next _ _ _ _ (record { entry = c.in_ok-entry.entry }) (key i) (sym c.in_ok-entry.ensures) in
    record {
      can = (tt, tt);
      finite = tt;
      all = simp length-set c.loop-k.invariant.all;
      same = rw (length_push c.loop-k.yielded (c.in-Some.field-0-0, c.in-Some.f)) (sym b ∙ c.loop-k.invariant.same);
    }

pub returns : goal.returns
returns c =
    let l =
    no-item
    (YieldsList-from_zip (YieldsList-from_slice c.args.keys.now (search rules)) (YieldsList-from_first (λ p. p.now) parts_left (split comma c.args.t.now) (search rules)))
    _ _ c.loop-k.yielded_by {u = c.next.new.self} c.in-None.is c.next.ensures.steps in
    sym (sym c.loop-k.invariant.same ∙ ap (λ ps. entered ps (first_of entry_in key_count c.loop-k.slots)) l ∙ entered-none _)
