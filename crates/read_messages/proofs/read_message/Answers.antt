-- The parts that are left, entered into what the array holds, give what the whole line gives.
use Rattle.std.proofs.Common.{◌≡◌, ◌<◌, ◌+◌, ◌∙◌, ◌≢◌, ◌∷◌, sym, ap, arith, rules, ℤ, length, drop}
use Rattle.std.proofs.lemmas.Bool.Decides.{nat_tests}
use Rattle.std.proofs.lemmas.{Iterator.Consumers.YieldsList-from_first, List.length_push}
use mir.{Syntax.w32, Val.to_z, Val.of_z, ValLaws.to_z-of_z}
use Rattle.model.specs.{Parsed.got, Text.comma, Text.split, Pair.pair, Messages.parts, Messages.all_absent, Stored.key_capacity, Stored.entry_in, Stored.absent_slot}
use Rattle.model.proofs.{Accepted.keys-rise, Handed.refused_by-handed}
use Rattle.read_pair.specs.Pair.{by_key}
use Rattle.read_pair.proofs.Laws.{by-key-blank}
use Rattle.read_messages.proofs.Laws.{parts_none, message-empty, message-parts, line-bad, line_ok, part_bad, part_more}
use Rattle.read_messages.proofs.Items.{next_item, no-item}
use Rattle.read_messages.specs.Messages.{parts_left}
use Rattle.read_messages.proofs.read_message.Goals as goal
use Rattle.read_messages.proofs.read_message.Goals.{After-no_entries-slots, In-Some, In_ok-k}

-- the array is blank at first
blank : (c : After-no_entries-slots) → by_key entry_in c.args.keys 0 c.no_entries-slots.result ≡ all_absent c.args.keys
blank c = rw c.no_entries-slots.ensures (by-key-blank entry_in c.args.keys key_capacity absent_slot c.requires.1)

pub returns-then-is_empty : goal.returns-then-is_empty
returns-then-is_empty c =
    sym (line_ok _ _ _ _ (message-empty _ _ (grind (arith, nat_tests, c.if-is_empty.ensures)) ∙ ap got (sym (blank (goal.at.returns-then-is_empty c).After-no_entries-slots))))

pub loop-part-init : goal.loop-part-init
loop-part-init c =
    let some : length c.args.s.now ≢ 0 = grind (arith, nat_tests, c.if-is_empty.ensures) in
    rw (blank (goal.at.loop-part-init c).After-no_entries-slots) (sym (message-parts _ _ some))

-- the parts that are left, of which this is the first
left : (c : In-Some) → let ps = split comma c.args.s.now in drop (length c.loop-part.yielded) ps ≡ c.in-Some.part.now ∷ drop (length c.loop-part.yielded + 1) ps
left c = next_item (YieldsList-from_first (λ p. p.now) parts_left (split comma c.args.s.now) (search rules)) _ _ c.loop-part.yielded_by c.in-Some.is c.next.ensures.steps

pub returns-in_err-k : goal.returns-in_err-k
returns-in_err-k c =
    let l = left (goal.at.returns-in_err-k c).In-Some in
    let b = ap (parts c.args.keys _) l ∙ part_bad _ c.requires.0 c.loop-part.next c.loop-part.slots _ _ _ (sym c.in_err-k.ensures) in
    refused_by-handed _ _ _ c.from_residual.ensures.1 ∙ sym (line-bad _ _ _ (sym c.loop-part.invariant ∙ b))

-- a part, its value as the array holds it
found : (c : In_ok-k) → pair c.args.keys c.loop-part.next c.in-Some.part.now ≡ got (c.in_ok-k.k, to_z w32 (of_z w32 c.in_ok-k.v))
found c = sym c.in_ok-k.ensures ∙ ap (λ (v : ℤ). got (c.in_ok-k.k, v)) (sym (to_z-of_z w32 c.in_ok-k.v (search rules)))

-- its key is one of the keys
below : (c : In_ok-k) → c.in_ok-k.k < key_capacity
below c = let b = (keys-rise _ _ _ _ c.requires.0 (found c)).1 in omega arith

pub offset_bounds-slots-k : goal.offset_bounds-slots-k
offset_bounds-slots-k c = let b = below (goal.at.offset_bounds-slots-k c).In_ok-k in omega arith

pub bounds-slots-k : goal.bounds-slots-k
bounds-slots-k c = let b = below (goal.at.bounds-slots-k c).In_ok-k in omega arith

pub overflow_add-next : goal.overflow_add-next
overflow_add-next c = let b = below (goal.at.overflow_add-next c).In_ok-k in omega arith

pub loop-part-preserved : goal.loop-part-preserved
loop-part-preserved c =
    let l = left (goal.at.loop-part-preserved c).In-Some in
    let b = ap (parts c.args.keys _) l ∙ part_more _ c.requires.0 c.loop-part.next c.loop-part.slots _ _ _ _ (found (goal.at.loop-part-preserved c).In_ok-k) in
    rw (length_push c.loop-part.yielded c.in-Some.part) (sym b ∙ c.loop-part.invariant)

pub returns : goal.returns
returns c =
    let l = no-item (YieldsList-from_first (λ p. p.now) parts_left (split comma c.args.s.now) (search rules)) _ _ c.loop-part.yielded_by c.in-None.is c.next.ensures.steps in
    sym (line_ok _ _ _ _ (sym c.loop-part.invariant ∙ ap (parts c.args.keys _) l ∙ parts_none _ _))
