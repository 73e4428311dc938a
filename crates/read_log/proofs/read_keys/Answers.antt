-- The fields that are left, behind the keys that the array holds, give what the whole row gives.
use Rattle.std.proofs.Common.{ℕ, List, ◌≡◌, ◌∙◌, ◌+◌, ◌∷◌, ◌≤◌, sym, ap, refl, arith, rules, length, length-set, take, drop, Err}
use Rattle.std.proofs.lemmas.{Iterator.Consumers.YieldsList-from_first, List.length_push}
use Rattle.model.specs.{Parsed.Parsed, Parsed.got, Parsed.refused, Refusal.parsed, Text.comma, Text.split, Number.up_to}
use Rattle.model.specs.declared.Refusal.{Refusal}
use Rattle.model.specs.declared.Refusal.TheVariants.{BadField}
use Rattle.model.proofs.{Accepted.up-to-bound, Accepted.every-snoc, Handed.handed}
use Rattle.model_log.specs.Log.{greatest_key, key_numbers}
use Rattle.read_messages.specs.Messages.{parts_left}
use Rattle.read_messages.proofs.Items.{next_item, no-item}
use Rattle.read_log.proofs.Named.{named_ok, named-err}
use Rattle.read_log.specs.Log.{KeysRead}
use Rattle.read_log.proofs.Fields.{behind, key-bad, key-falls, key-next, keys-end, behind-none, keys-stored}
use Rattle.read_log.proofs.read_keys.Goals as goal
use Rattle.read_log.proofs.read_keys.Goals.{After-from_residual, At-loop-part, In-Some, In_ok-k}

pub loop-part-init : goal.loop-part-init
loop-part-init c = record { few = omega arith; within = omega arith; all = refl; held = tt; same = behind-none _ }

-- the fields that are left, of which this is the first
left : (c : In-Some) → let ps = split comma c.args.t.now in drop (length c.loop-part.yielded) ps ≡ c.in-Some.part.now ∷ drop (length c.loop-part.yielded + 1) ps
left c = next_item (YieldsList-from_first (λ p. p.now) parts_left (split comma c.args.t.now) (search rules)) _ _ c.loop-part.yielded_by c.in-Some.is c.next.ensures.steps

-- what fields give behind the keys that the array holds
abbrev read_by : At-loop-part → List (List ℕ) → Parsed (List ℕ)
read_by c ps = behind (take c.loop-part.count c.loop-part.keys) (key_numbers c.loop-part.next ps)

refuses : (c : At-loop-part) → read_by c (drop (length c.loop-part.yielded) (split comma c.args.t.now)) ≡ refused 42 → KeysRead c.args.t.now (Err BadField)
refuses c e = record { read = sym (sym c.loop-part.invariant.same ∙ e); held = tt }

-- the refusal of a key, whatever its fault
bad : (c : After-from_residual) → (e : Refusal) × (c.up_to.result ≡ Err e) × (c.in_err-k.field-0.0 ≡ BadField)
bad c = let m = named-err _ _ _ _ c.map_err.ensures.cases c.in_err-k.was in (m.0, m.1, search rules)

pub returns-in_err-k : goal.returns-in_err-k
returns-in_err-k c =
    let m = bad c in
    let b = key-bad (take c.loop-part.count c.loop-part.keys) c.loop-part.next _ _ _ (sym c.up_to.ensures ∙ ap parsed m.1) in
    rw (handed _ _ c.from_residual.ensures.1, m.2)
    (refuses (goal.at.returns-in_err-k c).At-loop-part (ap (read_by (goal.at.returns-in_err-k c).At-loop-part) (left (goal.at.returns-in_err-k c).In-Some) ∙ b))

-- a key that was read, and that it is one of the eight
found : (c : In_ok-k) → up_to greatest_key c.in-Some.part.now ≡ got c.in_ok-k.k
found c = sym c.up_to.ensures ∙ ap parsed (named_ok _ _ _ _ c.map_err.ensures.cases c.in_ok-k.was)

below : (c : In_ok-k) → c.in_ok-k.k ≤ greatest_key
below c = up-to-bound _ _ _ (found c)

pub returns-then-k-next : goal.returns-then-k-next
returns-then-k-next c =
    let b = key-falls (take c.loop-part.count c.loop-part.keys) c.loop-part.next _ _ _ (found (goal.at.returns-then-k-next c).In_ok-k) c.if-k-next.true in
    refuses (goal.at.returns-then-k-next c).At-loop-part (ap (read_by (goal.at.returns-then-k-next c).At-loop-part) (left (goal.at.returns-then-k-next c).In-Some) ∙ b)

pub overflow_cast-keys : goal.overflow_cast-keys
overflow_cast-keys c = let b = below (goal.at.overflow_cast-keys c).In_ok-k in omega arith

pub bounds-keys-count : goal.bounds-keys-count
bounds-keys-count c = let b = below (goal.at.bounds-keys-count c).In_ok-k in omega arith

pub overflow_add-next : goal.overflow_add-next
overflow_add-next c = let b = below (goal.at.overflow_add-next c).In_ok-k in omega arith

pub loop-part-preserved : goal.loop-part-preserved
loop-part-preserved c =
    let i = c.loop-part.invariant in
    let k = c.in_ok-k.k in
    let b = below (goal.at.loop-part-preserved c).In_ok-k in
    let w = keys-stored c.loop-part.keys c.loop-part.count k (omega arith) in
    let n = key-next (take c.loop-part.count c.loop-part.keys) c.loop-part.next _ _ k (found (goal.at.loop-part-preserved c).In_ok-k) c.if-k-next.false in
    record {
      few = omega arith;
      within = omega arith;
      all = simp length-set i.all;
      held = rw w (every-snoc _ _ k i.held (omega arith));
      same = rw (w, length_push c.loop-part.yielded c.in-Some.part) (sym (ap (read_by (goal.at.loop-part-preserved c).At-loop-part) (left (goal.at.loop-part-preserved c).In-Some) ∙ n) ∙ i.same);
    }

pub returns : goal.returns
returns c =
    let l = no-item (YieldsList-from_first (λ p. p.now) parts_left (split comma c.args.t.now) (search rules)) _ _ c.loop-part.yielded_by c.in-None.is c.next.ensures.steps in
    let e = ap (read_by (goal.at.returns c).At-loop-part) l ∙ keys-end (take c.loop-part.count c.loop-part.keys) c.loop-part.next in
    record { read = sym (sym c.loop-part.invariant.same ∙ e); held = (c.loop-part.invariant.held, omega arith) }
