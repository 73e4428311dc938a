-- The four functions that read blocks, by the laws of what each finds at a place.
use Rattle.std.proofs.Common.{◌≡◌, ◌∙◌, ◌+◌, ℕ, refl, sym, ap, subst, arith, rules, take, Ok}
use Rattle.model.specs.declared.TextFault.{TextFault}
use Rattle.model_text.proofs.TextLaws.{rest}
use Rattle.model_blocks.proofs.Taken.{tested-bound}
use Rattle.pack_command.specs.Pack.{Packable}
use Rattle.read_dialect.specs.Words.{said_as}
use Rattle.read_dialect.specs.declared.LineWord.{LineWord}
use Rattle.read_blocks.specs.Blocks.{next_line, fault, refused_by, LineAt, Goes, StopsAt, ItemRead, NestedRead, BlockRead, OtherRead}
use Rattle.read_blocks.specs.declared.{Close.Close, Item.Item}
use Rattle.read_blocks.proofs.Goes.{goes_none, goes-more, goes-as, refuses-after, other-on}
use Rattle.read_blocks.proofs.Items.{exits, mapped_err, mapped_ok, no_line, line_at, own-item, own-item-refused, item-as, body-as, body-refused}
use Rattle.read_blocks.proofs.Items.{Opened, nested-refuses, nested-open, nested-end, nested-if, nested-loop, nested-other, nested-while}
use Rattle.read_blocks.proofs.Items.{other-open, other-closed, other-else, other-end}
use Rattle.read_blocks.proofs.Lines.{line-long, opens-deep, opens-bad, else-bad}
use Rattle.read_blocks.proofs.Cycle.{test-packable, jump-packable, line-fits, variable-at}
use Rattle.read_blocks.proofs.+blocks.Goals as goal
use Rattle.read_blocks.proofs.+blocks.Goals.{read_block-In_ok-q, read_item-After-said_by, read_nested-In_ok-v, read_nested-In_ok-body, read_other-In_ok-body}

-- ---- The lines of a block

-- what is read at a turn of the loop
item_at : (t : ℕ) (c : read_block-In_ok-q t) {x : Item} → c.in_ok-q.field-0 ≡ x
    → ItemRead c.args.keys c.args.depth c.args.s.now c.loop-q.p c.loop-q.out c.read_item.new.out (Ok x)
item_at t c e = item-as _ _ _ _ _ _ _ c.in_ok-q.ensures e

pub read_block-loop-q-init : goal.read_block-loop-q-init
read_block-loop-q-init t c = (goes_none _ _ _ _ _ c.requires.starts, refl)

pub read_block-loop-q-smaller : goal.read_block-loop-q-smaller
unfolding ItemRead
read_block-loop-q-smaller t c = let g = item_at t (goal.at.read_block-loop-q-smaller t c).In_ok-q c.in-Got.is in omega (arith, g.1, g.0.starts.inside)

pub read_block-loop-q-preserved : goal.read_block-loop-q-preserved
unfolding ItemRead
read_block-loop-q-preserved t c =
    let g = item_at t (goal.at.read_block-loop-q-preserved t c).In_ok-q c.in-Got.is in
    (goes-more _ _ _ c.loop-q.invariant.1 c.loop-q.invariant.0 g.0, c.read_item.auto.out ∙ c.loop-q.invariant.1)

pub read_block-returns-in-Stop : goal.read_block-returns-in-Stop
unfolding ItemRead BlockRead
read_block-returns-in-Stop t c =
    let g = item_at t (goal.at.read_block-returns-in-Stop t c).In_ok-q c.in-Stop.is in
    (goes-as _ _ _ g.1 c.loop-q.invariant.0, g.0)

pub read_block-returns-in_err-q : goal.read_block-returns-in_err-q
unfolding ItemRead BlockRead
read_block-returns-in_err-q t c = exits (BlockRead _ _ _ _ _ _) c.from_residual.ensures.1 (refuses-after _ _ _ _ c.loop-q.invariant.0 c.in_err-q.ensures)

-- ---- What stands at a place

-- the line there, by its first word
line_here : (t : ℕ) (c : read_item-After-said_by t) {x : LineWord} → c.said_by.result ≡ x
    → LineAt c.args.s.now c.args.p (record { word = c.first_word-w.result.end; end = c.find_byte-end.result }) (said_as x)
line_here t c e =
    let s = c.args.s.now in
    let w = c.first_word-w in
    line_at s _ c.args.p (rest s c.args.p.at) c.requires.starts.inside c.find_byte-end.result c.find_byte-end.ensures c.if-t-end.false
    w.result.end w.result.code w.ensures (λ i. omega (arith, c.type_inv.s i)) (sym (ap said_as e) ∙ c.said_by.ensures)

pub read_item-returns-then-t-end : goal.read_item-returns-then-t-end
unfolding ItemRead StopsAt
read_item-returns-then-t-end t c =
    let s = c.args.s.now in
    (no_line s _ c.args.p (rest s c.args.p.at) c.requires.starts.inside _ c.find_byte-end.ensures c.if-t-end.true, refl)

pub read_item-returns-in-Else : goal.read_item-returns-in-Else
unfolding ItemRead StopsAt
read_item-returns-in-Else t c = (line_here t (goal.at.read_item-returns-in-Else t c).After-said_by c.in-Else.is, refl)

pub read_item-returns-in-End : goal.read_item-returns-in-End
unfolding ItemRead StopsAt
read_item-returns-in-End t c = (line_here t (goal.at.read_item-returns-in-End t c).After-said_by c.in-End.is, refl)

pub read_item-read_nested-requires : goal.read_item-read_nested-requires
read_item-read_nested-requires t c = (omega arith, (c.requires, line_here t (goal.at.read_item-read_nested-requires t c).After-said_by c.in-If.is))

pub read_item-read_nested-requires-in-While : goal.read_item-read_nested-requires-in-While
read_item-read_nested-requires-in-While t c = (omega arith, (c.requires, line_here t (goal.at.read_item-read_nested-requires-in-While t c).After-said_by c.in-While.is))

pub read_item-returns-in_err-q-in-If : goal.read_item-returns-in_err-q-in-If
unfolding ItemRead NestedRead
read_item-returns-in_err-q-in-If t c = exits (ItemRead _ _ _ _ _ _) c.from_residual.ensures.1 c.in_err-q-in-If.ensures

pub read_item-returns-in_err-q-in-While : goal.read_item-returns-in_err-q-in-While
unfolding ItemRead NestedRead
read_item-returns-in_err-q-in-While t c = exits (ItemRead _ _ _ _ _ _) c.from_residual-in_err-q-in-While.ensures.1 c.in_err-q-in-While.ensures

pub read_item-returns-in_err-q-in-Other : goal.read_item-returns-in_err-q-in-Other
unfolding ItemRead
read_item-returns-in_err-q-in-Other t c =
    let line = line_here t (goal.at.read_item-returns-in_err-q-in-Other t c).After-said_by c.in-Other.is in
    exits (ItemRead _ _ _ _ _ _) c.from_residual-in_err-q-in-Other.ensures.1
    (own-item-refused _ _ _ _ _ line (ap (take c.find_byte-end.result) (rest c.args.s.now c.args.p.at)) _ _ _ c.in_err-q-in-Other.ensures)

pub read_item-returns-in_ok-q-in-If : goal.read_item-returns-in_ok-q-in-If
unfolding ItemRead NestedRead
read_item-returns-in_ok-q-in-If t c = c.in_ok-q-in-If.ensures

pub read_item-returns-in_ok-q-in-While : goal.read_item-returns-in_ok-q-in-While
unfolding ItemRead NestedRead
read_item-returns-in_ok-q-in-While t c = c.in_ok-q-in-While.ensures

pub read_item-returns-in_ok-q-in-Other : goal.read_item-returns-in_ok-q-in-Other
unfolding ItemRead
read_item-returns-in_ok-q-in-Other t c =
    let line = line_here t (goal.at.read_item-returns-in_ok-q-in-Other t c).After-said_by c.in-Other.is in
    own-item _ _ _ _ _ line c.requires.starts (ap (take c.find_byte-end.result) (rest c.args.s.now c.args.p.at)) _ _ _ c.in_ok-q-in-Other.ensures

-- ---- An `if` or a `while`

-- its variable is read, and its body, by what ends it
opened : (t : ℕ) (c : read_nested-In_ok-v t) → Opened c.args.keys c.args.depth c.args.s.now c.args.looping c.args.from c.args.line c.in_ok-v.v
opened t c =
    let s = c.args.s.now in
    let a = c.args.from.at in
    record {
      line = c.requires.1;
      starts = c.requires.0.starts;
      shallow = c.if-depth-ge-DEEPEST.false;
      tests = variable-at s _ a c.args.line (rest s a) c.variable_of.ensures (mapped_ok _ _ _ c.in_ok-v.ensures.cases c.in_ok-v.ensures.variant);
    }

body_at : (t : ℕ) (c : read_nested-In_ok-body t) {x : Close} → c.in_ok-body.body.stop ≡ x
    → Goes c.args.keys (c.args.depth + 1) c.args.s.now (next_line c.args.from c.args.line.end 1) c.in_ok-body.body.place c.args.out.now c.read_block.new.out
    × StopsAt c.args.s.now c.in_ok-body.body.place x
body_at t c e = body-as _ _ _ _ _ _ _ c.in_ok-body.ensures c.next_line.ensures e

pub read_nested-returns-then-depth-ge-DEEPEST : goal.read_nested-returns-then-depth-ge-DEEPEST
unfolding NestedRead
read_nested-returns-then-depth-ge-DEEPEST t c = opens-deep _ _ _ _ _ c.args.looping c.requires.1 c.if-depth-ge-DEEPEST.true c.fault.ensures

pub read_nested-returns-in_err-v : goal.read_nested-returns-in_err-v
unfolding NestedRead
read_nested-returns-in_err-v t c =
    let s = c.args.s.now in
    let a = c.args.from.at in
    let h = mapped_err _ _ _ c.in_err-v.ensures.cases c.in_err-v.ensures.variant in
    let e = h.0 in
    let q = h.2 in
    let g : ◌≡◌ {A = TextFault} c.in_err-v.field-0.0 (fault c.args.from e) = search rules in
    exits (NestedRead _ _ _ _ _ _) c.from_residual.ensures.1
    (opens-bad _ _ _ _ _ c.args.looping c.requires.1 c.if-depth-ge-DEEPEST.false e (variable-at s _ a c.args.line (rest s a) c.variable_of.ensures h.1) g)

pub read_nested-returns-in_err-body : goal.read_nested-returns-in_err-body
unfolding NestedRead
read_nested-returns-in_err-body t c =
    exits (NestedRead _ _ _ _ _ _) c.from_residual-in_err-body.ensures.1
    (nested-refuses (opened t (goal.at.read_nested-returns-in_err-body t c).In_ok-v) _ (body-refused _ _ _ _ _ _ _ c.in_err-body.ensures c.next_line.ensures))

pub read_nested-returns-then-looping : goal.read_nested-returns-then-looping
unfolding NestedRead StopsAt
read_nested-returns-then-looping t c =
    let at = goal.at.read_nested-returns-then-looping t c in
    let b = body_at t at.In_ok-body c.in-Else.is in
    nested-while (opened t at.In_ok-v) c.if-looping.true b.0 b.1 c.fault-then-looping.ensures

pub read_nested-read_other-requires : goal.read_nested-read_other-requires
unfolding StopsAt
read_nested-read_other-requires t c =
    let at = goal.at.read_nested-read_other-requires t c in
    let h = c.requires.0 in
    let b = body_at t at.In_ok-body c.in-Else.is in
    let g = b.0 in (
      omega (arith, g.onward, g.starts.inside, c.requires.1.inside),
      (
        record { starts = g.starts; some = h.some; most = h.most; shallow = h.shallow; short = omega (arith, h.short, c.read_block.auto.out) },
        b.1,
        record { shallow = c.if-depth-ge-DEEPEST.false; test = omega (arith, g.counts); variable = tested-bound _ _ (opened t at.In_ok-v).tests },
      ),
    )

pub read_nested-returns-then-l : goal.read_nested-returns-then-l
unfolding NestedRead StopsAt
read_nested-returns-then-l t c =
    let at = goal.at.read_nested-returns-then-l t c in
    let b = body_at t at.In_ok-body c.in-End.is in
    nested-end (opened t at.In_ok-v) b.0 b.1 c.if-l.true c.fault-then-l.ensures

pub read_nested-overflow_add-p : goal.read_nested-overflow_add-p
unfolding StopsAt
read_nested-overflow_add-p t c =
    let b = body_at t (goal.at.read_nested-overflow_add-p t c).In_ok-body c.in-End.is in
    record { fits = omega (arith, b.0.starts.near, b.0.starts.few, b.1.inside, c.well_formed.0.0) }

pub read_nested-test_to-requires : goal.read_nested-test_to-requires
read_nested-test_to-requires t c = tested-bound _ _ (opened t (goal.at.read_nested-test_to-requires t c).In_ok-v).tests

pub read_nested-keep-requires : goal.read_nested-keep-requires
read_nested-keep-requires t c = subst Packable (sym c.test_to.ensures) (test-packable _ _ (tested-bound _ _ (opened t (goal.at.read_nested-keep-requires t c).In_ok-v).tests))

pub read_nested-keep-requires-then-looping-2 : goal.read_nested-keep-requires-then-looping-2
read_nested-keep-requires-then-looping-2 t c = subst Packable (sym c.jump_to.ensures) (jump-packable _)

pub read_nested-next_line-requires-then-looping-2 : goal.read_nested-next_line-requires-then-looping-2
unfolding StopsAt
read_nested-next_line-requires-then-looping-2 t c =
    let b = body_at t (goal.at.read_nested-next_line-requires-then-looping-2 t c).In_ok-body c.in-End.is in
    line-fits _ _ _ _ _ b.0.starts (line-long _ b.1 refl) b.1.inside c.well_formed.0.0 (omega arith)

pub read_nested-returns-then-looping-2 : goal.read_nested-returns-then-looping-2
unfolding NestedRead StopsAt
read_nested-returns-then-looping-2 t c =
    let at = goal.at.read_nested-returns-then-looping-2 t c in
    let b = body_at t at.In_ok-body c.in-End.is in
    nested-loop (opened t at.In_ok-v) b.0 b.1 c.if-l.false c.requires.0.short c.if-looping-2.true c.read_block.auto.out
    c.next_line-then-looping-2.ensures c.keep.ensures c.test_to.ensures c.keep-then-looping-2.ensures c.jump_to.ensures

pub read_nested-test_to-requires-in-End : goal.read_nested-test_to-requires-in-End
read_nested-test_to-requires-in-End t c = tested-bound _ _ (opened t (goal.at.read_nested-test_to-requires-in-End t c).In_ok-v).tests

pub read_nested-keep-requires-in-End : goal.read_nested-keep-requires-in-End
read_nested-keep-requires-in-End t c =
    subst Packable (sym c.test_to-in-End.ensures) (test-packable _ _ (tested-bound _ _ (opened t (goal.at.read_nested-keep-requires-in-End t c).In_ok-v).tests))

pub read_nested-next_line-requires-in-End : goal.read_nested-next_line-requires-in-End
unfolding StopsAt
read_nested-next_line-requires-in-End t c =
    let b = body_at t (goal.at.read_nested-next_line-requires-in-End t c).In_ok-body c.in-End.is in
    line-fits _ _ _ _ _ b.0.starts (line-long _ b.1 refl) b.1.inside c.well_formed.0.0 (omega arith)

pub read_nested-returns-in-Over : goal.read_nested-returns-in-Over
unfolding NestedRead StopsAt
read_nested-returns-in-Over t c =
    let at = goal.at.read_nested-returns-in-Over t c in
    let b = body_at t at.In_ok-body c.in-Over.is in
    nested-open (opened t at.In_ok-v) b.0 b.1 c.fault-in-Over.ensures

pub read_nested-returns-else-looping : goal.read_nested-returns-else-looping
unfolding StopsAt
read_nested-returns-else-looping t c =
    let at = goal.at.read_nested-returns-else-looping t c in
    nested-other (opened t at.In_ok-v) c.if-looping.false c.requires.0.short c.read_block.auto.out (body_at t at.In_ok-body c.in-Else.is).0 _ _ c.read_other.ensures

pub read_nested-returns-else-looping-2 : goal.read_nested-returns-else-looping-2
unfolding NestedRead StopsAt
read_nested-returns-else-looping-2 t c =
    let at = goal.at.read_nested-returns-else-looping-2 t c in
    let b = body_at t at.In_ok-body c.in-End.is in
    nested-if (opened t at.In_ok-v) b.0 b.1 c.if-l.false c.requires.0.short c.if-looping-2.false c.next_line-in-End.ensures c.keep-in-End.ensures c.test_to-in-End.ensures

-- ---- What follows an `else`, by what ends it

other_at : (t : ℕ) (c : read_other-In_ok-body t) {x : Close} → c.in_ok-body.body.stop ≡ x
    → Goes c.args.keys (c.args.depth + 1) c.args.s.now (next_line c.args.p c.args.line.end 1) c.in_ok-body.body.place c.args.out.now c.read_block.new.out
    × StopsAt c.args.s.now c.in_ok-body.body.place x
other_at t c e = body-as _ _ _ _ _ _ _ c.in_ok-body.ensures c.next_line.ensures e

pub read_other-returns-then-line : goal.read_other-returns-then-line
unfolding OtherRead
read_other-returns-then-line t c = λ o a k. else-bad _ 0 _ _ _ c.requires.1 c.args.v o.sofar o.blocks _ c.if-line.true ∙ ap refused_by (sym c.fault.ensures)

pub read_other-returns-in_err-body : goal.read_other-returns-in_err-body
unfolding OtherRead
read_other-returns-in_err-body t c =
    exits (OtherRead _ _ _ _ _ _ _ _) c.from_residual.ensures.1
    (other-on _ _ _ _ _ c.requires.1 c.if-line.false c.args.v c.args.test _ (body-refused _ _ _ _ _ _ _ c.in_err-body.ensures c.next_line.ensures))

pub read_other-returns-then-l : goal.read_other-returns-then-l
unfolding OtherRead StopsAt
read_other-returns-then-l t c =
    let b = other_at t (goal.at.read_other-returns-then-l t c).In_ok-body c.in-End.is in
    other-end _ _ _ _ _ c.requires.1 c.if-line.false c.args.v c.args.test b.0 b.1 c.if-l.true c.fault-then-l.ensures

pub read_other-keep-requires : goal.read_other-keep-requires
read_other-keep-requires t c = subst Packable (sym c.test_to.ensures) (test-packable _ _ c.requires.2.variable)

pub read_other-keep-requires-in-End : goal.read_other-keep-requires-in-End
read_other-keep-requires-in-End t c = subst Packable (sym c.jump_to.ensures) (jump-packable _)

pub read_other-next_line-requires-in-End : goal.read_other-next_line-requires-in-End
unfolding StopsAt
read_other-next_line-requires-in-End t c =
    let b = other_at t (goal.at.read_other-next_line-requires-in-End t c).In_ok-body c.in-End.is in
    line-fits _ _ _ _ _ b.0.starts (line-long _ b.1 refl) b.1.inside c.well_formed.0.0 (omega arith)

pub read_other-returns-in-Over : goal.read_other-returns-in-Over
unfolding OtherRead StopsAt
read_other-returns-in-Over t c =
    let b = other_at t (goal.at.read_other-returns-in-Over t c).In_ok-body c.in-Over.is in
    other-open _ _ _ _ _ c.requires.1 c.if-line.false c.args.v c.args.test b.0 b.1 c.fault-in-Over.ensures

pub read_other-returns-in-Else : goal.read_other-returns-in-Else
unfolding OtherRead StopsAt
read_other-returns-in-Else t c =
    let b = other_at t (goal.at.read_other-returns-in-Else t c).In_ok-body c.in-Else.is in
    other-else _ _ _ _ _ c.requires.1 c.if-line.false c.args.v c.args.test b.0 b.1 c.fault-in-Else.ensures

pub read_other-returns-else-l : goal.read_other-returns-else-l
unfolding OtherRead StopsAt
read_other-returns-else-l t c =
    let b = other_at t (goal.at.read_other-returns-else-l t c).In_ok-body c.in-End.is in
    other-closed _ _ _ _ _ c.requires.1 c.if-line.false c.args.v c.args.test b.0 b.1 c.if-l.false c.requires.0.short
    c.read_block.auto.out c.requires.2.test c.next_line-in-End.ensures c.keep.ensures c.test_to.ensures c.keep-in-End.ensures c.jump_to.ensures
