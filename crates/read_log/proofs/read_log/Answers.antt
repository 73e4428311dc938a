-- The first row, and the others behind it.
use Rattle.std.proofs.Common.{◌≡◌, ◌∙◌, ◌+◌, sym, ap, arith, rules, length-take-le, Err}
use Rattle.model.specs.{Parsed.got, Refusal.parsed, Refusal.parsed_by}
use Rattle.model.specs.declared.Refusal.{Refusal}
use Rattle.model.proofs.Handed.{handed}
use Rattle.model_text.proofs.TextLaws.{rest}
use Rattle.read_log.proofs.Named.{named_ok, named-err}
use Rattle.read_log.specs.Log.{scan, keys_in}
use Rattle.read_log.proofs.{Rows.First, Rows.scan-first, Further.log-faulty, Further.log-keys-bad, Further.log-keys}
use Rattle.read_log.proofs.read_log.Goals as goal
use Rattle.read_log.proofs.read_log.Goals.{After-from_residual, After-from_residual-in_err-header, In_ok-e}

-- a refusal of the scan, and that it is told of row 1
unscanned : (c : After-from_residual) → (y : Refusal) × (c.scan_row.result ≡ Err y) × (c.in_err-e.field-0.0 ≡ record { refusal = y; line = 1 })
unscanned c = let m = named-err _ _ _ _ c.map_err.ensures.cases c.in_err-e.was in (m.0, m.1, search rules)

pub returns-in_err-e : goal.returns-in_err-e
returns-in_err-e c =
    let m = unscanned c in
    let r = sym c.scan_row.ensures ∙ ap parsed m.1 in
    rw (handed _ _ c.from_residual.ensures.1, m.2) (record { read = sym (log-faulty c.args.s.now _ r); few = tt })

-- the row that the scan found
scanned : (c : In_ok-e) → scan 0 1 c.args.s.now ≡ got (c.in_ok-e.e, c.in_ok-e.field-0-1)
scanned c = sym c.scan_row.ensures ∙ ap parsed (named_ok _ _ _ _ c.map_err.ensures.cases c.in_ok-e.was)

first : (c : In_ok-e) → First c.args.s.now c.in_ok-e.e c.in_ok-e.field-0-1
first c = scan-first _ _ _ (scanned c)

pub slice_bounds-read_keys-end : goal.slice_bounds-read_keys-end
slice_bounds-read_keys-end c = let i = (first (goal.at.slice_bounds-read_keys-end c).In_ok-e).inside in sym (length-take-le _ _ (omega arith))

-- a refusal of the keys, told of row 1 too
unread : (c : After-from_residual-in_err-header) → (y : Refusal) × (c.read_keys.result ≡ Err y) × (c.in_err-header.field-0.0 ≡ record { refusal = y; line = 1 })
unread c = let m = named-err _ _ _ _ c.map_err-2.ensures.cases c.in_err-header.was in (m.0, m.1, search rules)

pub returns-in_err-header : goal.returns-in_err-header
returns-in_err-header c =
    let m = unread c in
    let r = sym c.read_keys.ensures.read ∙ ap (parsed_by keys_in) m.1 in
    rw (handed _ _ c.from_residual-in_err-header.ensures.1, m.2) (record { read = sym (log-keys-bad _ _ _ (scanned (goal.at.returns-in_err-header c).In_ok-e) _ r); few = tt })

pub overflow_add-e : goal.overflow_add-e
overflow_add-e c = let i = (first (goal.at.overflow_add-e c).In_ok-e).inside in omega arith

pub slice_bounds-read_further-count : goal.slice_bounds-read_further-count
slice_bounds-read_further-count c = let i = (first (goal.at.slice_bounds-read_further-count c).In_ok-e).inside in omega arith

pub slice_bounds-read_further-start : goal.slice_bounds-read_further-start
slice_bounds-read_further-start c = let i = (first (goal.at.slice_bounds-read_further-start c).In_ok-e).inside in omega arith

pub returns : goal.returns
returns c =
    let s = c.args.s.now in
    let m = named_ok _ _ _ _ c.map_err-2.ensures.cases c.in_ok-header.was in
    let k = sym c.read_keys.ensures.read ∙ ap (parsed_by keys_in) m in
    record { read = rw (rest s (c.in_ok-e.e + 2)) at c.read_further.ensures.read ∙ sym (log-keys _ _ _ (scanned (goal.at.returns c).In_ok-e) _ k); few = c.read_further.ensures.few }
