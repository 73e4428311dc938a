-- A row that the scan refuses, one with another count of fields, or a message.
use Rattle.std.proofs.Common.{◌∙◌, ◌+◌, sym, arith, refl, take, drop, length-take-le}
use Rattle.model.proofs.Handed.{handed}
use Rattle.model_log.specs.Log.{ended, rows}
use Rattle.read_log.proofs.{Rows.First, Rows.scan-first, Further.row_count, Further.row_read, Further.taken_refused, Further.taken-faulty}
use Rattle.read_log.proofs.take_row.Goals as goal
use Rattle.read_log.proofs.take_row.Goals.{In_ok-e}

pub returns-in_err-e : goal.returns-in_err-e
returns-in_err-e c = rw (handed _ _ c.from_residual.ensures.1) (taken-faulty c.requires.1 (sym c.in_err-e.ensures))

-- the row that the scan found
first : (c : In_ok-e) → First c.args.t.now c.in_ok-e.e c.in_ok-e.fields
first c = scan-first _ _ _ (sym c.in_ok-e.ensures)

pub returns-then-fields-keys : goal.returns-then-fields-keys
returns-then-fields-keys c =
    let f = first (goal.at.returns-then-fields-keys c).In_ok-e in
    taken_refused f.rows (row_count _ _ _ f.fields (λ e. c.if-fields-keys.true (sym f.count ∙ e)))

pub slice_bounds-read_row-end : goal.slice_bounds-read_row-end
slice_bounds-read_row-end c = let i = (first (goal.at.slice_bounds-read_row-end c).In_ok-e).inside in sym (length-take-le _ _ (omega arith))

pub returns-in_err-line : goal.returns-in_err-line
returns-in_err-line c =
    let f = first (goal.at.returns-in_err-line c).In_ok-e in
    rw (handed _ _ c.from_residual-in_err-line.ensures.1) (taken_refused f.rows (row_read _ _ _ f.fields (f.count ∙ c.if-fields-keys.false) ∙ sym c.in_err-line.ensures))

pub overflow_add-result : goal.overflow_add-result
overflow_add-result c = let i = (first (goal.at.overflow_add-result c).In_ok-e).inside in omega arith

pub returns : goal.returns
returns c =
    let e = c.in_ok-e.e in
    let t = c.args.t.now in
    let f = first (goal.at.returns c).In_ok-e in
    let i = f.inside in
    record {
      first = ended (take e t);
      others = rows (drop (e + 2) t);
      split = f.rows;
      read = c.in_ok-line.ensures ∙ sym (row_read _ _ _ f.fields (f.count ∙ c.if-fields-keys.false));
      ahead = (refl, omega arith, omega arith);
    }
