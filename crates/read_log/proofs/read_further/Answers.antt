-- The rows that are left, behind the messages that the array holds, give what all rows give.
use Rattle.std.proofs.Common.{◌≡◌, ◌∙◌, ◌≤◌, [], sym, ap, arith, rules, List, length, length-set, Err}
use Rattle.std.proofs.lemmas.{Bool.Decides.nat_tests, Result.IfOk-at_ok}
use Rattle.model.specs.{Limits.most_messages, Refusal.number_of, Refusal.parsed_by, Stored.entries_in}
use Rattle.model.specs.declared.{Form.Form, MessageLine.MessageLine, Refusal.Refusal}
use Rattle.model.proofs.Handed.{handed}
use Rattle.model_log.specs.Log as Log
use Rattle.model_log.specs.Log.{key_count, rows, further}
use Rattle.model_text.proofs.TextLaws.{rest}
use Rattle.read_log.proofs.Named.{named_ok, named-err}
use Rattle.read_log.specs.Log.{LogRead}
use Rattle.read_log.proofs.Further.{from, none_left, one-too-many, row-refused, row_more}
use Rattle.read_log.proofs.read_further.Goals as goal
use Rattle.read_log.proofs.read_further.Goals.{After-from_residual, At-loop-left}

-- a turn that leaves the loop with a refusal
refuses : (c : At-loop-left) (x : Refusal) → from c.args.keys.now c.loop-left.row c.loop-left.left.now c.loop-left.count c.loop-left.messages ≡ Log.refused (number_of x) c.loop-left.row
    → (ms : List MessageLine) → LogRead (further c.args.keys.now 2 [] (rows c.args.s.now)) (Err (record { refusal = x; line = c.loop-left.row })) ms
refuses c x e ms = record { read = sym (sym c.loop-left.invariant.same ∙ e); few = tt }

-- the limit is that of `sheet=1`
limit : (c : At-loop-left) → c.one-form.result.messages ≡ most_messages
limit c = ap (λ (f : Form). f.messages) c.one-form.ensures

pub returns-then-form-count : goal.returns-then-form-count
returns-then-form-count c =
    let l = (goal.at.returns-then-form-count c).At-loop-left in
    let some : 1 ≤ length c.loop-left.left.now = grind (arith, nat_tests, c.loop-left-test.ensures) in
    refuses l _ (one-too-many _ _ _ _ _ some (omega (arith, limit l)) (omega arith)) _

-- the refusal of a row, and that it is told with the row's number
told : (c : After-from_residual) → (y : Refusal) × (c.take_row-taken.result ≡ Err y) × (c.in_err-line.field-0.0 ≡ record { refusal = y; line = c.loop-left.row })
told c = let m = named-err _ _ _ _ c.map_err.ensures.cases c.in_err-line.was in (m.0, m.1, search rules)

pub returns-in_err-line : goal.returns-in_err-line
returns-in_err-line c =
    let l = (goal.at.returns-in_err-line c).At-loop-left in
    let some : 1 ≤ length c.loop-left.left.now = grind (arith, nat_tests, c.loop-left-test.ensures) in
    let m = told c in
    let t = c.take_row-taken.ensures in
    let r = sym t.read ∙ ap (parsed_by (λ x. entries_in key_count x.0)) m.1 in
    rw (handed _ _ c.from_residual.ensures.1, m.2) (refuses l m.0 (row-refused _ _ _ _ _ some (omega (arith, limit l)) (omega (arith, limit l)) t.first t.others t.split _ r) _)

pub loop-left-preserved : goal.loop-left-preserved
loop-left-preserved c =
    let i = c.loop-left.invariant in
    let l = (goal.at.loop-left-preserved c).At-loop-left in
    let some : 1 ≤ length c.loop-left.left.now = grind (arith, nat_tests, c.loop-left-test.ensures) in
    let t = c.take_row-taken.ensures in
    let m = named_ok _ _ _ _ c.map_err.ensures.cases c.in_ok-line.was in
    let a = IfOk-at_ok _ m t.ahead in
    let r = sym t.read ∙ ap (parsed_by (λ x. entries_in key_count x.0)) m in
    let e = row_more c.args.keys.now c.loop-left.row c.loop-left.left.now c.loop-left.count c.loop-left.messages some (omega (arith, limit l)) (omega (arith, limit l)) t.first t.others t.split c.in_ok-line.line r in
    record {
      few = omega (arith, limit l);
      number = omega arith;
      all = simp length-set i.all;
      same = rw (rest c.loop-left.left.now c.in_ok-line.size, ← a.0) (sym e ∙ i.same);
    }

pub returns : goal.returns
returns c =
    let none : length c.loop-left.left.now ≡ 0 = grind (arith, nat_tests, c.loop-left-test.ensures) in
    record { read = sym (sym c.loop-left.invariant.same ∙ none_left _ _ _ _ _ none); few = omega arith }
