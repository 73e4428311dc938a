-- Refusal 10, or the run with its numbers.
use mathlib.Core.Path.{◌≡◌, refl, ap, ◌∙◌}
use mathlib.Core.List.{List}
use Prim.Native.Nat.{ℕ}
use borrow.Author.Rules.{rules}
use lib.ListN.{get_or}
use Rattle.model_run.specs.Whole.{Left, answered_by, run_sheet, run_entry}
use Rattle.model.specs.Answer.{numbers_of, all_le32, number_count}
use Rattle.model_entry.proofs.Laws.{entered-sized, entered-other, leaves}
use Rattle.enter_text.proofs.run_into.Goals as goal
use Rattle.enter_text.proofs.run_into.Goals.{After-run_numbers-ns, After-put_numbers}

pub returns-then-answer-ne-ANSWER_BYTES : goal.returns-then-answer-ne-ANSWER_BYTES
unfolding run_entry
returns-then-answer-ne-ANSWER_BYTES c =
    let a = c.args in
    leaves (entered-other number_count a.output.now a.answer.now (answered_by (run_sheet a.sheet.now a.output.now)) c.if-answer-ne-ANSWER_BYTES.true) refl refl refl

-- the seven numbers are those of the run
seven : (c : After-run_numbers-ns) →
    let a = c.args in
    c.run_numbers-ns.result ≡ numbers_of (run_sheet a.sheet.now a.output.now).answer
seven c = c.run_numbers-ns.ensures ∙ ap (λ (x : Left). numbers_of x.answer) c.run_sheet.ensures

pub returns : goal.returns
unfolding run_entry
returns c =
    let put = (goal.at.returns c).After-put_numbers in
    let ns = (goal.at.After-put_numbers put).After-run_numbers-ns in
    let a = ns.args in
    leaves (entered-sized number_count a.output.now a.answer.now (answered_by (run_sheet a.sheet.now a.output.now)) (search rules))
    (ap (λ (l : List ℕ). get_or l 0 0) (seven ns))
    (ap (λ (x : Left). x.memory) ns.run_sheet.ensures)
    (put.put_numbers.ensures ∙ ap all_le32 (seven ns))
