-- Refusal 10, or the sheet with its numbers.
use borrow.Author.Rules.{rules}
use Rattle.model_entry.proofs.Laws.{saved-other, saved-leaves}
use Rattle.enter_record.proofs.LentJob.{in_memory}
use Rattle.model_record.specs.Claims.{Shaped}
use Rattle.enter_record.proofs.write_into.Goals as goal
use Rattle.enter_record.proofs.write_into.Goals.{Start}

-- the record is in memory, so it has its places
shaped : (c : Start) → Shaped c.args.job
shaped c = in_memory c.args.job c.well_formed.0

pub returns-then-answer-ne-WRITE_ANSWER_BYTES : goal.returns-then-answer-ne-WRITE_ANSWER_BYTES
returns-then-answer-ne-WRITE_ANSWER_BYTES c = (saved-other _ _ _ c.if-answer-ne-WRITE_ANSWER_BYTES.true, shaped (goal.at.returns-then-answer-ne-WRITE_ANSWER_BYTES c).Start)

pub returns-in-Ok : goal.returns-in-Ok
returns-in-Ok c = (saved-leaves _ _ _ (search rules) c.in-Ok.ensures c.put_two.ensures, shaped (goal.at.returns-in-Ok c).Start)

pub returns-in-Err : goal.returns-in-Err
returns-in-Err c =
    (saved-leaves _ _ _ (search rules) c.in-Err.ensures (rw c.from.ensures at c.put_two-in-Err.ensures), shaped (goal.at.returns-in-Err c).Start)
