-- Refusal 10, or the record with the numbers.
use borrow.Author.Rules.{rules}
use Rattle.model_entry.proofs.Laws.{read-other}
use Rattle.enter_record.proofs.Laws.{read-leaves, refused-leaves}
use Rattle.enter_record.proofs.LentJob.{in_memory}
use Rattle.model_record.specs.Claims.{Shaped}
use Rattle.enter_record.proofs.read_into.Goals as goal
use Rattle.enter_record.proofs.read_into.Goals.{Start}

-- the record is in memory, so it has its places
shaped : (c : Start) → Shaped c.args.job
shaped c = in_memory c.args.job c.well_formed.1.0

pub returns-then-answer-ne-JOB_ANSWER_BYTES : goal.returns-then-answer-ne-JOB_ANSWER_BYTES
returns-then-answer-ne-JOB_ANSWER_BYTES c = (read-other _ _ _ c.if-answer-ne-JOB_ANSWER_BYTES.true, shaped (goal.at.returns-then-answer-ne-JOB_ANSWER_BYTES c).Start)

pub returns-in-Ok : goal.returns-in-Ok
returns-in-Ok c = (read-leaves _ _ _ (search rules) c.in-Ok.ensures c.put_two-number.ensures, shaped (goal.at.returns-in-Ok c).Start)

pub returns-in-Err : goal.returns-in-Err
returns-in-Err c =
    (refused-leaves _ _ _ (search rules) c.in-Err.ensures (rw c.from.ensures at c.put_two-number-in-Err.ensures), shaped (goal.at.returns-in-Err c).Start)
