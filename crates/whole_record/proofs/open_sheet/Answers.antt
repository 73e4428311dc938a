-- The two cases of reading.
use mathlib.Core.Path.{refl}
use Rattle.model.specs.Stored.{job_of}
use Rattle.model.proofs.{Accepted.accepted-sound}
use Rattle.read_sheet.proofs.Answers.{read-accepted, read-refused}
use Rattle.whole_record.proofs.open_sheet.Goals as goal

-- the form of a job that was read is one of the forms
pub record_over-requires : goal.record_over-requires
unfolding job_of
record_over-requires c = (c.in-Ok.ensures.stored, (accepted-sound _ _ (read-accepted c.in-Ok.ensures)).form.1)

pub returns-in-Ok : goal.returns-in-Ok
returns-in-Ok c = (job_of c.in-Ok.job, read-accepted c.in-Ok.ensures, c.record_over.ensures)

pub returns-in-Err : goal.returns-in-Err
returns-in-Err c = (read-refused c.in-Err.ensures, refl)
