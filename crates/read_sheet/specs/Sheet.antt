-- What the readers of a whole sheet answer.
use Rattle.std.specs.Prelude.{◌≡◌, Result, Ok, Err, IfOk, List, ℕ, length}
use Rattle.model.specs.{Refusal.number_of, Job.Job, Stored.Stored, Stored.job_of, Sheet.Reading, Sheet.accepted, Sheet.refused, Sheet.targets}
use Rattle.model.specs.declared.{Command.Command, StoredJob.StoredJob, Fault.Fault}

abbrev pub reading_as : Result StoredJob Fault → Reading
reading_as (Ok j) = accepted (job_of j)
reading_as (Err e) = refused (number_of e.refusal) e.line

-- r is the reading x, and what counts of its arrays is there
pub record Answers (x : Reading) (r : Result StoredJob Fault) : Type 0 where
  pub reading : reading_as r ≡ x
  pub stored : IfOk r Stored

-- what the test of the targets says of the job j
abbrev pub told_as : Job → Result (Unit {0}) Fault → Reading
told_as j (Ok x) = accepted j
told_as j (Err e) = refused (number_of e.refusal) e.line

-- r says of every job with these commands where its reading ends, the first command being on the line top
pub record TargetsTold (cs : List Command) (top : ℕ) (r : Result (Unit {0}) Fault) : Type 0 where
  pub reading : (j : Job) → told_as j r ≡ targets top (length cs) cs j
