-- A change as the code holds it.
use Rattle.std.specs.Prelude.{ℕ, ◌≡◌, Result, Ok, Err}
use Rattle.model.specs.{Job.Job, Stored.Stored, Stored.job_of, Accepted.Sound, Refusal.number_of}
use Rattle.model.specs.declared.{StoredJob.StoredJob, Refusal.Refusal}
use Rattle.model_change.specs.Change.{Change, gives, denies}

-- what r says, where n gives the number of a refusal: a job, or a refusal
abbrev pub change_by : {R : Type 0} → (R → ℕ) → Result StoredJob R → Change
change_by n (Ok j) = gives (job_of j)
change_by n (Err r) = denies (n r)

abbrev pub change_in : Result StoredJob Refusal → Change
change_in r = change_by number_of r

-- what counts of the job's arrays is there
abbrev pub StoredIn : {R : Type 0} → Result StoredJob R → Type 0
StoredIn (Ok j) = Stored j
StoredIn (Err r) = Unit {0}

-- r is what comes of a change
pub record Comes (c : Change) (r : Result StoredJob Refusal) : Type 0 where
  pub is : change_in r ≡ c
  pub stored : StoredIn r

-- what is asked of a change that is to be written
pub record SavableBy {R : Type 0} (n : R → ℕ) (r : Result StoredJob R) : Type 0 where
  pub sound : (k : Job) → change_by n r ≡ gives k → Sound k
  pub stored : StoredIn r

abbrev pub Savable : Result StoredJob Refusal → Type 0
Savable r = SavableBy number_of r
