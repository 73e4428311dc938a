-- What a change says, computed: its job, or the number of its refusal, whichever it is and however it is named.
use Rattle.std.proofs.Common.{◌≡◌, refl, Ok, Err}
use Rattle.model.specs.{Stored.job_of, Written.refused}
use Rattle.model.specs.declared.StoredJob.{StoredJob}
use Rattle.model.specs.declared.Refusal.TheVariants.{Unsayable, HasForm}
use Rattle.model_change.specs.Change.{gives, draft_of}
use Rattle.model_change.specs.Changed.{change_by, change_in}

pub a-job : (j : StoredJob) → change_in (Ok j) ≡ gives (job_of j)
a-job j = refl

pub refusals-named : (draft_of (change_in (Err Unsayable)) ≡ refused 47 0) × (draft_of (change_in (Err HasForm)) ≡ refused 48 0)
refusals-named = (refl, refl)

pub refusals-numbered : (draft_of (change_by (λ n. n) (Err 0)) ≡ refused 0 0) × (draft_of (change_by (λ n. n) (Err 4294967295)) ≡ refused 4294967295 0)
refusals-numbered = (refl, refl)
