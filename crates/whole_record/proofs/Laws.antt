-- What is written for a record, and what a sheet gives that is opened, case by case.
use Prim.Native.Nat.{ℕ, ◌<◌, ◌≤◌}
use mathlib.Core.Path.{◌≡◌, sym, ap, subst}
use mathlib.Core.Bool.{true, false}
use mathlib.Core.List.{List}
use lib.ListN.{length}
use Rattle.model.specs.{Job.Job, Stored.Stored, Stored.job_of, Accepted.Sound, Sheet.accepted, Sheet.refused, Sheet.read_sheet, Written.written, Written.untouched, Written.write}
use Rattle.model.specs.Written as Written
use Rattle.model.specs.Placed.{front}
use Rattle.model.proofs.Written.{write-refused, write-fits, write-short}
use Rattle.model_sheet.specs.Sheet.{sheet_text}
use Rattle.model_record.specs.declared.JobRecord.{JobRecord}
use Rattle.model_record.specs.Claims.{Shaped}
use Rattle.model_record.specs.{Record.passes, Record.text_of, Record.record_over, Entry.draft, Entry.write_record}
use Rattle.model_record.proofs.{Sound.passes-sound, Record.read-then-written}
use Rattle.read_record.specs.Read.{Says}
use Rattle.model.specs.declared.StoredJob.{StoredJob}
use Rattle.whole_record.specs.Opened.{resaved}

-- ---- A record that is saved

module _ (r : JobRecord) (m : List ℕ) where
  pub record-refused : passes r ≡ false → write_record r m ≡ untouched 54 0 m
  unfolding write_record draft
  record-refused e = rw e (write-refused 55 m 54 0)

  module _ (e : passes r ≡ true) where
    pub record-lacks : length m < length (text_of r) → write_record r m ≡ untouched 55 0 m
    unfolding write_record draft
    record-lacks h = rw e (write-short 55 m (text_of r) h)

    pub record-fits : length (text_of r) ≤ length m → write_record r m ≡ written (record { number = 0; line = 0; bytes = length (text_of r) }) (front m (text_of r))
    unfolding write_record draft
    record-fits h = rw e (write-fits 55 m (text_of r) h)

    pub record-saved : write_record r m ≡ write 55 m (Written.text (text_of r))
    unfolding write_record draft
    record-saved = rw e

-- a record that was taken: its job is sound and stored, and its text is the job's
pub record Saved (r : JobRecord) (job : StoredJob) : Type 0 where
  pub passing : passes r ≡ true
  pub sound : Sound (job_of job)
  pub stored : Stored job
  pub text : sheet_text (job_of job) ≡ text_of r

pub saved : (r : JobRecord) (job : StoredJob) → (passes r ≡ true) × Says r job → Saved r job
saved r job (p, k) =
    record { passing = p; sound = subst Sound (sym k.says) (passes-sound r k.sized.0 k.sized.1 p); stored = k.stored; text = ap sheet_text k.says }

-- ---- A sheet that is opened, and saved again

module _ (s m : List ℕ) where
  pub again-refused : (n l : ℕ) → read_sheet s ≡ refused n l → resaved s m ≡ untouched n l m
  unfolding resaved
  again-refused n l e = rw e (write-refused 55 m n l)

  pub again-written : (old : JobRecord) → Shaped old → (r : JobRecord) → (j : Job) × (read_sheet s ≡ accepted j) × (r ≡ record_over j old) → write_record r m ≡ resaved s m
  unfolding resaved write_record draft
  again-written old h r (j, e, q) = let w = read-then-written s j old h e in rw (q, e, w.passing, w.bytes)
