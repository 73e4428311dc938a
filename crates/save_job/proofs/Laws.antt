-- What a sheet that is read, changed and saved comes to: the two ends of every change, in the words of the readers'
-- and writers' contracts.
use Prim.Native.Nat.{ℕ}
use mathlib.Core.Path.{◌≡◌, refl, sym, ap, ◌∙◌}
use mathlib.Core.List.{List}
use Rattle.std.proofs.Common.{Result, Ok, Err}
use Rattle.std.specs.Result.{IsErrAnd}
use Rattle.model.specs.{Refusal.number_of, Refusal.text_fault, Written.told}
use Rattle.model.specs.{Job.Job, Stored.Stored, Stored.job_of, Accepted.Sound, Sheet.Reading, Sheet.accepted, Sheet.refused, Sheet.read_sheet, Written.text, Written.untouched, Written.write}
use Rattle.model.proofs.{Accepted.accepted-sound, Written.write-refused}
use Rattle.model_change.specs.Change.{Change, draft_of, drafted, change_sheet}
use Rattle.model_change.specs.Changed.{change_by, Comes, Savable, SavableBy}
use Rattle.model_change.specs.Claims.{Keeps}
use Rattle.model_sheet.specs.Sheet.{sheet_text}
use Rattle.model.specs.declared.{StoredJob.StoredJob, Refusal.Refusal, Fault.Fault, TextFault.TextFault}
use Rattle.read_sheet.specs.Sheet.{Answers}
use Rattle.read_sheet.proofs.Answers.{read-accepted}

-- a sheet that was read: what its job is, and what the writer asks of it
pub record Reads (s : List ℕ) (j : StoredJob) : Type 0 where
  pub reading : read_sheet s ≡ accepted (job_of j)
  pub sound : Sound (job_of j)
  pub stored : Stored j

pub read-got : (s : List ℕ) (j : StoredJob) → Answers (read_sheet s) (Ok j) → Reads s j
read-got s j h = let q = read-accepted h in record { reading = q; sound = accepted-sound s (job_of j) q; stored = h.stored }

-- a fault of the reading that is handed on as one of a text
pub told-handed : (f : Fault) (r : Result ℕ TextFault) → IsErrAnd r (λ g. g ≡ text_fault f) → told r ≡ record { number = number_of f.refusal; line = f.line; bytes = 0 }
told-handed f (Ok n) h = absurd h
told-handed f (Err g) h = ap (λ (x : TextFault). told (Err x)) h

module _ (short : ℕ) (f : Job → Change) (s m : List ℕ) where
  pub changed-refused : (n l : ℕ) → read_sheet s ≡ refused n l → change_sheet short f s m ≡ untouched n l m
  unfolding change_sheet
  changed-refused n l e = ap (λ (x : Reading). write short m (drafted f x)) e ∙ write-refused short m n l

  -- what a request made of the job, whatever it is
  pub changed-by : (j : Job) → read_sheet s ≡ accepted j → change_sheet short f s m ≡ write short m (draft_of (f j))
  unfolding change_sheet
  changed-by j e = rw e

-- ---- A change that is to be saved, where n gives the number of a refusal

module _ {R : Type 0} (n : R → ℕ) (r : Result StoredJob R) where
  -- its job is one that can be written
  pub savable-job : {j : StoredJob} → r ≡ Ok j → SavableBy n r → Sound (job_of j) × Stored j
  savable-job {j} e h = let s : SavableBy n (Ok j) = rw e at h in (s.sound _ refl, s.stored)

  module _ (short : ℕ) (m : List ℕ) where
    -- what there is to write: the sheet of its job, or its refusal
    pub saved-given : {j : StoredJob} → r ≡ Ok j → write short m (text (sheet_text (job_of j))) ≡ write short m (draft_of (change_by n r))
    saved-given e = sym (ap (λ (x : Result StoredJob R). write short m (draft_of (change_by n x))) e)

    pub saved-denied : {x : R} → r ≡ Err x → untouched (n x) 0 m ≡ write short m (draft_of (change_by n r))
    saved-denied {x} e = sym (ap (λ (y : Result StoredJob R). write short m (draft_of (change_by n y))) e ∙ write-refused short m (n x) 0)

-- what a request makes of a sound job can be saved
pub comes-savable : (f : Job → Change) → Keeps f → (j : Job) → Sound j → (r : Result StoredJob Refusal) → Comes (f j) r → Savable r
comes-savable f keeps j h r c = record { sound = λ k e. keeps.sound j k h (sym c.is ∙ e); stored = c.stored }
