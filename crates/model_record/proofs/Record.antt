-- What document 02, Note 7, claims of a record and its sheet.
use mathlib.Core.Path.{◌≡◌, refl, sym, ap, ◌∙◌}
use mathlib.Core.Bool.{Bool, true, false, true≢false}
use native.Mathlib.Omega.{arith}
use Rattle.model.specs.{Job.Job, Sheet.accepted, Sheet.read_sheet, Accepted.Sound}
use Rattle.model_run.specs.{Whole.leave, Whole.run_sheet}
use Rattle.model.proofs.Forms.{every-form-fits}
use Rattle.model_sheet.specs.Sheet.{sheet_text}
use Rattle.model_sheet.proofs.{Sheet.exactly, Short.short as sheet-short}
use Rattle.model_record.specs.Data.{JobRecord}
use Rattle.model_record.specs.Record.{said, passes, job_in, text_of, record_over}
use Rattle.model_record.specs.Entry.{draft, write_record}
use Rattle.model_record.specs.Claims.{Shaped, WrittenThenRead, ReadThenWritten, HasSheet, RefusedExactly, BeyondCounts, OneToOne, Short, RunsAlike}
use Rattle.model_record.proofs.{Passing.passing, Sound.passes-sound, Said.said_by, Said.said-over, Said.passes-as-said, Said.job-as-said}
use Rattle.model_record.proofs.Said.{passes-alike}
use Rattle.model_record.proofs.{Said.job-alike, Made.passes-made, Made.job-made, Back.said-back}

-- a record with all its places has those that its counts cover
shaped-sound : (r : JobRecord) → Shaped r → passes r ≡ true → Sound (job_in r)
shaped-sound r shape h =
    let p = passing r h in
    let fits = every-form-fits r.form in
    passes-sound r (omega (arith, p.most_commands, fits.commands, shape.commands)) (omega (arith, p.most_letters, fits.letters, shape.letters)) h

-- what the record of a sound job says
sound-said : (j : Job) (old : JobRecord) → Shaped old → Sound j → said (record_over j old) ≡ said_by j
sound-said j old shape h = said-over j old (omega (arith, h.most_messages, (every-form-fits j.form).messages, shape.messages))

-- the text of a record that passes is read as its job
record-read : (r : JobRecord) → Shaped r → passes r ≡ true → read_sheet (text_of r) ≡ accepted (job_in r)
record-read r shape h = (exactly (text_of r) (job_in r)).1 (shaped-sound r shape h, refl)

-- "Reading the written sheet gives the same record in all that its counts cover"
pub written-then-read : WrittenThenRead
written-then-read r old shape places h =
    record {
      reads = record-read r shape h;
      same = sound-said (job_in r) old places (shaped-sound r shape h) ∙ said-back r shape h;
    }

-- "writing an accepted sheet's record gives the same bytes"
pub read-then-written : ReadThenWritten
read-then-written s j old places e =
    let x = (exactly s j).0 e in
    let over = sound-said j old places x.0 in
    record {
      passing = passes-as-said (record_over j old) (said_by j) over ∙ passes-made j x.0;
      bytes = ap sheet_text (job-as-said (record_over j old) (said_by j) over ∙ job-made j x.0) ∙ x.1;
    }

-- a record that passes has the sheet that is written for it
passing-sheet : (r : JobRecord) → Shaped r → passes r ≡ true → HasSheet r
passing-sheet r shape h =
    record {
      sheet = text_of r;
      job = job_in r;
      accepts = record-read r shape h;
      old = r;
      shaped = shape;
      same = (written-then-read r r shape shape h).same;
    }

-- a record that has a sheet passes, as the record that the sheet is read as
sheet-passing : (r : JobRecord) → HasSheet r → passes r ≡ true
sheet-passing r h =
    sym (passes-alike (record_over h.job h.old) r h.same) ∙ (read-then-written h.sheet h.job h.old h.shaped h.accepts).passing

-- 54 exactly if no accepted sheet has this record
pub refused-exactly : RefusedExactly
refused-exactly r shape = (λ f h. true≢false (sym (sheet-passing r h) ∙ f), λ none. go none (passes r) refl)
  where
    go : ¬ HasSheet r → (t : Bool) → passes r ≡ t → passes r ≡ false
    go none true e = absurd (none (passing-sheet r shape e))
    go none false e = e

-- records with the same text have the same job
same-job : (r t : JobRecord) → Shaped r → Shaped t → passes r ≡ true → passes t ≡ true → text_of r ≡ text_of t → job_in r ≡ job_in t
same-job r t rs ts rp tp e =
    let a : accepted (job_in r) ≡ accepted (job_in t) = sym (record-read r rs rp) ∙ ap read_sheet e ∙ record-read t ts tp in
    cc

-- two records that pass have the same text exactly if they say the same
pub one-to-one : OneToOne
one-to-one r t rs ts rp tp =
    (λ e. sym (said-back r rs rp) ∙ ap said_by (same-job r t rs ts rp tp e) ∙ said-back t ts tp, λ e. ap sheet_text (job-alike r t e))

-- what a record does not cover changes nothing
pub beyond-counts : BeyondCounts
unfolding write_record draft
beyond-counts r t m e = rw (passes-alike r t e, job-alike r t e)

-- no written sheet is refused with 1
pub short : Short
unfolding job_in
short r shape h = sheet-short (job_in r) (shaped-sound r shape h)

-- the sheet of a record runs as its job does
pub runs-alike : RunsAlike
unfolding run_sheet
runs-alike r m shape h = ap (leave m) (record-read r shape h)
