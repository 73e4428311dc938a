-- What document 02, Note 7, claims: "Reading the written sheet gives the same record in all that its counts cover, and writing an accepted sheet's record gives
-- the same bytes."
use Rattle.std.specs.Prelude.{ℕ, ◌≤◌, true, false, List, length}
use mathlib.Core.{Path.◌≡◌, Logic.◌↔◌}
use Rattle.model.specs.{Job.Job, Sheet.accepted, Sheet.read_sheet, Accepted.Every}
use Rattle.model_run.specs.{Whole.left_by, Whole.run_sheet, Run.run_job}
use Rattle.model_sheet.specs.Claims.{longest_sheet}
use Rattle.model_record.specs.Data.{MessageRecord, JobRecord}
use Rattle.model_record.specs.Record.{key_places, command_places, message_places, letter_places, said, passes, job_in, text_of, record_over}
use Rattle.model_record.specs.Entry.{write_record}

-- the places of a record: the lengths of its arrays, which every record in memory has
pub record Shaped (r : JobRecord) : Type 0 where
  pub secrets : length r.secrets ≡ key_places
  pub commands : length r.commands ≡ command_places
  pub messages : length r.messages ≡ message_places
  pub entries : Every (λ (m : MessageRecord). length m.entries ≡ key_places) r.messages
  pub letters : length r.letters ≡ letter_places

-- "Reading the written sheet gives the same record in all that its counts cover", over any record
pub record ReadsSame (r old : JobRecord) : Type 0 where
  pub reads : read_sheet (text_of r) ≡ accepted (job_in r)
  pub same : said (record_over (job_in r) old) ≡ said r

abbrev pub WrittenThenRead : Type 0
WrittenThenRead = (r old : JobRecord) → Shaped r → Shaped old → passes r ≡ true → ReadsSame r old

-- "writing an accepted sheet's record gives the same bytes"
pub record WritesSame (s : List ℕ) (j : Job) (old : JobRecord) : Type 0 where
  pub passing : passes (record_over j old) ≡ true
  pub bytes : text_of (record_over j old) ≡ s

abbrev pub ReadThenWritten : Type 0
ReadThenWritten = (s : List ℕ) (j : Job) (old : JobRecord) → Shaped old → read_sheet s ≡ accepted j → WritesSame s j old

-- an accepted sheet, read over some record, has this record in what its counts cover
pub record HasSheet (r : JobRecord) : Type 0 where
  pub sheet : List ℕ
  pub job : Job
  pub accepts : read_sheet sheet ≡ accepted job
  pub old : JobRecord
  pub shaped : Shaped old
  pub same : said (record_over job old) ≡ said r

-- 54 exactly if no accepted sheet has this record
abbrev pub RefusedExactly : Type 0
RefusedExactly = (r : JobRecord) → Shaped r → (passes r ≡ false) ↔ ¬ HasSheet r

-- records that pass and say different things have different sheets. With the claims above: accepted sheets and passing records, in what their counts cover,
-- are one to one.
abbrev pub OneToOne : Type 0
OneToOne = (r t : JobRecord) → Shaped r → Shaped t → passes r ≡ true → passes t ≡ true → (text_of r ≡ text_of t) ↔ (said r ≡ said t)

-- what stands beyond the counts is neither tested nor written: it changes nothing of what writing answers and leaves
abbrev pub BeyondCounts : Type 0
BeyondCounts = (r t : JobRecord) (m : List ℕ) → said r ≡ said t → write_record r m ≡ write_record t m

-- no written sheet is longer, so 1 never follows, and with so much memory 55 does not
abbrev pub Short : Type 0
Short = (r : JobRecord) → Shaped r → passes r ≡ true → length (text_of r) ≤ longest_sheet r.form

-- the sheet of a record runs as the record's job does
abbrev pub RunsAlike : Type 0
RunsAlike = (r : JobRecord) (m : List ℕ) → Shaped r → passes r ≡ true → run_sheet (text_of r) m ≡ left_by m (run_job (job_in r) (length m))
