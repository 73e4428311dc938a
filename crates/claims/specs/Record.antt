-- What document 02, Note 7, claims of what `pavebox_write` and `pavebox_read` return and leave.
use Rattle.std.specs.Prelude.{ℕ, ◌≤◌, ◌<◌, true, false, List, [], ◌∷◌, ◌++◌, length, take, drop, replicate}
use mathlib.Core.{Path.◌≡◌, Logic.◌≢◌, Logic.◌↔◌}
use Rattle.model.specs.{Answer.all_le32, Answer.bytes_for, Job.Job, Sheet.accepted, Sheet.read_sheet}
use Rattle.model_run.specs.{Whole.left_by, Whole.answered_by, Run.run_job}
use Rattle.model.specs.Sheet as Sheet
use Rattle.model_sheet.specs.Claims.{longest_sheet}
use Rattle.model_record.specs.declared.JobRecord.{JobRecord}
use Rattle.model_record.specs.{Record.said, Record.passes, Record.job_in, Record.text_of, Record.record_over, Claims.Shaped, Claims.HasSheet}
use Rattle.model_record.specs.{Entry.record_number_count, Entry.write_entry, Entry.read_entry, Examples.zeros, Examples.text_a, Examples.record_a}
use Rattle.model_entry.specs.{Entry.Leaves, Entry.WriteAnswered, Entry.ReadAnswered}
use Rattle.claims.specs.{Demands.Called}

-- the two numbers of an answer, of which the first is returned
abbrev pub TwoNumbers : ℕ → ℕ → ℕ → List ℕ → Type 0
TwoNumbers number other returned answer' = (returned ≡ number) × (answer' ≡ all_le32 (number ∷ other ∷ []))

-- ---- Saving

-- A call with an answer memory of 8 bytes, and a record that has its places
pub record WriteCalled (job : JobRecord) (output answer : List ℕ) (returned : ℕ) (output' answer' : List ℕ) : Type 0 where
  pub sized : length answer ≡ bytes_for record_number_count
  pub shaped : Shaped job
  pub met : WriteAnswered job output answer returned output' answer'

pub record SheetWritten (job : JobRecord) (output : List ℕ) (returned : ℕ) (output' answer' : List ℕ) : Type 0 where
  -- "54 if ..", and "a refusal writes nothing"
  pub refuses : passes job ≡ false → TwoNumbers 54 0 returned answer' × (output' ≡ output)
  -- success writes exactly the sheet, and behind it stand the old bytes; exactly enough memory is enough
  pub writes : passes job ≡ true → length (text_of job) ≤ length output
      → TwoNumbers 0 (length (text_of job)) returned answer' × (output' ≡ text_of job ++ drop (length (text_of job)) output)
  -- "55, after it, if the lent memory is too short"
  pub lacks : passes job ≡ true → length output < length (text_of job) → TwoNumbers 55 0 returned answer' × (output' ≡ output)
  -- with 6,270 bytes lent it never is
  pub enough : longest_sheet job.form ≤ length output → returned ≢ 55
  -- 54 exactly if no accepted sheet has this record in what its counts cover
  pub exactly : (returned ≡ 54) ↔ ¬ HasSheet job
  pub size : length output' ≡ length output

abbrev pub SheetWrittenHolds : Type 0
SheetWrittenHolds = (job : JobRecord) (o a : List ℕ) (r : ℕ) (o' a' : List ℕ) → WriteCalled job o a r o' a' → SheetWritten job o r o' a'

-- ---- Opening

pub record ReadCalled (sheet : List ℕ) (job : JobRecord) (answer : List ℕ) (returned : ℕ) (job' : JobRecord) (answer' : List ℕ) : Type 0 where
  pub sized : length answer ≡ bytes_for record_number_count
  pub shaped : Shaped job
  pub met : ReadAnswered sheet job answer returned job' answer'

pub record RecordRead (sheet : List ℕ) (job : JobRecord) (returned : ℕ) (job' : JobRecord) (answer' : List ℕ) : Type 0 where
  -- number and line as on reading, and the record as it was
  pub refuses : (n l : ℕ) → read_sheet sheet ≡ Sheet.refused n l → TwoNumbers n l returned answer' × (job' ≡ job)
  -- the record of the sheet's job, over the old one
  pub reads : (j : Job) → read_sheet sheet ≡ accepted j → TwoNumbers 0 0 returned answer' × (job' ≡ record_over j job)
  -- a record that has its places keeps them
  pub shaped : Shaped job'

abbrev pub RecordReadHolds : Type 0
RecordReadHolds = (s : List ℕ) (job : JobRecord) (a : List ℕ) (r : ℕ) (job' : JobRecord) (a' : List ℕ) → ReadCalled s job a r job' a' → RecordRead s job r job' a'

-- ---- Both, one after the other

-- "Reading the written sheet gives the same record in all that its counts cover": a record that was saved, and its sheet opened over any record
abbrev pub SavedThenOpened : Type 0
SavedThenOpened =
    (job : JobRecord) (o a : List ℕ) (o' a' : List ℕ) → WriteCalled job o a 0 o' a'
    → (old : JobRecord) (b : List ℕ) (r : ℕ) (job' : JobRecord) (b' : List ℕ) → ReadCalled (take (length (text_of job)) o') old b r job' b'
    → TwoNumbers 0 0 r b' × (said job' ≡ said job)

-- "writing an accepted sheet's record gives the same bytes": a sheet that was opened, and its record saved
abbrev pub OpenedThenSaved : Type 0
OpenedThenSaved =
    (s : List ℕ) (j : Job) (old : JobRecord) (a : List ℕ) (r : ℕ) (job' : JobRecord) (a' : List ℕ) → read_sheet s ≡ accepted j → ReadCalled s old a r job' a'
    → (o b : List ℕ) (t : ℕ) (o' b' : List ℕ) → length s ≤ length o → WriteCalled job' o b t o' b'
    → TwoNumbers 0 (length s) t b' × (o' ≡ s ++ drop (length s) o)

-- the sheet of a record that was saved runs as the record's job does
abbrev pub SavedRuns : Type 0
SavedRuns =
    (job : JobRecord) (m b : List ℕ) (m' b' : List ℕ) → WriteCalled job m b 0 m' b'
    → (o a : List ℕ) (r : ℕ) (o' a' : List ℕ) → Called (take (length (text_of job)) m') o a r o' a'
    → Leaves (answered_by (left_by o (run_job (job_in job) (length o)))) r o' a'

-- ---- The claims speak of something: sheet A's record is written and returns 0, with a byte less of memory 55; a record of zeros gets 54; an answer memory of 12 bytes gets
-- 10; and sheet A is read into a record of zeros

-- calls with these, that return and leave just what the entries do
abbrev pub WriteCalledOn : JobRecord → ℕ → Type 0
WriteCalledOn job lent =
    let x = write_entry job (replicate lent 0) (replicate (bytes_for record_number_count) 0) in
    WriteCalled job (replicate lent 0) (replicate (bytes_for record_number_count) 0) x.returned x.output x.answer

abbrev pub ReadCalledOn : List ℕ → JobRecord → Type 0
ReadCalledOn s job =
    let x = read_entry s job (replicate (bytes_for record_number_count) 0) in
    ReadCalled s job (replicate (bytes_for record_number_count) 0) x.returned x.job x.answer

pub record RecordTelling : Type 0 where
  pub called : (lent : ℕ) → WriteCalledOn record_a lent
  pub opened : (s : List ℕ) → ReadCalledOn s zeros
  pub exact : (write_entry record_a (replicate 113 0) (replicate 8 0)).output ≡ text_a
  pub lacks : (write_entry record_a (replicate 112 0) (replicate 8 0)).returned ≡ 55
  pub refuses : (write_entry zeros (replicate 113 0) (replicate 8 0)).returned ≡ 54
  pub other : (write_entry record_a (replicate 113 0) (replicate 12 0)).returned ≡ 10
  pub reads : (read_entry text_a zeros (replicate 8 0)).job ≡ record_a
  pub fails : (read_entry [] zeros (replicate 8 0)).returned ≡ 2
