-- The contracts of the C entries: one definition of the model for each, which determines the return and every lent memory on every path.
use Rattle.std.specs.Prelude.{ℕ, ◌≡◌, List}
use Rattle.model.specs.Answer.{After}
use Rattle.model_run.specs.Whole.{run_entry}
use Rattle.model_log.specs.Log.{log_entry}
use Rattle.model_blocks.specs.Dialect.{blocks_entry}
use Rattle.model_forms.specs.Forms.{turn_entry}
use Rattle.model_forms.specs.declared.Asked.{Asked}
use Rattle.model_record.specs.declared.JobRecord.{JobRecord}
use Rattle.model_record.specs.Entry.{write_entry, AfterRead, read_entry}

-- a call that comes to x
pub record Leaves (x : After) (returned : ℕ) (output' answer' : List ℕ) : Type 0 where
  pub returns : returned ≡ x.returned
  pub outputs : output' ≡ x.output
  pub answers : answer' ≡ x.answer

-- `pavebox_run`
abbrev pub Answered : List ℕ → List ℕ → List ℕ → ℕ → List ℕ → List ℕ → Type 0
Answered sheet output answer returned output' answer' = Leaves (run_entry sheet output answer) returned output' answer'

-- `pavebox_csv`
abbrev pub LogAnswered : List ℕ → List ℕ → List ℕ → ℕ → List ℕ → List ℕ → Type 0
LogAnswered log output answer returned output' answer' = Leaves (log_entry log output answer) returned output' answer'

-- `pavebox_blocks`
abbrev pub BlocksAnswered : List ℕ → ℕ → List ℕ → List ℕ → ℕ → List ℕ → List ℕ → Type 0
BlocksAnswered text keys output answer returned output' answer' = Leaves (blocks_entry keys text output answer) returned output' answer'

-- `pavebox_to_sheet2` and `pavebox_to_sheet1`, each with the form that it asks for
abbrev pub FormAnswered : Asked → List ℕ → List ℕ → List ℕ → ℕ → List ℕ → List ℕ → Type 0
FormAnswered asked sheet output answer returned output' answer' = Leaves (turn_entry asked sheet output answer) returned output' answer'

-- `pavebox_write`, which only reads the record
abbrev pub WriteAnswered : JobRecord → List ℕ → List ℕ → ℕ → List ℕ → List ℕ → Type 0
WriteAnswered job output answer returned output' answer' = Leaves (write_entry job output answer) returned output' answer'

-- a call that leaves a record, and comes to x
pub record LeavesRecord (x : AfterRead) (returned : ℕ) (job' : JobRecord) (answer' : List ℕ) : Type 0 where
  pub returns : returned ≡ x.returned
  pub jobs : job' ≡ x.job
  pub answers : answer' ≡ x.answer

-- `pavebox_read`
abbrev pub ReadAnswered : List ℕ → JobRecord → List ℕ → ℕ → JobRecord → List ℕ → Type 0
ReadAnswered sheet job answer returned job' answer' = LeavesRecord (read_entry sheet job answer) returned job' answer'
