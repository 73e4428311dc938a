-- What a run of a whole sheet prints and leaves in the memories that are lent to it.
use Rattle.std.specs.Prelude.{ℕ, List, ◌++◌}
use lib.{ListN.length, ListN.take}
use Rattle.model_run.specs.{Run.Outcome, Run.run_job, Line.memory_after}
use Rattle.model.specs.{Sheet.Reading, Sheet.refused, Sheet.accepted, Sheet.read_sheet}
use Rattle.model_run.specs.Data.{Answer, Ended, Refused}
use Rattle.model.specs.Answer.{numbers_of, report, bytes_written, After, answered, entered, number_count}

-- What a run of a sheet leaves: its answer, and the output memory
pub record Left : Type 0 where
  pub answer : Answer
  pub memory : List ℕ

abbrev pub left : Answer → List ℕ → Left
left a m = record { answer = a; memory = m }

abbrev pub left_by : List ℕ → Outcome → Left
left_by m o = left (Ended o.ending o.counts) (memory_after m o.lines)

-- of a refused sheet "Output memory is untouched"
abbrev pub leave : List ℕ → Reading → Left
leave m (refused n l) = left (Refused n l) m
leave m (accepted j) = left_by m (run_job j (length m))

-- a sheet s, and the output memory m that is lent to its run
unfoldable pub run_sheet : List ℕ → List ℕ → Left
run_sheet s m = leave m (read_sheet s)

abbrev pub printed_by : Left → List ℕ
printed_by l = take (bytes_written (numbers_of l.answer)) l.memory ++ report (numbers_of l.answer)

-- "prints the sent lines and then `end=`"
unfoldable pub printed : List ℕ → List ℕ → List ℕ
printed s m = printed_by (run_sheet s m)

abbrev pub answered_by : Left → After
answered_by l = answered (numbers_of l.answer) l.memory

unfoldable pub run_entry : List ℕ → List ℕ → List ℕ → After
run_entry s m a = entered number_count m a (answered_by (run_sheet s m))
