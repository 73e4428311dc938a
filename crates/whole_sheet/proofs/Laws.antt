-- What a run of a sheet comes to, by the two cases of reading it.
use Prim.Native.Nat.{ℕ}
use mathlib.Core.Path.{◌≡◌}
use mathlib.Core.List.{List}
use lib.ListN.{length}
use Rattle.model_run.specs.{Whole.left_by, Whole.run_sheet, Run.run_job}
use Rattle.model.specs.{Job.Job, Sheet.accepted, Sheet.refused, Sheet.read_sheet}
use Rattle.model.specs.Data.{Refused}

pub accepted-left : (s o : List ℕ) (j : Job) → read_sheet s ≡ accepted j → run_sheet s o ≡ left_by o (run_job j (length o))
unfolding run_sheet
accepted-left s o j e = rw e

pub refused-left : (s o : List ℕ) (n l : ℕ) → read_sheet s ≡ refused n l → run_sheet s o ≡ record { answer = Refused n l; memory = o }
unfolding run_sheet
refused-left s o n l e = rw e
