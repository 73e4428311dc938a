-- What opening a sheet over an old record gives, by the reading of the sheet.
use Rattle.std.specs.Prelude.{ℕ, ◌≡◌, List, Result, Ok, Err}
use Rattle.model.specs.Sheet.{Reading, accepted, refused, read_sheet}
use Rattle.model.specs.Written.{Draft, Written, write}
use Rattle.model.specs.Written as Written
use Rattle.model_record.specs.declared.JobRecord.{JobRecord}
use Rattle.model_record.specs.Record.{record_over}
use Rattle.model.specs.{Job.Job, Refusal.number_of}
use Rattle.model.specs.declared.Fault.{Fault}

-- r is the record of the sheet's job over the old one; where the sheet is refused, the old one itself
abbrev pub Opened : JobRecord → Reading → Result Unit Fault → JobRecord → Type 0
Opened old x (Ok u) r = (j : Job) × (x ≡ accepted j) × (r ≡ record_over j old)
Opened old x (Err f) r = (x ≡ refused (number_of f.refusal) f.line) × (r ≡ old)

-- a sheet that is opened and saved again: what is written is the sheet itself, unless it is refused
abbrev pub again : List ℕ → Reading → Draft
again s (refused n l) = Written.refused n l
again s (accepted j) = Written.text s

unfoldable pub resaved : List ℕ → List ℕ → Written
resaved s m = write 55 m (again s (read_sheet s))
