-- What the reader's answer says of the reading, for those that call it.
use Rattle.std.proofs.Common.{◌≡◌, sym, Ok, Err}
use Rattle.model.specs.{Refusal.number_of, Stored.job_of, Sheet.Reading, Sheet.accepted, Sheet.refused}
use Rattle.model.specs.declared.{StoredJob.StoredJob, Fault.Fault}
use Rattle.read_sheet.specs.Sheet.{Answers}

-- of the reading x
module _ {x : Reading} where
  pub read-accepted : {j : StoredJob} → Answers x (Ok j) → x ≡ accepted (job_of j)
  read-accepted a = sym a.reading

  pub read-refused : {e : Fault} → Answers x (Err e) → x ≡ refused (number_of e.refusal) e.line
  read-refused a = sym a.reading
