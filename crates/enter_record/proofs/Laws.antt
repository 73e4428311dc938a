-- What a call that opens a sheet leaves.
use Prim.Native.Nat.{ℕ}
use mathlib.Core.Path.{◌≡◌}
use mathlib.Core.List.{List, [], ◌∷◌}
use lib.ListN.{length}
use Rattle.model.specs.{Answer.all_le32, Answer.bytes_for, Sheet.accepted, Sheet.refused, Sheet.read_sheet}
use Rattle.model_record.specs.declared.JobRecord.{JobRecord}
use Rattle.model_record.specs.Entry.{record_number_count, read_entry}
use Rattle.model_entry.specs.Entry.{LeavesRecord}
use Rattle.model_entry.proofs.Laws.{read-sized}
use Rattle.model.specs.Job.{Job}
use Rattle.model_record.specs.Record.{record_over}

-- what was opened, with its two numbers
module _ (s : List ℕ) (job : JobRecord) (a : List ℕ) (e : length a ≡ bytes_for record_number_count) {n : ℕ} {a' : List ℕ} where
  pub read-leaves : {r : JobRecord} → (j : Job) × (read_sheet s ≡ accepted j) × (r ≡ record_over j job) → (n ≡ 0) × (a' ≡ all_le32 (0 ∷ 0 ∷ []))
      → LeavesRecord (read_entry s job a) n r a'
  read-leaves (j, q, k) h = rw (read-sized s job a e, q) (record { returns = h.0; jobs = k; answers = h.1 })

  pub refused-leaves : {m l : ℕ} {r : JobRecord} → (read_sheet s ≡ refused m l) × (r ≡ job) → (n ≡ m) × (a' ≡ all_le32 (m ∷ l ∷ [])) → LeavesRecord (read_entry s job a) n r a'
  refused-leaves q h = rw (read-sized s job a e, q.0) (record { returns = h.0; jobs = q.1; answers = h.1 })
