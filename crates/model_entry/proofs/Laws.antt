-- What a call of an entry comes to, case by case.
use Prim.Native.Nat.{ℕ}
use mathlib.Core.Path.{◌≡◌, refl, sym, ap, ◌∙◌}
use mathlib.Core.List.{List}
use lib.ListN.{length}
use borrow.Author.Tests.{eq-eqb, ne_eqb}
use Rattle.model.specs.{Answer.After, Answer.all_le32, Answer.bytes_for, Answer.entered, Sheet.read_sheet, Written.Written}
use Rattle.model_record.specs.declared.JobRecord.{JobRecord}
use Rattle.model_record.specs.Entry.{record_number_count, saved, write_record, write_entry, opening, read_entry}
use Rattle.model_entry.specs.Entry.{Leaves, LeavesRecord}

module _ (count : ℕ) (o a : List ℕ) (x : After) where
  pub entered-sized : length a ≡ bytes_for count → entered count o a x ≡ x
  unfolding entered
  entered-sized e = rw (eq-eqb _ _ e)

  pub entered-other : (length a ≡ bytes_for count → ⊥) → entered count o a x ≡ record { returned = 10; output = o; answer = a }
  unfolding entered
  entered-other e = rw (ne_eqb _ _ e)

pub leaves : {o' a' : List ℕ} {r : ℕ} {x y : After} → x ≡ y → r ≡ y.returned → o' ≡ y.output → a' ≡ y.answer → Leaves x r o' a'
leaves q p m n =
    record {
      returns = p ∙ sym (ap (λ (z : After). z.returned) q);
      outputs = m ∙ sym (ap (λ (z : After). z.output) q);
      answers = n ∙ sym (ap (λ (z : After). z.answer) q);
    }

-- ---- The entries of a record

-- the number and the bytes of what is written
pub saved-leaves : (r : JobRecord) (o a : List ℕ) → length a ≡ bytes_for record_number_count → {v : Written} {n : ℕ} {a' : List ℕ} → v ≡ write_record r o
    → (n ≡ v.answer.number) × (a' ≡ all_le32 (saved v)) → Leaves (write_entry r o a) n v.memory a'
unfolding write_entry
saved-leaves r o a e q n =
    leaves (entered-sized record_number_count o a _ e) (n.0 ∙ ap (λ (x : Written). x.answer.number) q) (ap (λ (x : Written). x.memory) q)
    (n.1 ∙ ap (λ (x : Written). all_le32 (saved x)) q)

pub saved-other : (r : JobRecord) (o a : List ℕ) → (length a ≡ bytes_for record_number_count → ⊥) → Leaves (write_entry r o a) 10 o a
unfolding write_entry
saved-other r o a e = leaves (entered-other record_number_count o a _ e) refl refl refl

module _ (s : List ℕ) (job : JobRecord) (a : List ℕ) where
  pub read-sized : length a ≡ bytes_for record_number_count → read_entry s job a ≡ opening job (read_sheet s)
  unfolding read_entry
  read-sized e = rw (eq-eqb _ _ e)

  pub read-other : (length a ≡ bytes_for record_number_count → ⊥) → LeavesRecord (read_entry s job a) 10 job a
  unfolding read_entry
  read-other e = let q = ne_eqb _ _ e in record { returns = rw q; jobs = rw q; answers = rw q }
