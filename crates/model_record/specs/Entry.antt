-- What the two C entries of a record come to: saving it as a sheet, and opening a sheet.
use Rattle.std.specs.Prelude.{ℕ, cond, List, [], ◌∷◌}
use Rattle.model.specs.{Answer.After, Answer.all_le32, Answer.answered, Answer.entered, Answer.sized, Sheet.Reading, Sheet.accepted, Sheet.refused, Sheet.read_sheet}
use Rattle.model.specs.Written.{Draft, Written, write}
use Rattle.model.specs.Written as Written
use Rattle.model_record.specs.Data.{JobRecord}
use Rattle.model_record.specs.Record.{passes, text_of, record_over}

-- "54 if a number or count in the record is outside its limits .."; there is no line
unfoldable pub draft : JobRecord → Draft
draft r = cond (passes r) (Written.text (text_of r)) (Written.refused 54 0)

-- "a refusal writes nothing"; "55, after it, if the lent memory is too short"
unfoldable pub write_record : JobRecord → List ℕ → Written
write_record r m = write 55 m (draft r)

-- "The answer is number and bytes": two numbers, 8 bytes
abbrev pub record_number_count : ℕ
record_number_count = 2

abbrev pub saved : Written → List ℕ
saved w = w.answer.number ∷ w.answer.bytes ∷ []

-- `pavebox_write`
unfoldable pub write_entry : JobRecord → List ℕ → List ℕ → After
write_entry r m a = entered record_number_count m a (answered (saved (write_record r m)) (write_record r m).memory)

-- The return, and the record and the answer memory as a call leaves them
pub record AfterRead : Type 0 where
  pub returned : ℕ
  pub job : JobRecord
  pub answer : List ℕ

-- number and line as on reading; a refusal leaves the record as it was
abbrev pub opening : JobRecord → Reading → AfterRead
opening r (refused n l) = record { returned = n; job = r; answer = all_le32 (n ∷ l ∷ []) }
opening r (accepted j) = record { returned = 0; job = record_over j r; answer = all_le32 (0 ∷ 0 ∷ []) }

-- `pavebox_read`
unfoldable pub read_entry : List ℕ → JobRecord → List ℕ → AfterRead
read_entry s r a = sized record_number_count a (opening r (read_sheet s)) (record { returned = 10; job = r; answer = a })
