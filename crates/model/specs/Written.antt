-- Document 02, of every function that writes text into lent memory: "The answer is the number, the row .., and the bytes written; a refusal writes nothing."
use Rattle.std.specs.Prelude.{ℕ, ◌%◌, ◌≤◌, ◌<◌, ◌≡◌, ◌≢◌, cond, List, [], ◌∷◌, Result, Ok, Err}
use lib.{Dec.leb, ListN.length}
use Rattle.model.specs.{Placed.front, Answer.After, Answer.answered, Answer.entered}
use Rattle.model.specs.Data.{TextAnswer}
use Rattle.model.specs.Refusal.{number_of}
use Rattle.model.specs.declared.TextFault.{TextFault}

-- What there is to write: a text, or a refusal with its number and the line that it names
pub data Draft : Type 0 where
  text : List ℕ → Draft
  refused : ℕ → ℕ → Draft

-- What writing leaves: its answer, and the output memory
pub record Written : Type 0 where
  pub answer : TextAnswer
  pub memory : List ℕ

abbrev pub written : TextAnswer → List ℕ → Written
written a m = record { answer = a; memory = m }

-- the answer of what the code gives: the bytes written, or a fault
abbrev pub told : Result ℕ TextFault → TextAnswer
told (Ok n) = record { number = 0; line = 0; bytes = n }
told (Err f) = record { number = number_of f.refusal; line = f.line; bytes = 0 }

-- "a refusal writes nothing": the bytes are 0 and the memory is as it was
abbrev pub untouched : ℕ → ℕ → List ℕ → Written
untouched n l m = written (record { number = n; line = l; bytes = 0 }) m

-- A draft in the memory m. The text stands at the front, and the line is 0 then. "where the lent memory is too short", shorter than the text, the number is
-- short and the line 0; exactly enough is enough.
unfoldable pub write : ℕ → List ℕ → Draft → Written
write short m (refused n l) = untouched n l m
write short m (text s) =
    cond (leb (length s) (length m))
    (written (record { number = 0; line = 0; bytes = length s }) (front m s))
    (untouched short 0 m)

-- ---- The C entries that write text

-- Note 1: "The answer is the number, the row .., and the bytes written"; Note 5: "number, line (0 on success) and bytes"
abbrev pub text_numbers : TextAnswer → List ℕ
text_numbers a = a.number ∷ a.line ∷ a.bytes ∷ []

-- as much of them as 32 bits hold: the line may be any of a text of any length. Their bytes are those of the numbers (`le32`)
abbrev pub low_numbers : TextAnswer → List ℕ
low_numbers a = a.number ∷ a.line % 4294967296 ∷ a.bytes ∷ []

-- three numbers: 12 bytes
abbrev pub text_number_count : ℕ
text_number_count = 3

unfoldable pub text_entry : List ℕ → List ℕ → Written → After
text_entry m a w = entered text_number_count m a (answered (text_numbers w.answer) w.memory)

-- ---- What is claimed of it

-- Know the length, then write, or refuse and write nothing: of every draft, with any number for a memory that is too short.
pub record Writes (short : ℕ) (m : List ℕ) (d : Draft) : Type 0 where
  -- a refusal, for whatever cause, leaves every byte and counts none
  pub refuses : (write short m d).answer.number ≢ 0 → ((write short m d).memory ≡ m) × ((write short m d).answer.bytes ≡ 0)
  -- what the draft itself refuses does not depend on the memory
  pub passes : (n l : ℕ) → d ≡ refused n l → (write short m d).answer ≡ record { number = n; line = l; bytes = 0 }
  -- a text that fits is there, all of it, and behind it the old bytes; exactly enough is enough
  pub fits : (s : List ℕ) → d ≡ text s → length s ≤ length m → write short m d ≡ written (record { number = 0; line = 0; bytes = length s }) (front m s)
  -- a longer one is refused
  pub lacks : (s : List ℕ) → d ≡ text s → length m < length s → write short m d ≡ untouched short 0 m
  -- the memory keeps its length
  pub size : length (write short m d).memory ≡ length m

abbrev pub AlwaysWrites : Type 0
AlwaysWrites = (short : ℕ) (m : List ℕ) (d : Draft) → Writes short m d
