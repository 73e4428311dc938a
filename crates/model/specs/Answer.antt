-- The numbers of an answer: the line that they are printed as, and their bytes in the memory that a C entry is lent.
use Rattle.std.specs.Prelude.{ℕ, ◌*◌, ◌/◌, ◌%◌, List, [], ◌∷◌, ◌++◌, cond, Result, Ok, Err}
use lib.{ListN.length, ListN.get_or, Dec.eqb}
use Rattle.model.specs.{Text.bytes, Text.line_feed, Text.space, Decimal.natural}
use Rattle.model.specs.Data.{Ending, Stopped, LettersUsed, NoRoom, Answer, Ended, Refused}
use Rattle.model.specs.Refusal.{number_of}
use Rattle.model.specs.declared.{Ended.Ended as Run·ended, Fault.Fault}

-- the number of an ending, "From the state"
abbrev pub ending_number : Ending → ℕ
ending_number Stopped = 0
ending_number LettersUsed = 31
ending_number NoRoom = 32

-- "Six numbers: ending or refusal number, line, positions used, low steps, bytes written, messages taken." Document 02, Note 3: "The answer gains a
-- seventh number, the clamped results of the low execution alone, which is 0 on a refusal of the sheet." From the input: "the four counts are 0"; from
-- the state: "the line number is 0".
unfoldable pub numbers_of : Answer → List ℕ
numbers_of (Ended e c) = ending_number e ∷ 0 ∷ c.positions ∷ c.steps ∷ c.bytes ∷ c.taken ∷ c.clamped ∷ []
numbers_of (Refused n l) = n ∷ l ∷ 0 ∷ 0 ∷ 0 ∷ 0 ∷ 0 ∷ []

-- what a run that ends comes to, and what the run of a sheet comes to, as the code has them
abbrev pub ended_as : Run·ended → Answer
ended_as r = Ended r.ending r.counts

abbrev pub answer_as : Result Run·ended Fault → Answer
answer_as (Ok r) = ended_as r
answer_as (Err f) = Refused (number_of f.refusal) f.line

-- ---- `runsheet`

-- "single spaces between"
unfoldable pub spaced : List ℕ → List ℕ
spaced [] = []
spaced (n ∷ []) = natural n
spaced (n ∷ k ∷ ns) = natural n ++ (space ∷ spaced (k ∷ ns))

-- "`end=` with the six numbers, single spaces between and a line feed last"; Note 3: "The `end=` line shows it last"
unfoldable pub report : List ℕ → List ℕ
report ns = bytes "end=" ++ (spaced ns ++ (line_feed ∷ []))

-- the bytes written, the fifth of the seven numbers
abbrev pub bytes_written : List ℕ → ℕ
bytes_written ns = get_or ns 4 0

-- ---- The C entries

-- "32 bits each, low byte first"
unfoldable pub le32 : ℕ → List ℕ
le32 n = n % 256 ∷ n / 256 % 256 ∷ n / 65536 % 256 ∷ n / 16777216 % 256 ∷ []

unfoldable pub all_le32 : List ℕ → List ℕ
all_le32 [] = []
all_le32 (n ∷ ns) = le32 n ++ all_le32 ns

-- the return, and both lent memories as a call leaves them
pub record After : Type 0 where
  pub returned : ℕ
  pub output : List ℕ
  pub answer : List ℕ

-- "The six numbers go there in 32 bits each, low byte first, and the first is also the return.": of any numbers, so of the seven, and the output memory m
abbrev pub answered : List ℕ → List ℕ → After
answered ns m = record { returned = get_or ns 0 0; output = m; answer = all_le32 ns }

-- so many numbers, each in 32 bits
abbrev pub bytes_for : ℕ → ℕ
bytes_for count = 4 * count

-- Refusal 10: "the answer memory is not exactly 24 bytes; returned before anything else, nothing written", where Note 3 has 28 for 24. A call of an entry whose
-- answer has so many numbers comes to x; where the answer memory a has another length than they take, to y.
abbrev pub sized : {X : Type 0} → ℕ → List ℕ → X → X → X
sized count a x y = cond (eqb (length a) (bytes_for count)) x y

-- the same of an entry with the output memory m
unfoldable pub entered : ℕ → List ℕ → List ℕ → After → After
entered count m a x = sized count a x (record { returned = 10; output = m; answer = a })

-- Note 3: "a seventh number", "The C answer memory becomes 28 bytes, and 10 follows that."
abbrev pub number_count : ℕ
number_count = 7

abbrev pub answer_bytes : ℕ
answer_bytes = bytes_for number_count
