-- What the programs print: the lines of numbers, and a text that was written with its answer.
use Rattle.std.specs.Prelude.{ℕ, List, [], ◌∷◌, ◌++◌, take}
use lib.ListN.{get_or}
use Rattle.model.specs.{Text.bytes, Text.line_feed, Answer.spaced, Written.Written, Written.low_numbers}

-- "single spaces between and a line feed last"
abbrev pub line_of : List ℕ → List ℕ → List ℕ
line_of name ns = name ++ (spaced ns ++ (line_feed ∷ []))

-- "`answer=` with the three numbers"
abbrev pub answer_line : List ℕ → List ℕ
answer_line ns = line_of (bytes "answer=") ns

-- the bytes written, the third of the three numbers
abbrev pub text_bytes : List ℕ → ℕ
text_bytes ns = get_or ns 2 0

-- what standard output gets of a writing: the text, which stands at the front of the memory
abbrev pub text_of : Written → List ℕ
text_of w = take w.answer.bytes w.memory

-- what standard error gets: as much of the three numbers as 32 bits hold
abbrev pub said_of : Written → List ℕ
said_of w = answer_line (low_numbers w.answer)
