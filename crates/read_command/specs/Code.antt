-- A word as one number, and the table of commands by these numbers.
use Rattle.std.specs.Prelude.{cond, List, [], ◌∷◌, ℕ, ◌+◌, ◌*◌}
use lib.{Dec.eqb, Dec.ltb, ListN.length}
use Rattle.model.specs.{Parsed.Parsed, Parsed.got, Parsed.refused, Parsed.◌>>=◌, Command.Row, Command.table, Command.row_of}
use Rattle.model.specs.declared.{Op.Op, Operand.Operand}

-- no word of the table has more bytes
abbrev pub longest_word : ℕ
longest_word = 7

-- 256 to the sixth: one byte less than the longest word
abbrev pub six_bytes : ℕ
six_bytes = 281474976710656

-- the bytes after those that make a, 256 to a place
unfoldable pub packed : ℕ → List ℕ → ℕ
packed a [] = a
packed a (b ∷ bs) = packed (a * 256 + b) bs

-- the bytes, which make a, and then their count, so that a word and the same word after zero bytes differ; 0 for a word that is too long
unfoldable pub with_count : ℕ → ℕ → ℕ
with_count a i = cond (ltb longest_word i) 0 (a * 8 + i)

unfoldable pub code_of : List ℕ → ℕ
code_of w = with_count (packed 0 w) (length w)

-- what a row says of its word
abbrev pub said_by : Row → Parsed (Op × List Operand)
said_by r = got (r.op, r.parts)

-- what the table says of a word
unfoldable pub lookup : List ℕ → Parsed (Op × List Operand)
lookup w = row_of table w >>= said_by

-- the same by the word's number
unfoldable pub lookup_code : List Row → ℕ → Parsed (Op × List Operand)
lookup_code [] x = refused 6
lookup_code (r ∷ rs) x = cond (eqb x (code_of r.word)) (said_by r) (lookup_code rs x)
