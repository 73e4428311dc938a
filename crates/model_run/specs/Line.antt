-- The bytes of the lines sent, and the output memory after a run.
use Rattle.std.specs.Prelude.{ℕ, ◌+◌, ◌*◌, List, [], ◌∷◌, ◌++◌, cond}
use lib.{IntN.ℤ, IntN.nat_abs, Signed.non_neg, ListN.replicate, ListN.length}
use Rattle.model.specs.{Text.bytes, Text.line_feed, Text.space, Text.plus, Text.minus, Text.dot, Decimal.digits, Placed.front}
use Rattle.model_run.specs.Data.{Entry, Absent, Number, Key}

-- "a sign `+` or `-`"; "Zero has `+`."
unfoldable pub sign : ℤ → ℕ
sign z = cond (non_neg z) plus minus

-- "11 characters: a sign `+` or `-` and ten digits, or eleven dots for absent"
unfoldable pub cell : Entry → List ℕ
cell Absent = replicate 11 dot
cell (Number z) = sign z ∷ digits 10 (nat_abs z)

-- "for each key a space and 11 characters"
unfoldable pub cells : List Entry → List ℕ
cells [] = []
cells (e ∷ es) = (space ∷ cell e) ++ cells es

-- "`sent=`, the position in four digits"
unfoldable pub heading : ℕ → List ℕ
heading n = bytes "sent=" ++ digits 4 n

-- A line that was sent: the position in it, and the entry of each key
pub record Sent : Type 0 where
  pub position : ℕ
  pub columns : List Entry

-- "A line feed ends it."
unfoldable pub line_bytes : Sent → List ℕ
line_bytes l = heading l.position ++ (cells l.columns ++ (line_feed ∷ []))

-- "That is 10 + 12 × K bytes."
unfoldable pub line_length : List Key → ℕ
line_length ks = 10 + 12 * length ks

unfoldable pub bytes_of : List Sent → List ℕ
bytes_of [] = []
bytes_of (l ∷ ls) = line_bytes l ++ bytes_of ls

-- "Lines sent earlier stand, and bytes after them are untouched": the output memory m after the lines
unfoldable pub memory_after : List ℕ → List Sent → List ℕ
memory_after m ls = front m (bytes_of ls)
