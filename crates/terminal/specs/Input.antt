-- What was read is what the reader gave, where that is known.
use Rattle.std.specs.Prelude.{ℕ, ◌≤◌, ◌<◌, List, length, take, Option, Result, Ok, Err}
use Rattle.std.specs.Io.KnownBytes.{Consumes, IsAtEnd}

-- What the reader gave stands at the start of the buffer, and where the buffer has room left the reader is at its end.
-- Where a read failed nothing is lost: what the reads before it gave stands there.
abbrev pub Reads : {E : Type 0} → Option (List ℕ) → Option (List ℕ) → Result ℕ E → List ℕ → Type 0
Reads old new (Ok n) buf = Consumes old new (take n buf) × (n < length buf → IsAtEnd new)
Reads old new (Err _) buf = (n : ℕ) × (n ≤ length buf) × Consumes old new (take n buf)
