-- What was read is what the reader gave, where that is known. No contract can say which bytes a file, a terminal or an
-- argument has.
use Rattle.std.specs.Prelude.{ℕ, ◌≤◌, List, length, take, Option, Result, Ok, Err}
use Rattle.std.specs.Io.KnownBytes.{Consumes, IsAtEnd}
use Rattle.input.specs.declared.TextError.{TextError}
use Rattle.input.specs.declared.TextError.TheVariants.{Failed, TooLong, Misused}

-- all that the reader had stands at the start of the buffer, or as much as fills it; where a read failed, what the
-- reads before it gave stands there
abbrev pub ReadsWhole : Option (List ℕ) → Option (List ℕ) → Result ℕ TextError → List ℕ → Type 0
ReadsWhole old new (Ok n) buf = Consumes old new (take n buf) × IsAtEnd new
ReadsWhole old new (Err Failed) buf = (n : ℕ) × (n ≤ length buf) × Consumes old new (take n buf)
ReadsWhole old new (Err TooLong) buf = Consumes old new buf
ReadsWhole old new (Err Misused) buf = Unit {0}
