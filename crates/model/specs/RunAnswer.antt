-- What a run answers: an ending with its counts, or a refusal's number and line.
use Rattle.std.specs.Prelude.{ℕ}
use Rattle.model.specs.declared.{Ending.Ending, Counts.Counts}

pub data Answer : Type 0 where
  Ended : Ending → Counts → Answer
  Refused : ℕ → ℕ → Answer
