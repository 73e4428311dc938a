-- What a run comes to where a refusal is told by its number.
use Rattle.std.specs.Prelude.{ℕ, Result, Ok, Err}
use Rattle.model.specs.Answer.{ended_as}
use Rattle.model.specs.Data.{Answer, Refused}
use Rattle.model.specs.declared.Ended.{Ended}

-- the counts of a run that ends, or a refusal's number and line
abbrev pub answer_by : Result Ended (ℕ × ℕ) → Answer
answer_by (Ok r) = ended_as r
answer_by (Err f) = Refused f.0 f.1
