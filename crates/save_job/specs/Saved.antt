-- What both ways of saving rest on.
use Rattle.std.specs.Prelude.{ℕ, Option, Some, None}
use Rattle.model.specs.declared.TextAnswer.{TextAnswer}

-- the bytes of a sheet that fitted; where it did not, the refusal short, which names no line
abbrev pub fitted_or : ℕ → Option ℕ → TextAnswer
fitted_or short (Some n) = record { number = 0; line = 0; bytes = n }
fitted_or short None = record { number = short; line = 0; bytes = 0 }
