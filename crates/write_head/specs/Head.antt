-- What stands before the number of keys, and a `secret` line with its end.
use Rattle.std.specs.Prelude.{ℕ, List, [], ◌∷◌, ◌++◌, Bool, ℤ}
use Rattle.model.specs.{Text.line_feed, Text.bytes, Decimal.natural}
use Rattle.model.specs.declared.Owner.{Owner}
use Rattle.model_sheet.specs.Sheet.{secret_text, secret_line}

-- what stands before the number of keys
unfoldable pub form_text : ℕ → List ℕ
form_text n = bytes "sheet=" ++ (natural n ++ bytes "\nkeys=")

-- a line with its line feed
abbrev pub secret_ended : Bool → ℕ → Owner → ℤ → List ℕ
secret_ended two k o d = secret_line (secret_text two k o d) ++ (line_feed ∷ [])
