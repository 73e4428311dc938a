-- A part of a message line, and the line with its end.
use Rattle.std.specs.Prelude.{ℕ, Bool, true, false, List, [], ◌∷◌, ◌++◌, ℤ}
use Rattle.model.specs.Text.{comma, line_feed}
use Rattle.model.specs.declared.Entry.{Entry}
use Rattle.model_text.specs.Text.{pair_text, message_line}

-- a part of a line, behind a comma unless it is the first
abbrev pub part_text : Bool → ℕ → ℤ → List ℕ
part_text true k v = pair_text (k, v)
part_text false k v = comma ∷ pair_text (k, v)

-- a line with its line feed
abbrev pub line_text : List Entry → List ℕ
line_text es = message_line es ++ (line_feed ∷ [])
