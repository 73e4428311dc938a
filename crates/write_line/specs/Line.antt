-- A sent line, of what the code's arrays hold.
use Rattle.std.specs.Prelude.{ℕ, List}
use Rattle.model_run.specs.{Message.columns, Line.Sent}
use Rattle.model.specs.{Stored.keys_in, Stored.held}
use Rattle.model.specs.declared.{Entry.Entry, Field.Field, KeySlot.KeySlot}

-- the entry of each of n keys
abbrev pub columns_in : ℕ → List KeySlot → List Field → List Entry
columns_in n secrets message = columns 0 (keys_in n secrets) (held n message)

abbrev pub line_of : ℕ → List Entry → Sent
line_of n es = record { position = n; columns = es }
