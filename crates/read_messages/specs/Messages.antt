-- What the readers of the `msg` lines answer: f is the form of the sheet, s the text that one is given, and first the number of its first line.
use Rattle.std.specs.Prelude.{List, [], Option, None, Some, map, ℕ, ◌≤◌, length, take, Result, IfOk}
use denote.Ref.{Bor}
use Rattle.model.specs.{Messages.read_messages, Text.comma, Text.split, Stored.entries_in}
use Rattle.model.specs.declared.{Form.Form, Entry.Entry, MessageLine.MessageLine, Fault.Fault}
use Rattle.read_line.specs.Phase.{Reads}
use Rattle.read_line.specs.declared.Mark.{Mark}
use Rattle.read_messages.specs.declared.Parts.{Parts}

-- the parts that are not yet taken
abbrev pub left_in : Option (Bor (List ℕ)) → List (List ℕ)
left_in None = []
left_in (Some t) = split comma t.now

abbrev pub parts_left : Parts → List (List ℕ)
parts_left p = left_in p.rest

-- of an array the first n messages, each with K entries
abbrev pub messages_in : ℕ → List MessageLine → ℕ → List (List Entry)
messages_in K ms n = map (entries_in K) (take n ms)

-- r is the count of the messages, which stand at the front of ms
pub record MessagesRead (f : Form) (K : ℕ) (s : List ℕ) (first : ℕ) (r : Result (ℕ × Mark) Fault) (ms : List MessageLine) : Type 0 where
  pub read : Reads (read_messages f K) (messages_in K ms) s first r
  pub few : IfOk r (λ x. x.0 ≤ length ms)
