-- The forms of sheets: what a sheet may have, and with which letters it is written, by the number of its first line.
use Rattle.std.specs.Prelude.{ℕ, ◌≤◌, ◌≡◌, true, false, cond, eqb}
use Rattle.model.specs.{Limits.most_keys, Limits.most_commands, Limits.most_messages, Limits.most_letters, Turns.letter_l, Turns.letter_h, Turns.letter_a, Turns.letter_b, Stored.key_capacity}
use Rattle.model.specs.{Stored.command_capacity, Stored.message_capacity, Stored.letter_capacity, Stored.level_of}
use Rattle.model.specs.Data.{Form, High, A}

-- the form of `sheet=1`: all secrets have one owner, who is not named
abbrev pub form_one : Form
form_one =
    record { number = 1; keys = most_keys; commands = most_commands; messages = most_messages; letters = most_letters; low = letter_l; high = letter_h; owners = false }

-- Document 02, Note 8: "A new sheet begins `sheet=2`". Its secrets have two owners, who are named.
abbrev pub form_two : Form
form_two =
    record { number = 2; keys = most_keys; commands = most_commands; messages = most_messages; letters = most_letters; low = letter_l; high = letter_a; owners = true }

-- The form that the number of the line `sheet` chooses. `sheet_line` reads no other number than theirs.
unfoldable pub form_of : ℕ → Form
form_of n = cond (eqb n 2) form_two form_one

-- B's letter where there are two owners; where there is one, the first owner's again
abbrev pub third_of : Form → ℕ
third_of f = cond f.owners letter_b f.high

-- A form that the code can read: its limits are within what the arrays hold, a sheet of it may have a key, the bytes
-- of its letters are those by which `level_of` tells the levels, and its number is its own.
pub record Fits (f : Form) : Type 0 where
  pub some_keys : 1 ≤ f.keys
  pub keys : f.keys ≤ key_capacity
  pub commands : f.commands ≤ command_capacity
  pub messages : f.messages ≤ message_capacity
  pub letters : f.letters ≤ letter_capacity
  pub low : f.low ≡ letter_l
  pub high : level_of f.high ≡ High A
  pub own : form_of f.number ≡ f

abbrev pub EveryFormFits : Type 0
EveryFormFits = (n : ℕ) → Fits (form_of n)
