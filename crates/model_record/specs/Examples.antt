-- Examples of document 02, Notes 7 and 8: the records of document 01's sheet A and of a sheet of two owners, and
-- records that differ from them in one place each.
use Rattle.std.specs.Prelude.{ℕ, ◌≡◌, List, [], ◌∷◌}
use lib.{IntN.ℤ, IntN.pos, ListN.replicate, ListN.set}
use Rattle.model.specs.{Text.bytes, SheetA.sheet_a, SheetA.job1, SheetTwo.sheet_both, SheetTwo.job_both, SheetTwo.rounds}
use Rattle.model_record.specs.Data.{SecretRecord, CommandRecord, EntryRecord, MessageRecord, JobRecord}
use Rattle.model_record.specs.Record.{key_places, command_places, message_places, letter_places, Said, said, text_of, record_over}
use Rattle.model_record.specs.Entry.{saved, write_record, read_entry}
use Rattle.model_record.specs.Claims.{Shaped}

-- ---- The record of sheet A

abbrev secret : ℕ → ℤ → ℕ → SecretRecord
secret k d o = record { key = k; dummy = d; owner = o }

abbrev entry : ℕ → ℤ → EntryRecord
entry k z = record { key = k; value = z }

-- a word with a variable, a key and a target; none of the examples has more
abbrev command : ℕ → ℕ → ℕ → ℕ → CommandRecord
command word v k t = record { word = word; v = v; w = 0; k = k; t = t; n = pos 0 }

abbrev message : ℕ → List EntryRecord → MessageRecord
message n es = record { entry_count = n; entries = es }

-- zeros in every place
abbrev pub zero_message : MessageRecord
zero_message = message 0 (replicate key_places (entry 0 (pos 0)))

unfoldable pub zeros : JobRecord
zeros =
    record {
      form = 0;
      keys = 0;
      secret_count = 0;
      secrets = replicate key_places (secret 0 (pos 0) 0);
      command_count = 0;
      commands = replicate command_places (command 0 0 0 0);
      message_count = 0;
      messages = replicate message_places zero_message;
      letter_count = 0;
      letters = replicate letter_places 0;
    }

-- sheet A, and what it is read as
abbrev pub text_a : List ℕ
text_a = sheet_a "0:1500,1:1480" "LHLHLHLHLH"

unfoldable pub record_a : JobRecord
record_a = record_over job1 zeros

-- words by their places: receive, read, put, send, stop
abbrev pub said_a : Said
said_a =
    record {
      form = 1;
      keys = 2;
      secrets = (1, secret 1 (pos 300) 0 ∷ []);
      commands = (5, command 12 0 0 0 ∷ command 5 0 1 0 ∷ command 7 0 1 0 ∷ command 13 0 0 0 ∷ command 14 0 0 0 ∷ []);
      messages = (1, (2, entry 0 (pos 1500) ∷ entry 1 (pos 1480) ∷ []) ∷ []);
      letters = (10, bytes "LHLHLHLHLH");
    }

-- the sheet of two owners: `receive`, `read` twice, `add`, `put` twice, `send`
unfoldable pub record_two : JobRecord
record_two = record_over job_both zeros

abbrev pub said_two : Said
said_two =
    record {
      form = 2;
      keys = 3;
      secrets = (2, secret 1 (pos 300) 65 ∷ secret 2 (pos 400) 66 ∷ []);
      commands = (
        7,
        command 12 0 0 0 ∷ command 5 0 1 0 ∷ command 5 1 2 0 ∷ record { word = 1; v = 0; w = 1; k = 0; t = 0; n = pos 0 } ∷ command 7 0 1 0 ∷ command 7 0 2 0
            ∷ command 13 0 0 0 ∷ [],
      );
      messages = (1, (3, entry 0 (pos 7) ∷ entry 1 (pos 10) ∷ entry 2 (pos 20) ∷ []) ∷ []);
      letters = (21, bytes rounds);
    }

pub record Worked : Type 0 where
  pub places : Shaped zeros
  pub opens : read_entry text_a zeros (replicate 8 0) ≡ record { returned = 0; job = record_a; answer = replicate 8 0 }
  pub held : Shaped record_a
  pub says : said record_a ≡ said_a
  pub text : text_of record_a ≡ text_a
  pub opens_two : read_entry sheet_both zeros (replicate 8 0) ≡ record { returned = 0; job = record_two; answer = replicate 8 0 }
  pub says_two : said record_two ≡ said_two
  pub text_two : text_of record_two ≡ sheet_both

-- ---- Records that differ from a record r

-- in the form, the count of keys, and the counts of commands, messages and letters
unfoldable pub counted : JobRecord → ℕ → ℕ → ℕ → ℕ → ℕ → JobRecord
counted r form keys commands messages letters =
    record {
      form = form;
      keys = keys;
      secret_count = r.secret_count;
      secrets = r.secrets;
      command_count = commands;
      commands = r.commands;
      message_count = messages;
      messages = r.messages;
      letter_count = letters;
      letters = r.letters;
    }

-- in what the arrays hold
unfoldable pub holding : JobRecord → List SecretRecord → List CommandRecord → List MessageRecord → List ℕ → JobRecord
holding r ss cs ms ls =
    record {
      form = r.form;
      keys = r.keys;
      secret_count = r.secret_count;
      secrets = ss;
      command_count = r.command_count;
      commands = cs;
      message_count = r.message_count;
      messages = ms;
      letter_count = r.letter_count;
      letters = ls;
    }

-- one secret, command, message or letter
abbrev with_secret : JobRecord → ℕ → SecretRecord → JobRecord
with_secret r i s = holding r (set r.secrets i s) r.commands r.messages r.letters

abbrev with_command : JobRecord → ℕ → CommandRecord → JobRecord
with_command r i c = holding r r.secrets (set r.commands i c) r.messages r.letters

abbrev with_message : JobRecord → ℕ → MessageRecord → JobRecord
with_message r i m = holding r r.secrets r.commands (set r.messages i m) r.letters

abbrev with_letter : JobRecord → ℕ → ℕ → JobRecord
with_letter r i b = holding r r.secrets r.commands r.messages (set r.letters i b)

-- An example: a record, the bytes lent, and the number and the bytes that saving it answers
pub record Example : Type 0 where
  pub job : JobRecord
  pub lent : ℕ
  pub number : ℕ
  pub count : ℕ

abbrev example : JobRecord → ℕ → ℕ → ℕ → Example
example r lent n b = record { job = r; lent = lent; number = n; count = b }

abbrev pub Holds : Example → Type 0
Holds e = saved (write_record e.job (replicate e.lent 0)) ≡ e.number ∷ e.count ∷ []

abbrev pub AllHold : List Example → Type 0
AllHold [] = Unit {0}
AllHold (e ∷ es) = Holds e × AllHold es

-- sheet A's record with exactly enough memory and with a byte less. With none, 55 says that a record passes: the counts; the last letter and the first that is not
-- covered; an operand that `stop` lacks, and the same behind the last command; an owner; keys that do not rise; a target at the end and beyond; another form.
unfoldable pub list : List Example
list =
    example record_a 113 0 113
    ∷ example record_a 112 55 0
    ∷ example (counted record_a 1 0 5 1 10) 0 54 0
    ∷ example (counted record_a 1 9 5 1 10) 0 54 0
    ∷ example (counted record_a 1 1 5 1 10) 0 54 0
    ∷ example (counted record_a 1 2 5 1 0) 0 54 0
    ∷ example (counted record_a 1 2 5 1 1025) 0 54 0
    ∷ example (counted record_a 1 2 0 1 10) 0 54 0
    ∷ example (counted record_a 1 2 5 33 10) 0 54 0
    ∷ example (with_letter record_a 9 65) 0 54 0
    ∷ example (with_letter record_a 10 65) 0 55 0
    ∷ example (with_command record_a 4 (command 14 5 0 0)) 0 54 0
    ∷ example (with_command record_a 5 (command 0 5 0 0)) 0 55 0
    ∷ example (with_secret record_a 0 (secret 1 (pos 300) 65)) 0 54 0
    ∷ example (with_message record_a 0 (message 2 (entry 0 (pos 1500) ∷ entry 0 (pos 1480) ∷ replicate 14 (entry 0 (pos 0))))) 0 54 0
    ∷ example (with_command record_a 4 (command 11 0 0 5)) 0 55 0
    ∷ example (with_command record_a 4 (command 11 0 0 6)) 0 54 0
    ∷ example (counted record_a 2 2 5 1 10) 0 54 0
    ∷ []

-- The same of the sheet of two owners: "each with its own letters and limits". Either owner of either key; none, and
-- bytes beside theirs; an owner beyond the count; each letter, and that of the other form; the other form, and
-- numbers that are none.
unfoldable pub of_two : List Example
of_two =
    example record_two 167 0 167
    ∷ example record_two 166 55 0
    ∷ example (with_secret record_two 0 (secret 1 (pos 300) 66)) 0 55 0
    ∷ example (with_secret record_two 1 (secret 2 (pos 400) 65)) 0 55 0
    ∷ example (with_secret record_two 0 (secret 1 (pos 300) 0)) 0 54 0
    ∷ example (with_secret record_two 0 (secret 1 (pos 300) 64)) 0 54 0
    ∷ example (with_secret record_two 1 (secret 2 (pos 400) 67)) 0 54 0
    ∷ example (with_secret record_two 0 (secret 1 (pos 300) 72)) 0 54 0
    ∷ example (with_secret record_two 2 (secret 9 (pos 0) 9)) 0 55 0
    ∷ example (with_letter record_two 20 65) 0 55 0
    ∷ example (with_letter record_two 0 66) 0 55 0
    ∷ example (with_letter record_two 20 76) 0 55 0
    ∷ example (with_letter record_two 20 72) 0 54 0
    ∷ example (with_letter record_two 21 72) 0 55 0
    ∷ example (counted record_two 1 3 7 1 21) 0 54 0
    ∷ example (counted record_two 0 3 7 1 21) 0 54 0
    ∷ example (counted record_two 3 3 7 1 21) 0 54 0
    ∷ example (counted record_two 2 9 7 1 21) 0 54 0
    ∷ []
