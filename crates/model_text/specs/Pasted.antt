-- Message lines that are put into a sheet are read as the messages that they were written for, and command lines in the place of others as their commands; at
-- most how many bytes such lines have.
use Rattle.std.specs.Prelude.{ℕ, ◌+◌, ◌*◌, ◌≤◌, ◌≡◌, Bool, true, false, List, ◌++◌, length}
use Rattle.model.specs.{Text.bytes, Text.lines, Limits.most_bytes, Limits.most_commands, Limits.most_messages, Job.Job, Sheet.accepted, Sheet.read_sheet, Sheet.closed}
use Rattle.model.specs.Accepted.{Every, Full, Within, Bare}
use Rattle.model.specs.declared.{Entry.Entry, Command.Command}
use Rattle.model_text.specs.Found.{starts}
use Rattle.model_text.specs.Text.{message_lines, command_lines}

-- a job with more messages behind its own
abbrev pub with_more : Job → List (List Entry) → Job
with_more j ms = record { form = j.form; keys = j.keys; commands = j.commands; messages = j.messages ++ ms; turns = j.turns }

-- A sheet that is accepted, cut before its line `turns`: what stands before the cut ends with a line feed, and what stands behind it begins with `turns=`
pub record CutAtTurns (head tail : List ℕ) (j : Job) : Type 0 where
  pub accepts : read_sheet (head ++ tail) ≡ accepted j
  pub ends : closed head ≡ true
  pub letters : List ℕ
  pub turns : tail ≡ bytes "turns=" ++ letters

-- Messages with an entry or none for each of the sheet's keys, not too many with those that the sheet has, written where it was cut: the sheet is accepted as
-- the same job with these messages behind its own, unless it is too long for a sheet.
abbrev pub Pasted : Type 0
Pasted =
    (head tail : List ℕ) (j : Job) → CutAtTurns head tail j
    → (ms : List (List Entry)) → Every (Full (length j.keys)) ms → length j.messages + length ms ≤ most_messages
    → length (head ++ (message_lines ms ++ tail)) ≤ most_bytes
    → read_sheet (head ++ (message_lines ms ++ tail)) ≡ accepted (with_more j ms)

-- a job with other commands in place of its own
abbrev pub with_commands : Job → List Command → Job
with_commands j cs = record { form = j.form; keys = j.keys; commands = cs; messages = j.messages; turns = j.turns }

-- a text begins with `do=`
abbrev pub starts_do : List ℕ → Bool
starts_do l = starts (bytes "do=") l

-- A sheet that is accepted, cut before its first `do` line and behind its last: of the three parts, each ends with a line feed, the lines of old are those that
-- begin with `do=`, no line of head does, and tail does not begin with one that does.
pub record CutAtProgram (head old tail : List ℕ) (j : Job) : Type 0 where
  pub accepts : read_sheet (head ++ (old ++ tail)) ≡ accepted j
  pub head_ends : closed head ≡ true
  pub old_ends : closed old ≡ true
  pub tail_ends : closed tail ≡ true
  pub before : Every (λ (l : List ℕ). starts_do l ≡ false) (lines head)
  pub inside : Every (λ (l : List ℕ). starts_do l ≡ true) (lines old)
  pub behind : starts_do tail ≡ false

-- Commands within the limits of the sheet's keys and of their own count, written in the place of the sheet's: the sheet is accepted as the same job with these
-- commands, unless it is too long for a sheet.
abbrev pub ProgramPasted : Type 0
ProgramPasted =
    (head old tail : List ℕ) (j : Job) → CutAtProgram head old tail j
    → (cs : List Command) → 1 ≤ length cs → length cs ≤ most_commands → Every (Within (length j.keys) (length cs)) cs → Every Bare cs
    → length (head ++ (command_lines cs ++ tail)) ≤ most_bytes
    → read_sheet (head ++ (command_lines cs ++ tail)) ≡ accepted (with_commands j cs)

-- A message line of at most eight keys has at most 116 bytes: `msg=`, eight keys of one digit with a colon and a number of at most eleven bytes, seven
-- commas, and the line feed.
abbrev pub longest_line : ℕ
longest_line = 116

abbrev pub LinesShort : Type 0
LinesShort = (K : ℕ) (ms : List (List Entry)) → K ≤ 8 → Every (Full K) ms → length (message_lines ms) ≤ longest_line * length ms

-- A command line has at most 21 bytes, those of `set` with the longest number: `do=`, the word, a space, a digit, a space, eleven bytes, and the line feed.
abbrev pub longest_command : ℕ
longest_command = 21

abbrev pub CommandLinesShort : Type 0
CommandLinesShort =
    (K t : ℕ) (cs : List Command) → K ≤ 8 → t ≤ most_commands → Every (Within K t) cs → length (command_lines cs) ≤ longest_command * length cs
