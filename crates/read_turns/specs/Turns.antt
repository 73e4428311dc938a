-- What the readers of the line `turns` answer: f is the form of the sheet, s the text that one is given, and first the number of its first line.
use Rattle.std.specs.Prelude.{◌≡◌, Bool, cond, Result, IfOk, List, map, ℕ, ◌≤◌, length, take}
use Rattle.model.specs.{Parsed.got, Parsed.refused, Refusal.parsed_by, Turns.letter_b, Turns.letter, Turns.turns_line, Turns.read_turns, Stored.level_of}
use Rattle.model.specs.declared.{Form.Form, Level.Level, Refusal.Refusal, Fault.Fault}
use Rattle.read_line.specs.Phase.{Reads}
use Rattle.read_line.specs.declared.Mark.{Mark}

pub record LetterKnown (f : Form) (b : ℕ) (r : Bool) : Type 0 where
  pub read : letter f b ≡ cond r (got (level_of b)) (refused 9)

-- of an array the levels of the first n letters
abbrev pub turns_in : List ℕ → ℕ → List Level
turns_in bs n = map level_of (take n bs)

-- r is the count of the letters, which stand at the front of bs
pub record LettersCopied (f : Form) (s : List ℕ) (r : Result ℕ Refusal) (bs : List ℕ) : Type 0 where
  pub read : parsed_by (turns_in bs) r ≡ turns_line f s
  pub few : IfOk r (λ n. n ≤ length bs)

pub record TurnsRead (f : Form) (s : List ℕ) (first : ℕ) (r : Result (ℕ × Mark) Fault) (bs : List ℕ) : Type 0 where
  pub read : Reads (read_turns f) (turns_in bs) s first r
  pub few : IfOk r (λ x. x.0 ≤ length bs)
