-- What the readers of lines answer: the first line of a text, and how far a phase came in it.
use Rattle.std.specs.Prelude.{◌≡◌, Option, None, Some, Result, Ok, Err, List, [], ◌∷◌, ℕ, ◌+◌, ◌-◌, ◌<◌, ◌≤◌, length, take, drop}
use Rattle.model.specs.{Parsed.Parsed, Parsed.got, Parsed.refused, Parsed.◌>>=◌, Refusal.number_of, Text.lines}
use Rattle.model.specs.Phase as Model
use Rattle.model.specs.declared.{Fault.Fault, Refusal.Refusal}
use Rattle.model_text.specs.Found.{Word}
use Rattle.read_line.specs.declared.Mark.{Mark}

abbrev pub beside : List (List ℕ) → List ℕ → Parsed (List ℕ × List (List ℕ))
beside ls v = got (v, ls)

-- What follows the name w on the first line, and the lines after it
unfoldable pub headed : List ℕ → List (List ℕ) → Parsed (List ℕ × List (List ℕ))
headed w [] = refused 3
headed w (l ∷ ls) = Model.after w l >>= beside ls

-- the same in a text t
abbrev pub found_as : List ℕ → Option (ℕ × ℕ) → Parsed (List ℕ × List (List ℕ))
found_as t (Some x) = got (take (x.1 - x.0) (drop x.0 t), lines (drop (x.1 + 1) t))
found_as t None = refused 3

-- the line feed stands after the name and within the text
abbrev pub FeedInside : List ℕ → Option (ℕ × ℕ) → Type 0
FeedInside t (Some x) = (x.0 ≤ x.1) × (x.1 < length t)
FeedInside t None = Unit {0}

pub record FirstLine (p t : List ℕ) (r : Option (ℕ × ℕ)) : Type 0 where
  pub line : (w : List ℕ) → Word w p → found_as t r ≡ headed w (lines t)
  pub feed : FeedInside t r

-- what was read, or its refusal with the number of a line
abbrev pub faulted : {X : Type 0} → ℕ → Result X Refusal → Result X Fault
faulted l (Ok x) = Ok x
faulted l (Err r) = Err (record { refusal = r; line = l })

-- ---- Phases, over a text: what was read, as f shows it, and where the next line starts

abbrev pub phase_as : {X A : Type 0} → (X → A) → List ℕ → Result (X × Mark) Fault → Model.Phase A
phase_as f s (Ok x) = Model.got (f x.0) x.1.line (lines (drop x.1.at s))
phase_as f s (Err e) = Model.refused (number_of e.refusal) e.line

-- The line that a phase came to starts within the text, and between two lines there is a byte at least
abbrev pub Ahead : {X : Type 0} → List ℕ → ℕ → Result (X × Mark) Fault → Type 0
Ahead s first (Ok x) = (x.1.at ≤ length s) × (x.1.line ≤ first + x.1.at)
Ahead s first (Err e) = Unit {0}

-- the phase P over the lines of s, of which the first has the number first, came so far and read what f shows
pub record Reads {X A : Type 0} (P : ℕ → List (List ℕ) → Model.Phase A) (f : X → A) (s : List ℕ) (first : ℕ) (r : Result (X × Mark) Fault) : Type 0 where
  pub read : phase_as f s r ≡ P first (lines s)
  pub ahead : Ahead s first r
