-- What the readers of a command's line are given and answer.
use Rattle.std.specs.Prelude.{cond, List, [], ◌∷◌, ℕ, ◌+◌, ◌≤◌}
use lib.{Dec.ltb, IntN.ℤ, ListN.length, ListN.drop}
use Rattle.model.specs.{Parsed.Parsed, Parsed.got, Parsed.refused, Parsed.◌>>=◌, Text.space, Text.split, Command.Limits, Command.by_row}
use Rattle.model.specs.declared.{Op.Op, Command.Command, Operand.Operand}
use Rattle.model.specs.declared.Operand.TheVariants.{InV, InW, InK, InT, InN}
use Rattle.read_command.specs.declared.Shape.{Shape}
use Rattle.read_command.specs.declared.Shape.TheVariants.{Alone, K, T, VN, VW, VK, KV, VT}

-- ---- The whole line

-- limits that the fields of a command can hold
pub record Fair (keys target : ℕ) : Type 0 where
  pub some : 1 ≤ keys
  pub few : keys ≤ 256
  pub near : target ≤ 4294967295

-- ---- The word

abbrev pub shape_as : Shape → List Operand
shape_as Alone = []
shape_as K = InK ∷ []
shape_as T = InT ∷ []
shape_as VN = InV ∷ InN ∷ []
shape_as VW = InV ∷ InW ∷ []
shape_as VK = InV ∷ InK ∷ []
shape_as KV = InK ∷ InV ∷ []
shape_as VT = InV ∷ InT ∷ []

abbrev pub word_as : Op × Shape → Op × List Operand
word_as w = (w.0, shape_as w.1)

-- ---- The parts after the word

-- the parts of a line s whose word ends at e
unfoldable pub parts_after : ℕ → List ℕ → List (List ℕ)
parts_after e s = cond (ltb e (length s)) (split space (drop (e + 1) s)) []

-- what the word and its parts say
abbrev pub by_word : Limits → Parsed (Op × List Operand) → List (List ℕ) → Parsed Command
by_word l w ps = w >>= (λ x. by_row l x.0 x.1 ps)

-- a text that is one part, and a text that is two
unfoldable pub single : List (List ℕ) → Parsed (List ℕ)
single [] = refused 6
single (p ∷ []) = got p
single (p ∷ q ∷ ps) = refused 6

unfoldable pub halves : List (List ℕ) → Parsed (List ℕ × List ℕ)
halves [] = refused 6
halves (p ∷ []) = refused 6
halves (p ∷ q ∷ []) = got (p, q)
halves (p ∷ q ∷ r ∷ ps) = refused 6

-- one part read, and two parts read from left to right
unfoldable pub one_of : {A : Type 0} → (List ℕ → Parsed A) → List (List ℕ) → Parsed A
one_of f ps = single ps >>= f

unfoldable pub two_of : {A B : Type 0} → (List ℕ → Parsed A) → (List ℕ → Parsed B) → List (List ℕ) → Parsed (A × B)
two_of f g ps = halves ps >>= (λ h. f h.0 >>= (λ x. g h.1 >>= (λ y. got (x, y))))

-- ---- The command that is made of them

-- what f makes of what is got
unfoldable pub mapped : {A B : Type 0} → (A → B) → Parsed A → Parsed B
mapped f r = r >>= (λ a. got (f a))

abbrev pub command_of : Op → ℕ → ℕ → ℕ → ℕ → ℤ → Command
command_of o v w k t n = record { op = o; v = v; w = w; k = k; t = t; n = n }

abbrev pub with_number : Op → ℕ × ℤ → Command
with_number o x = command_of o x.0 0 0 0 x.1

-- what the fields of a command can hold
pub record Fields (v w k t : ℕ) : Type 0 where
  pub v-fits : v ≤ 255
  pub w_fits : w ≤ 255
  pub k-fits : k ≤ 255
  pub t-fits : t ≤ 4294967295
