-- The commands as document 01 prints them, in one table, and reading a command by that table.
use Rattle.std.specs.Prelude.{List, [], ◌∷◌, ℕ, ◌-◌, cond}
use Prim.Native.String.{String}
use lib.{IntN.pos, Dec.eqb, ListN.length}
use Rattle.model.specs.{Text.bytes, Text.same, Text.split, Text.space, Limits.variables, Parsed.Parsed, Parsed.got, Parsed.◌>>=◌, Parsed.refused, Number.up_to}
use Rattle.model.specs.{Number.number}
use Rattle.model.specs.Data.{Op, Set, Add, Sub, Mul, Div, Read, Has, Put, Drop, IfNeg, IfZero, Jump, Receive, Send, Stop, Command, Operand, InV, InW, InK, InT, InN}

-- A row of the table: the word, its meaning's name, and what its parts are, from left to right
pub record Row : Type 0 where
  pub word : List ℕ
  pub op : Op
  pub parts : List Operand

abbrev row : String → Op → List Operand → Row
row w o ps = record { word = bytes w; op = o; parts = ps }

-- "v and w are variables 0 to 7, k a key, n a number, t a target from 0 to the count of commands."
unfoldable pub table : List Row
table =
    row "set" Set (InV ∷ InN ∷ []) ∷
    row "add" Add (InV ∷ InW ∷ []) ∷
    row "sub" Sub (InV ∷ InW ∷ []) ∷
    row "mul" Mul (InV ∷ InW ∷ []) ∷
    row "div" Div (InV ∷ InW ∷ []) ∷
    row "read" Read (InV ∷ InK ∷ []) ∷
    row "has" Has (InV ∷ InK ∷ []) ∷
    row "put" Put (InK ∷ InV ∷ []) ∷
    row "drop" Drop (InK ∷ []) ∷
    row "ifneg" IfNeg (InV ∷ InT ∷ []) ∷
    row "ifzero" IfZero (InV ∷ InT ∷ []) ∷
    row "jump" Jump (InT ∷ []) ∷
    row "receive" Receive [] ∷
    row "send" Send [] ∷
    row "stop" Stop [] ∷
    []

-- what bounds a command's operands: the count of keys, and the highest target that is read
pub record Limits : Type 0 where
  pub keys : ℕ
  pub target : ℕ

abbrev pub limits : ℕ → ℕ → Limits
limits K t = record { keys = K; target = t }

-- a command with no operands yet
abbrev pub blank : Op → Command
blank o = record { op = o; v = 0; w = 0; k = 0; t = 0; n = pos 0 }

-- a part read as its operand, and entered into the command. Refusal 4: "a number is malformed or beyond its limit (v, k, t up to 64, n)"
unfoldable pub operand : Limits → Operand → List ℕ → Command → Parsed Command
operand l InV p c = up_to (variables - 1) p >>= (λ x. got (record { op = c.op; v = x; w = c.w; k = c.k; t = c.t; n = c.n }))
operand l InW p c = up_to (variables - 1) p >>= (λ x. got (record { op = c.op; v = c.v; w = x; k = c.k; t = c.t; n = c.n }))
operand l InK p c = up_to (l.keys - 1) p >>= (λ x. got (record { op = c.op; v = c.v; w = c.w; k = x; t = c.t; n = c.n }))
operand l InT p c = up_to l.target p >>= (λ x. got (record { op = c.op; v = c.v; w = c.w; k = c.k; t = x; n = c.n }))
operand l InN p c = number p >>= (λ x. got (record { op = c.op; v = c.v; w = c.w; k = c.k; t = c.t; n = x }))

-- the parts from left to right
unfoldable pub operands : Limits → List Operand → List (List ℕ) → Command → Parsed Command
operands l (o ∷ os) (p ∷ ps) c = operand l o p c >>= operands l os ps
operands l (o ∷ os) [] c = got c
operands l [] ps c = got c

-- Refusal 6: "a command word is not in the table, or the count of parts is wrong".
-- "A command is tested for 6 and then for 4 from left to right."
unfoldable pub row_of : List Row → List ℕ → Parsed Row
row_of [] w = refused 6
row_of (r ∷ rs) w = cond (same w r.word) (got r) (row_of rs w)

unfoldable pub by_row : Limits → Op → List Operand → List (List ℕ) → Parsed Command
by_row l o os ps = cond (eqb (length os) (length ps)) (operands l os ps (blank o)) (refused 6)

unfoldable pub words : Limits → List (List ℕ) → Parsed Command
words l [] = refused 6
words l (w ∷ ps) = row_of table w >>= (λ r. by_row l r.op r.parts ps)

-- what follows `do=`: "every space splits"
unfoldable pub read_command : Limits → List ℕ → Parsed Command
read_command l s = words l (split space s)
