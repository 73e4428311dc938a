-- The text of message lines and of command lines, as document 01 has them: "`msg=key:value,key:value`, keys rising within a line. `msg=` alone is a message
-- with no entries"; "`do=command`", and the table of the commands.
use Rattle.std.specs.Prelude.{List, [], ◌∷◌, ◌++◌, map, ℕ, suc, ℤ}
use Rattle.model.specs.{Text.bytes, Text.line_feed, Text.space, Text.comma, Text.colon, Text.equals_sign, Decimal.natural, Decimal.whole, Accepted.row_for}
use Rattle.model.specs.declared.{Entry.Entry, Command.Command, Operand.Operand}
use Rattle.model.specs.declared.Entry.TheVariants.{Absent, Number}
use Rattle.model.specs.declared.Operand.TheVariants.{InV, InW, InK, InT, InN}

-- ---- Texts put together

-- texts with a byte between each two
unfoldable pub joined : ℕ → List (List ℕ) → List ℕ
joined c [] = []
joined c (p ∷ []) = p
joined c (p ∷ q ∷ ps) = p ++ (c ∷ joined c (q ∷ ps))

-- texts with a byte before each
unfoldable pub prefixed : ℕ → List (List ℕ) → List ℕ
prefixed c [] = []
prefixed c (p ∷ ps) = c ∷ (p ++ prefixed c ps)

-- "Each line ends with a line feed"
unfoldable pub unlines : List (List ℕ) → List ℕ
unlines [] = []
unlines (l ∷ ls) = l ++ (line_feed ∷ unlines ls)

-- a line: its name, an equals sign, and what follows it
unfoldable pub named : List ℕ → List ℕ → List ℕ
named w v = w ++ (equals_sign ∷ v)

-- ---- Message lines

-- `key:value`
unfoldable pub pair_text : ℕ × ℤ → List ℕ
pair_text kv = natural kv.0 ++ (colon ∷ whole kv.1)

abbrev pub present : ℕ → Entry → List (ℕ × ℤ) → List (ℕ × ℤ)
present k Absent ps = ps
present k (Number z) ps = (k, z) ∷ ps

-- the keys that have a number, from key k on
unfoldable pub pairs : ℕ → List Entry → List (ℕ × ℤ)
pairs k [] = []
pairs k (e ∷ es) = present k e (pairs (suc k) es)

-- what follows `msg=`
unfoldable pub message_text : List Entry → List ℕ
message_text es = joined comma (map pair_text (pairs 0 es))

abbrev pub message_line : List Entry → List ℕ
message_line es = named (bytes "msg") (message_text es)

-- the message lines of a sheet
unfoldable pub message_lines : List (List Entry) → List ℕ
message_lines ms = unlines (map message_line ms)

-- ---- Command lines

-- an operand of a command: a variable, a key, a target or a number
unfoldable pub operand_text : Operand → Command → List ℕ
operand_text InV c = natural c.v
operand_text InW c = natural c.w
operand_text InK c = natural c.k
operand_text InT c = natural c.t
operand_text InN c = whole c.n

abbrev pub operand_texts : List Operand → Command → List (List ℕ)
operand_texts os c = map (λ (o : Operand). operand_text o c) os

-- what follows `do=`: the word of the command's row of the table, and the parts that this row has, from left to right. "every space splits"
unfoldable pub command_text : Command → List ℕ
command_text c = joined space ((row_for c.op).word ∷ operand_texts (row_for c.op).parts c)

abbrev pub command_line : Command → List ℕ
command_line c = named (bytes "do") (command_text c)

-- the command lines of a sheet
unfoldable pub command_lines : List Command → List ℕ
command_lines cs = unlines (map command_line cs)
