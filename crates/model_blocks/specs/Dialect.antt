-- The text of a program with blocks: what it says, or the refusal that comes first, with its line.
use Rattle.std.specs.Prelude.{ℕ, ◌+◌, ◌-◌, cond, List, [], ◌∷◌}
use lib.{Dec.leb, Dec.ltb, ListN.length}
use Rattle.model.specs.Parsed as Parsed
use Rattle.model.specs.{Parsed.Parsed, Parsed.got, Parsed.need, Parsed.◌>>=◌, Parsed.◌>>◌, Text.bytes, Text.same, Text.split, Text.space, Text.lines, Text.between}
use Rattle.model.specs.{Limits.variables, Limits.most_keys, Limits.most_commands, Number.up_to, Command.table, Command.row_of, Command.by_row, Command.limits}
use Rattle.model.specs.{Sheet.over_text, Answer.After, Written.Draft, Written.Written, Written.write, Written.text_entry}
use Rattle.model.specs.Written as Written
use Rattle.model.specs.declared.Command.{Command}
use Rattle.model_text.specs.Text.{command_lines}
use Rattle.model_blocks.specs.Block.{Block, empty, own, if_only, if_else, while, way_of, allowed, places, commands_of, ◌then◌}

-- ---- The words

-- "`if v`, `else`, `while v`, `end`": which of them a line is, by its first word
pub data BlockWord : Type 0 where
  if_word else_word while_word end_word other_word : BlockWord

unfoldable pub block_word : List ℕ → BlockWord
block_word w =
    cond (same w (bytes "if")) if_word
    (cond (same w (bytes "else")) else_word
    (cond (same w (bytes "while")) while_word
    (cond (same w (bytes "end")) end_word
    other_word)))

-- A command of the dialect, by its word w and its parts, where there are K keys. "A line's other faults get 6 and 4 as in `do` lines." No such command has a
-- target.
unfoldable pub own_command : ℕ → List ℕ → List (List ℕ) → Parsed Command
own_command K w ps = do
  r ← row_of table w
  need (allowed (way_of r.op)) 6
  by_row (limits K 0) r.op r.parts ps

-- the v of `if v` and `while v`: 6 for another count of parts, and then 4
unfoldable pub tested : List (List ℕ) → Parsed ℕ
tested [] = Parsed.refused 6
tested (p ∷ []) = up_to (variables - 1) p
tested (p ∷ q ∷ ps) = Parsed.refused 6

-- `else` and `end` have no parts
unfoldable pub alone : List (List ℕ) → Parsed (Unit {0})
alone [] = got tt
alone (p ∷ ps) = Parsed.refused 6

-- ---- The blocks that are open

-- What a block that is open is: the first body of an `if`; the body behind an `else`, the first one being this; the body of a `while`
pub data Opener : Type 0 where
  in_if : (v : ℕ) → Opener
  in_else : (v : ℕ) (first : Block) → Opener
  in_while : (v : ℕ) → Opener

-- a block that is open, and what stands before it in the block around it
pub record OpenBlock : Type 0 where
  pub opener : Opener
  pub before : Block

-- Where reading stands: the blocks that are open, the innermost first, and what stands so far in the innermost, or in the program where none is open
pub record Standing : Type 0 where
  pub blocks : List OpenBlock
  pub sofar : Block

abbrev pub nothing_open : Standing
nothing_open = record { blocks = []; sofar = empty }

-- something more in the innermost block
abbrev pub adding : Block → Standing → Standing
adding b o = record { blocks = o.blocks; sofar = o.sofar then b }

-- a block opened
abbrev pub opening : Opener → Standing → Standing
opening k o = record { blocks = record { opener = k; before = o.sofar } ∷ o.blocks; sofar = empty }

-- "nested at most 8 deep"
abbrev pub deepest : ℕ
deepest = 8

-- `if v` or `while v`: "52, next on that line, for a ninth level", and then its other faults
unfoldable pub on_opening : (ℕ → Opener) → List (List ℕ) → Standing → Parsed Standing
on_opening k ps o = do
  need (ltb (length o.blocks) deepest) 52
  v ← tested ps
  got (opening (k v) o)

-- the innermost block, and those around it; 51 where none is open
abbrev pub innermost : List OpenBlock → Parsed (OpenBlock × List OpenBlock)
innermost [] = Parsed.refused 51
innermost (b ∷ bs) = got (b, bs)

-- what the block is behind an `else`, whose body so far was a; 51 for "an `else` not directly in an `if`'s first body"
abbrev pub behind_else : Opener → Block → Parsed Opener
behind_else (in_if v) a = got (in_else v a)
behind_else (in_else v first) a = Parsed.refused 51
behind_else (in_while v) a = Parsed.refused 51

unfoldable pub on_else : List (List ℕ) → Standing → Parsed Standing
on_else ps o = do
  x ← innermost o.blocks
  k ← behind_else x.0.opener o.sofar
  alone ps
  got (record { blocks = record { opener = k; before = x.0.before } ∷ x.1; sofar = empty })

-- the block that is closed, its last body being a
abbrev pub closed_block : Opener → Block → Block
closed_block (in_if v) a = if_only v a empty
closed_block (in_else v first) a = if_else v first a empty
closed_block (in_while v) a = while v a empty

-- 51 for "an `end` outside blocks"
unfoldable pub on_end : List (List ℕ) → Standing → Parsed Standing
on_end ps o = do
  x ← innermost o.blocks
  alone ps
  got (record { blocks = x.1; sofar = x.0.before then closed_block x.0.opener o.sofar })

-- ---- A line

-- "51, line by line and before 6", by the line's first word; "52, next on that line"; then its other faults
unfoldable pub line_by : ℕ → BlockWord → List ℕ → List (List ℕ) → Standing → Parsed Standing
line_by K if_word w ps o = on_opening in_if ps o
line_by K else_word w ps o = on_else ps o
line_by K while_word w ps o = on_opening in_while ps o
line_by K end_word w ps o = on_end ps o
line_by K other_word w ps o = own_command K w ps >>= (λ c. got (adding (own c empty) o))

abbrev pub line_in : ℕ → List (List ℕ) → Standing → Parsed Standing
line_in K [] o = Parsed.refused 6
line_in K (w ∷ ps) o = line_by K (block_word w) w ps o

-- as in `do` lines, every space splits
unfoldable pub block_line : ℕ → List ℕ → Standing → Parsed Standing
block_line K l o = line_in K (split space l) o

-- ---- The text

-- The tree of a text, or a refusal's number and line
pub data BlocksRead : Type 0 where
  tree : Block → BlocksRead
  refused : ℕ → ℕ → BlocksRead

-- what line n gives, and what follows from it
abbrev pub at_line : ℕ → Parsed Standing → (Standing → BlocksRead) → BlocksRead
at_line n (got o) f = f o
at_line n (Parsed.refused r) f = refused r n

-- behind the last line, which would be line n: 51 for "a missing `end` (the line after the last)"
abbrev pub at_last : ℕ → List OpenBlock → Block → BlocksRead
at_last n [] b = tree b
at_last n (x ∷ xs) b = refused 51 n

-- the lines from line n on
unfoldable pub read_from : ℕ → ℕ → Standing → List (List ℕ) → BlocksRead
read_from K n o [] = at_last n o.blocks o.sofar
read_from K n o (l ∷ ls) = at_line n (block_line K l o) (λ o'. read_from K (n + 1) o' ls)

-- "The caller gives K; a K beyond its limit gets 4 at line 0, before all else. Then 2 is tested over the whole text."
unfoldable pub read_blocks : ℕ → List ℕ → BlocksRead
read_blocks K s = cond (between 1 most_keys K) (over_text refused s (read_from K 1 nothing_open (lines s))) (refused 4 0)

-- ---- What is written

-- "Out come `do` lines."; "53, last and at line 0, for more than 64 commands after translation"
abbrev pub draft : BlocksRead → Draft
draft (tree b) = cond (leb (places b) most_commands) (Written.text (command_lines (commands_of b))) (Written.refused 53 0)
draft (refused n l) = Written.refused n l

-- "or too little lent memory": the text s of a program for K keys, and the output memory m that is lent
unfoldable pub write_blocks : ℕ → List ℕ → List ℕ → Written
write_blocks K s m = write 53 m (draft (read_blocks K s))

-- "The answer is number, line (0 on success) and bytes; a refusal writes nothing.": as the C entry leaves it, with the answer memory a
unfoldable pub blocks_entry : ℕ → List ℕ → List ℕ → List ℕ → After
blocks_entry K s m a = text_entry m a (write_blocks K s m)
