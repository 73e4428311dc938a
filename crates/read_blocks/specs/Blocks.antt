-- What the readers of a program with blocks are given and answer. Places are in the text s; K is the number of keys, and d blocks are open around.
use Rattle.std.specs.Prelude.{ℕ, ◌+◌, ◌<◌, ◌≤◌, ◌≡◌, Bool, true, false, cond, List, [], ◌∷◌, ◌++◌, map, Result, Ok, Err}
use lib.{Dec.ltb, ListN.length, ListN.take, ListN.drop, ListN.set}
use Rattle.model.specs.{Parsed.Parsed, Parsed.got, Text.find, Text.space, Text.lines, Limits.most_keys, Limits.variables}
use Rattle.model.specs.Refusal.{number_of}
use Rattle.model.specs.declared.{Command.Command, Refusal.Refusal, TextFault.TextFault}
use Rattle.model_blocks.specs.Block.{Block, if_else, empty, places, test_to, jump_to, translate, commands_of}
use Rattle.model_blocks.specs.Dialect.{BlockWord, if_word, else_word, while_word, end_word, block_word, own_command, in_if, Standing, adding, opening, deepest, BlocksRead}
use Rattle.model_blocks.specs.Dialect.{tree, read_from, read_blocks}
use Rattle.model_blocks.specs.Dialect as Dialect
use Rattle.read_command.specs.{Code.code_of, Command.parts_after, declared.FirstWord.FirstWord}
use Rattle.pack_command.specs.Pack.{command_number}
use Rattle.read_blocks.specs.declared.{Mark.Mark, Line.Line, Close.Close, Body.Body, Item.Item}
use Rattle.read_blocks.specs.declared.Close.TheVariants.{Over, Else as BeforeElse, End as BeforeEnd}
use Rattle.read_blocks.specs.declared.Item.TheVariants.{Got as ItemGot, Stop}

-- ---- The word of a line

-- the word of a `while`, or of an `if`
abbrev pub opener_word : Bool → BlockWord
opener_word true = while_word
opener_word false = if_word

-- ---- Places

-- the line that follows the line at p, which ends at e, behind so many commands more
abbrev pub next_line : Mark → ℕ → ℕ → Mark
next_line p e more = record { at = p.at + e + 1; line = p.line + 1; count = p.count + more }

-- a refusal of the line at p
abbrev pub fault : Mark → Refusal → TextFault
fault p r = record { refusal = r; line = p.line }

-- a place lies in the text, its line's number is at most the bytes before it and 1, and no line before it gave more than one command
pub record Starts (s : List ℕ) (p : Mark) : Type 0 where
  pub inside : p.at ≤ length s
  pub near : p.line ≤ p.at + 1
  pub few : p.count + 1 ≤ p.line

-- what all readers ask for
pub record Sane (s : List ℕ) (K d : ℕ) (p : Mark) (out : List ℕ) : Type 0 where
  pub starts : Starts s p
  pub some : 1 ≤ K
  pub most : K ≤ most_keys
  pub shallow : d ≤ deepest
  pub short : length out < 65536

-- the line at p: where it ends, and its first word, which is w
pub record LineAt (s : List ℕ) (p : Mark) (l : Line) (w : BlockWord) : Type 0 where
  pub first : lines (drop p.at s) ≡ take l.end (drop p.at s) ∷ lines (drop (p.at + l.end + 1) s)
  pub inside : p.at + l.end + 1 ≤ length s
  pub word : l.word ≡ find space (take l.end (drop p.at s))
  pub says : block_word (take l.word (take l.end (drop p.at s))) ≡ w

-- ---- Reading on

-- what the lines from p on come to, where reading stands at o
abbrev pub reading : ℕ → List ℕ → Mark → Standing → BlocksRead
reading K s p o = read_from K p.line o (lines (drop p.at s))

-- they are refused
abbrev pub refused_by : TextFault → BlocksRead
refused_by x = Dialect.refused (number_of x.refusal) x.line

abbrev pub RefusedFrom : ℕ → ℕ → List ℕ → Mark → TextFault → Type 0
RefusedFrom K d s p x = (o : Standing) → length o.blocks ≡ d → reading K s p o ≡ refused_by x

-- Reading goes on from p to q: the lines between them say a block, and its commands are kept behind those before them, where the memory reaches so far.
pub record Goes (K d : ℕ) (s : List ℕ) (p q : Mark) (out out' : List ℕ) : Type 0 where
  pub block : Block
  pub reads : (o : Standing) → length o.blocks ≡ d → reading K s p o ≡ reading K s q (adding block o)
  pub counts : q.count ≡ p.count + places block
  pub kept : q.count ≤ length out → take q.count out' ≡ take p.count out ++ map command_number (translate p.count block)
  pub starts : Starts s q
  pub onward : p.at ≤ q.at

-- there is no line at p
abbrev pub NoMore : List ℕ → Mark → Type 0
NoMore s p = lines (drop p.at s) ≡ []

-- why the lines of a block end at p
unfoldable pub StopsAt : List ℕ → Mark → Close → Type 0
StopsAt s p Over = NoMore s p
StopsAt s p (BeforeElse l) = LineAt s p l else_word
StopsAt s p (BeforeEnd l) = LineAt s p l end_word

-- a command with blocks in it, up to q
unfoldable pub NestedRead : ℕ → ℕ → List ℕ → Mark → List ℕ → List ℕ → Result Mark TextFault → Type 0
NestedRead K d s p out out' (Ok q) = Goes K d s p q out out' × (p.at < q.at)
NestedRead K d s p out out' (Err x) = RefusedFrom K d s p x

-- what stands at p: a command with all its blocks, up to q; or none
unfoldable pub ItemRead : ℕ → ℕ → List ℕ → Mark → List ℕ → List ℕ → Result Item TextFault → Type 0
ItemRead K d s p out out' (Ok (ItemGot q)) = Goes K d s p q out out' × (p.at < q.at)
ItemRead K d s p out out' (Ok (Stop c)) = StopsAt s p c × (out' ≡ out)
ItemRead K d s p out out' (Err x) = RefusedFrom K d s p x

-- the lines of a block from p on, up to where they end
unfoldable pub BlockRead : ℕ → ℕ → List ℕ → Mark → List ℕ → List ℕ → Result Body TextFault → Type 0
BlockRead K d s p out out' (Ok b) = Goes K d s p b.place out out' × StopsAt s b.place b.stop
BlockRead K d s p out out' (Err x) = RefusedFrom K d s p x

-- what follows an `else` at p, up to q behind the `end`: the first body of the `if` on v was a, and its test stands at the place t
pub record OtherGoes (K d : ℕ) (s : List ℕ) (t v : ℕ) (p q : Mark) (out out' : List ℕ) : Type 0 where
  pub other : Block
  pub reads : (o : Standing) (a : Block) → length o.blocks ≡ d → reading K s p (adding a (opening (in_if v) o)) ≡ reading K s q (adding (if_else v a other empty) o)
  pub counts : q.count ≡ p.count + 1 + places other
  pub kept : q.count ≤ length out
      → take q.count out' ≡ take p.count (set out t (command_number (test_to (p.count + 1) v))) ++ (command_number (jump_to q.count) ∷ map command_number (translate (p.count + 1) other))
  pub starts : Starts s q
  pub onward : p.at < q.at

-- the `else` is that of an `if` on v, whose test is at the place t
pub record OtherAsked (d t v : ℕ) (p : Mark) : Type 0 where
  pub shallow : d < deepest
  pub test : t < p.count
  pub variable : v < variables

unfoldable pub OtherRead : ℕ → ℕ → List ℕ → ℕ → ℕ → Mark → List ℕ → List ℕ → Result Mark TextFault → Type 0
OtherRead K d s t v p out out' (Ok q) = OtherGoes K d s t v p q out out'
OtherRead K d s t v p out out' (Err x) = (o : Standing) (a : Block) → length o.blocks ≡ d → reading K s p (adding a (opening (in_if v) o)) ≡ refused_by x

-- the line l at p, of which w is the first word, and what follows it
pub record OwnAsked (K : ℕ) (l : List ℕ) (p : Mark) (w : FirstWord) (out : List ℕ) : Type 0 where
  pub some : 1 ≤ K
  pub most : K ≤ most_keys
  pub end : w.end ≡ find space l
  pub code : w.code ≡ code_of (take w.end l)
  pub at : p.at + length l + 1 < 18446744073709551616
  pub near : p.line ≤ p.at + 1
  pub few : p.count + 1 ≤ p.line

-- a command of the dialect's own on the line l at p, whose word ends at f
unfoldable pub OwnRead : ℕ → List ℕ → ℕ → Mark → List ℕ → List ℕ → Result Mark TextFault → Type 0
OwnRead K l f p out out' (Ok q) =
    (c : Command) × (own_command K (take f l) (parts_after f l) ≡ got c) × (q ≡ next_line p (length l) 1) × (out' ≡ set out p.count (command_number c))
OwnRead K l f p out out' (Err x) = (own_command K (take f l) (parts_after f l) ≡ Parsed.refused (number_of x.refusal)) × (x.line ≡ p.line)

-- ---- The text

-- The tree of a text, whose commands are kept where the memory has room for all; or a refusal. What else is in the memory is left open: who lends it looks at the
-- first n numbers, and at none of them after a refusal.
unfoldable pub ProgramRead : ℕ → List ℕ → List ℕ → List ℕ → Result ℕ TextFault → Type 0
ProgramRead K s out out' (Ok n) = (b : Block) × (read_blocks K s ≡ tree b) × (n ≡ places b) × (n ≤ length out → take n out' ≡ map command_number (commands_of b))
ProgramRead K s out out' (Err x) = read_blocks K s ≡ refused_by x

-- ---- The commands that are made here

-- a target as a command's number has room for it; one beyond that is 0, and stands in a program that is too long
unfoldable pub near_by : ℕ → ℕ
near_by t = cond (ltb t 65536) t 0
