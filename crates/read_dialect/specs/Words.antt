-- What the code says of the dialect's words.
use Rattle.std.specs.Prelude.{ℕ, Bool, false, cond, not, List}
use lib.{Dec.eqb}
use Rattle.model.specs.{Parsed.Parsed, Parsed.got, Text.bytes}
use Rattle.model.specs.declared.{Op.Op, Operand.Operand}
use Rattle.model_blocks.specs.Block.{way_of, allowed}
use Rattle.model_blocks.specs.Dialect.{BlockWord, if_word, else_word, while_word, end_word, other_word}
use Rattle.read_command.specs.Code.{code_of}
use Rattle.read_dialect.specs.declared.LineWord.{LineWord}
use Rattle.read_dialect.specs.declared.LineWord.TheVariants.{If, Else, While, End, Other}

abbrev pub said_as : LineWord → BlockWord
said_as If = if_word
said_as Else = else_word
said_as While = while_word
said_as End = end_word
said_as Other = other_word

-- which of the four words has the number x
unfoldable pub by_code : ℕ → BlockWord
by_code x =
    cond (eqb x (code_of (bytes "if"))) if_word
    (cond (eqb x (code_of (bytes "else"))) else_word
    (cond (eqb x (code_of (bytes "while"))) while_word
    (cond (eqb x (code_of (bytes "end"))) end_word
    other_word)))

-- a command of the table that goes to a target
abbrev pub goes_elsewhere : Op → Bool
goes_elsewhere o = not (allowed (way_of o))

-- a word of the table that the dialect leaves out
abbrev pub left_out : Parsed (Op × List Operand) → Bool
left_out (got x) = goes_elsewhere x.0
left_out (Parsed.refused n) = false
