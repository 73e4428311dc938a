-- A command's text as a word and what follows it, and lines one by one.
use mathlib.Core.Path.{◌≡◌, refl}
use mathlib.Core.List.{List, [], ◌∷◌, ◌++◌}
use Prim.Native.Nat.{ℕ, ◌+◌, ◌<◌, ◌≤◌}
use native.Mathlib.Numerals.{add-one}
use lib.{ListN.length, ListN.get_or, ListN.drop, ListN.drop_of_length-le, Seq.drop-cons}
use Rattle.model.specs.{Text.space, Text.bytes, Text.line_feed, Command.blank, Accepted.row_for}
use Rattle.model.specs.declared.{Command.Command, Op.TheVariants.Set, Operand.Operand, Operand.TheVariants.InV}
use Rattle.model_text.specs.Text.{prefixed, unlines, named, operand_text, operand_texts, command_text, command_line, command_lines}
use Rattle.model_text.proofs.Texts.{joined-prefixed, unlines-more, unlines-end}

-- the letters of the word's row, and the operands behind them
pub text_parts : (c : Command) (w : List ℕ) (os : List Operand) → w ≡ (row_for c.op).word → os ≡ (row_for c.op).parts → command_text c ≡ w ++ prefixed space (operand_texts os c)
unfolding command_text
text_parts c w os e f = rw (e, f) (joined-prefixed space (row_for c.op).word (operand_texts (row_for c.op).parts c))

-- `do=`, as the code has it
abbrev pub do_name : List ℕ
do_name = 100 ∷ 111 ∷ 61 ∷ []

-- the name with its equals sign, what follows it, the line feed
pub command_parts : (c : Command) → command_lines (c ∷ []) ≡ do_name ++ (command_text c ++ (line_feed ∷ []))
unfolding command_lines unlines named bytes
command_parts c = refl

-- ---- What follows a word, operand by operand

module _ (c : Command) (os : List Operand) (i : ℕ) where
  pub operands_more : i < length os → prefixed space (operand_texts (drop i os) c) ≡ (space ∷ operand_text (get_or os i InV) c) ++ prefixed space (operand_texts (drop (i + 1) os) c)
  unfolding prefixed
  operands_more h = rw (add-one i, drop-cons os i InV h)

  pub operands_end : length os ≤ i → prefixed space (operand_texts (drop i os) c) ≡ []
  unfolding prefixed
  operands_end h = rw (drop_of_length-le os h)

-- ---- Lines, command by command

module _ (cs : List Command) (i : ℕ) where
  pub commands_more : i < length cs → command_lines (drop i cs) ≡ command_lines (get_or cs i (blank Set) ∷ []) ++ command_lines (drop (i + 1) cs)
  unfolding command_lines
  commands_more h = unlines-more command_line cs i (blank Set) h

  pub commands_end : length cs ≤ i → command_lines (drop i cs) ≡ []
  unfolding command_lines
  commands_end h = unlines-end command_line cs i h
