-- At most how many bytes message lines and command lines have.
use mathlib.Core.List.{List, [], ◌∷◌, map}
use Prim.Native.Nat.{ℕ, suc, ◌+◌, ◌-◌, ◌*◌, ◌<◌, ◌≤◌}
use native.Mathlib.{Omega.arith, Nat.mul-suc}
use lib.{IntN.ℤ, ListN.length, ListN.length-append, ListN.length-map}
use Rattle.model.specs.{Limits.most_commands, Text.bytes, Text.line_feed, Text.space, Text.comma, Text.colon, Text.equals_sign, Decimal.natural, Decimal.whole}
use Rattle.model.specs.Accepted.{Every, Full, Within, row_for}
use Rattle.model.specs.declared.{Entry.Entry, Command.Command, Operand.Operand}
use Rattle.model.specs.declared.Entry.TheVariants.{Absent, Number}
use Rattle.model.specs.declared.Operand.TheVariants.{InV, InW, InK, InT, InN}
use Rattle.model_text.specs.Text.{joined, unlines, named, pair_text, pairs, message_text, message_line, message_lines}
use Rattle.model_text.specs.Text.{operand_text, operand_texts, command_text, command_line, command_lines}
use Rattle.model_text.specs.Pasted.{longest_line, LinesShort, longest_command, CommandLinesShort}
use Rattle.model_text.proofs.{Bytes.every-made-from, Numbers.digit-length, Numbers.two_digits, Numbers.whole_length}
use Rattle.model_text.proofs.Commands.{widest, widest_parts, in_table}

-- a key of one digit, the colon, and a number of at most eleven bytes
abbrev Short : List ℕ → Type 0
Short p = length p ≤ 13

pub pair-short : (kv : ℕ × ℤ) → kv.0 < 10 → Short (pair_text kv)
unfolding pair_text
pair-short kv h = omega (arith, length-append (natural kv.0) (colon ∷ whole kv.1), digit-length kv.0 h, whole_length kv.1)

pub keys_below : (K i : ℕ) (es : List Entry) → i + length es ≤ K → Every (λ (kv : ℕ × ℤ). kv.0 < K) (pairs i es)
unfolding pairs
keys_below K i [] h = tt
keys_below K i (Absent ∷ es) h = keys_below K (suc i) es (omega arith)
keys_below K i (Number z ∷ es) h = (omega arith, keys_below K (suc i) es (omega arith))

pub pairs-most : (i : ℕ) (es : List Entry) → length (pairs i es) ≤ length es
unfolding pairs
pairs-most i [] = omega arith
pairs-most i (Absent ∷ es) = omega (arith, pairs-most (suc i) es)
pairs-most i (Number z ∷ es) = omega (arith, pairs-most (suc i) es)

-- and a byte between each two
joined-short : (c : ℕ) (ps : List (List ℕ)) → Every Short ps → length (joined c ps) ≤ 14 * length ps - 1
unfolding joined
joined-short c [] h = omega arith
joined-short c (p ∷ []) h = omega (arith, h.0)
joined-short c (p ∷ q ∷ ps) h = omega (arith, length-append p (c ∷ joined c (q ∷ ps)), joined-short c (q ∷ ps) h.1, h.0)

line-short : (K : ℕ) → K ≤ 8 → (es : List Entry) → Full K es → length (message_line es) < longest_line
unfolding named message_text bytes
line-short K l es h =
    let q = h.0 in
    let ps = map pair_text (pairs 0 es) in
    let s = joined-short comma ps (every-made-from pair_text Short (λ kv. kv.0 < 10) pair-short (pairs 0 es) (keys_below 10 0 es (omega arith))) in
    omega (arith, s, length-map (pairs 0 es) pair_text, pairs-most 0 es, length-append (bytes "msg") (equals_sign ∷ joined comma ps))

-- ---- Lines

-- lines that are written of things that P holds of, each with its line feed of at most so many bytes
pub unlines-short : {A : Type 0} (g : A → List ℕ) (P : A → Type 0) (most : ℕ) → ((x : A) → P x → length (g x) < most)
    → (xs : List A) → Every P xs → length (unlines (map g xs)) ≤ most * length xs
unfolding unlines
unlines-short g P most short [] h = omega arith
unlines-short g P most short (x ∷ xs) h =
    omega (arith, short x h.0, unlines-short g P most short xs h.1, length-append (g x) (line_feed ∷ unlines (map g xs)), mul-suc most (length xs))

pub lines-short : LinesShort
unfolding message_lines
lines-short K ms l h = unlines-short message_line (Full K) longest_line (line-short K l) ms h

-- ---- Command lines

module _ (K t : ℕ) (few : K ≤ 8) (near : t ≤ most_commands) (c : Command) (h : Within K t c) where
  operand_short : (o : Operand) → length (operand_text o c) < widest o
  unfolding operand_text
  operand_short InV = omega (arith, digit-length c.v (omega (arith, h.v)))
  operand_short InW = omega (arith, digit-length c.w (omega (arith, h.w)))
  operand_short InK = omega (arith, digit-length c.k (omega (arith, h.k)))
  operand_short InT = omega (arith, two_digits c.t (omega (arith, h.t)))
  operand_short InN = omega (arith, whole_length c.n)

  parts-short : (w : List ℕ) (os : List Operand) → length (joined space (w ∷ operand_texts os c)) ≤ length w + widest_parts os
  unfolding joined widest_parts
  parts-short w [] = omega arith
  parts-short w (o ∷ os) = omega (arith, length-append w (space ∷ joined space (operand_texts (o ∷ os) c)), parts-short (operand_text o c) os, operand_short o)

  command-short : length (command_line c) < longest_command
  unfolding named command_text bytes
  command-short =
      let r = row_for c.op in
      omega (arith, (in_table c.op).short, parts-short r.word r.parts, length-append (bytes "do") (equals_sign ∷ joined space (r.word ∷ operand_texts r.parts c)))

pub command-lines-short : CommandLinesShort
unfolding command_lines
command-lines-short K t cs few near h = unlines-short command_line (Within K t) longest_command (command-short K t few near) cs h
