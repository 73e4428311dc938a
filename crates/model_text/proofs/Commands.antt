-- A command's text is read back as that command, by its row of the table; the bytes of its line.
use mathlib.Core.Path.{◌≡◌, refl, sym, ap, ◌∙◌}
use mathlib.Core.Bool.{Bool, true, false, cond}
use mathlib.Core.List.{List, [], ◌∷◌}
use Prim.Native.Nat.{ℕ, ◌+◌, ◌-◌, ◌≤◌}
use native.Mathlib.Omega.{arith}
use lib.{Dec.eqb, IntN.pos, ListN.length, ListN.length-map}
use borrow.Author.Tests.{eq-eqb}
use Rattle.model.specs.{Limits.variables, Parsed.got, Decimal.whole, Text.bytes, Text.same, Text.space}
use Rattle.model.specs.Accepted.{Within, row_for, ordinal, has, kept, Bare}
use Rattle.model.specs.Command.{Limits, table, blank, operand, operands, row_of, by_row, words, read_command}
use Rattle.model.specs.declared.{Command.Command, Op.Op, Operand.Operand}
use Rattle.model.specs.declared.Op.TheVariants.{Set, Add, Sub, Mul, Div, Read, Has, Put, Drop, IfNeg, IfZero, Jump, Receive, Send, Stop}
use Rattle.model.specs.declared.Operand.TheVariants.{InV, InW, InK, InT, InN}
use Rattle.model_text.specs.Text.{operand_text, operand_texts, command_text, command_line}
use Rattle.model_text.proofs.Bytes.{Spans, Free, spans-free, spans-wider, every_made}
use Rattle.model_text.proofs.Numbers.{Small, natural-read, whole-read, whole-spans}
use Rattle.model_text.proofs.Texts.{split-joined, spans-joined, named-printed}

-- ---- The rows of the table

-- at most how many bytes an operand takes with the space before it
abbrev pub widest : Operand → ℕ
widest InV = 2
widest InW = 2
widest InK = 2
widest InT = 3
widest InN = 12

unfoldable pub widest_parts : List Operand → ℕ
widest_parts [] = 0
widest_parts (o ∷ os) = widest o + widest_parts os

-- What is needed of a word's row: it is the word's own, the text of the word finds it, this text has small letters only, and with the row's operands it has
-- at most 17 bytes, as `set` has.
pub record InTable (o : Op) : Type 0 where
  pub own : (row_for o).op ≡ o
  pub found : row_of table (row_for o).word ≡ got (row_for o)
  pub letters : Spans 97 122 (row_for o).word
  pub short : length (row_for o).word + widest_parts (row_for o).parts ≤ 17

pub in_table : (o : Op) → InTable o
unfolding table row_for row_of same bytes widest_parts
in_table Set = record { own = refl; found = refl; letters = omega arith; short = omega arith }
in_table Add = record { own = refl; found = refl; letters = omega arith; short = omega arith }
in_table Sub = record { own = refl; found = refl; letters = omega arith; short = omega arith }
in_table Mul = record { own = refl; found = refl; letters = omega arith; short = omega arith }
in_table Div = record { own = refl; found = refl; letters = omega arith; short = omega arith }
in_table Read = record { own = refl; found = refl; letters = omega arith; short = omega arith }
in_table Has = record { own = refl; found = refl; letters = omega arith; short = omega arith }
in_table Put = record { own = refl; found = refl; letters = omega arith; short = omega arith }
in_table Drop = record { own = refl; found = refl; letters = omega arith; short = omega arith }
in_table IfNeg = record { own = refl; found = refl; letters = omega arith; short = omega arith }
in_table IfZero = record { own = refl; found = refl; letters = omega arith; short = omega arith }
in_table Jump = record { own = refl; found = refl; letters = omega arith; short = omega arith }
in_table Receive = record { own = refl; found = refl; letters = omega arith; short = omega arith }
in_table Send = record { own = refl; found = refl; letters = omega arith; short = omega arith }
in_table Stop = record { own = refl; found = refl; letters = omega arith; short = omega arith }

-- ---- The operands

operand-spans : (c : Command) (o : Operand) → Spans 45 57 (operand_text o c)
unfolding operand_text whole
operand-spans c InV = whole-spans (pos _)
operand-spans c InW = whole-spans (pos _)
operand-spans c InK = whole-spans (pos _)
operand-spans c InT = whole-spans (pos _)
operand-spans c InN = whole-spans c.n

-- d with these operands of c in place of its own
abbrev pub replaced : List Operand → Command → Command → Command
replaced os c d =
    record {
      op = d.op;
      v = cond (has os InV) c.v d.v;
      w = cond (has os InW) c.w d.w;
      k = cond (has os InK) c.k d.k;
      t = cond (has os InT) c.t d.t;
      n = cond (has os InN) c.n d.n;
    }

-- one operand, and then others, among which it may be again
replaced-part : {A : Type 0} (o p : Operand) (os : List Operand) (x y : A) → cond (has os p) x (cond (has (o ∷ []) p) x y) ≡ cond (has (o ∷ os) p) x y
unfolding has
replaced-part {A} o p os x y = go (eqb (ordinal o) (ordinal p)) (has os p)
  where
    go : (first later : Bool) → cond later x (cond (cond first true false) x y) ≡ cond (cond first true later) x y
    go true true = refl
    go true false = refl
    go false later = refl

replaced-more : (o : Operand) (os : List Operand) (c d : Command) → replaced os c (replaced (o ∷ []) c d) ≡ replaced (o ∷ os) c d
replaced-more o os c d i =
    record {
      op = d.op;
      v = replaced-part o InV os c.v d.v i;
      w = replaced-part o InW os c.w d.w i;
      k = replaced-part o InK os c.k d.k i;
      t = replaced-part o InT os c.t d.t i;
      n = replaced-part o InN os c.n d.n i;
    }

-- ---- A command within the limits

module _ (l : Limits) (c : Command) (keys : Small l.keys) (target : Small l.target) (h : Within l.keys l.target c) where
  operand_read : (o : Operand) (d : Command) → operand l o (operand_text o c) d ≡ got (replaced (o ∷ []) c d)
  unfolding operand operand_text has
  operand_read InV d = rw (natural-read (variables - 1) c.v (omega arith) (omega (arith, h.v)))
  operand_read InW d = rw (natural-read (variables - 1) c.w (omega arith) (omega (arith, h.w)))
  operand_read InK d = rw (natural-read (l.keys - 1) c.k (omega arith) (omega (arith, h.k)))
  operand_read InT d = rw (natural-read l.target c.t target h.t)
  operand_read InN d = rw (whole-read c.n h.n)

  operands-read : (os : List Operand) (d : Command) → operands l os (operand_texts os c) d ≡ got (replaced os c d)
  unfolding operands has
  operands-read [] d = refl
  operands-read (o ∷ os) d = rw (operand_read o d) (operands-read os (replaced (o ∷ []) c d) ∙ ap got (replaced-more o os c d))

  pub command-read : Bare c → read_command l (command_text c) ≡ got c
  unfolding read_command command_text words by_row kept
  command-read bare =
      let r = row_for c.op in
      let k = in_table c.op in
      let apart : (o : Operand) → Free space (operand_text o c) = λ o. spans-free 45 57 space (λ b. omega (arith, b.0)) (operand_text o c) (operand-spans c o) in
      let word : Free space r.word = spans-free 97 122 space (λ b. omega (arith, b.0)) r.word k.letters in
      ap (words l) (split-joined space r.word (operand_texts r.parts c) word (every_made (λ (o : Operand). operand_text o c) (Free space) apart r.parts))
      ∙ (rw (k.found, eq-eqb _ _ (sym (length-map r.parts (λ (o : Operand). operand_text o c)))) (operands-read r.parts (blank r.op)))
      ∙ ap (λ (o : Op). got (replaced r.parts c (blank o))) k.own
      ∙ ap got bare

-- ---- The bytes of a command line

command-spans : (c : Command) → Spans 32 126 (command_text c)
unfolding command_text
command-spans c =
    let r = row_for c.op in
    spans-joined 32 126 _ (omega arith) (r.word ∷ operand_texts r.parts c) (
      spans-wider 97 122 32 126 (omega arith) (omega arith) r.word (in_table c.op).letters,
      every_made (λ (o : Operand). operand_text o c) (Spans 32 126) (λ o. spans-wider 45 57 32 126 (omega arith) (omega arith) (operand_text o c) (operand-spans c o)) r.parts,
    )

pub command-printed : (c : Command) → Spans 32 126 (command_line c)
unfolding bytes
command-printed c = named-printed (bytes "do") (command_text c) (omega arith) (command-spans c)
