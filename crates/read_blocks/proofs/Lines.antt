-- What one line makes of where reading stands.
use Prim.Native.Nat.{ℕ, zero, suc, ◌<◌, ◌≤◌}
use mathlib.Core.Path.{◌≡◌, refl, sym, ap, ◌∙◌}
use mathlib.Core.Bool.{Bool, true, false, true≢false}
use mathlib.Core.List.{List, [], ◌∷◌}
use native.Mathlib.Omega.{arith}
use lib.{ListN.length, ListN.take, ListN.drop, ListN.length-drop, Seq.length-take-le}
use borrow.Author.Tests.{lt-ltb, le-ltb}
use Rattle.model.specs.{Parsed.Parsed, Parsed.got, Text.bytes, Text.same, Text.space}
use Rattle.model.specs.Refusal.{number_of}
use Rattle.model.specs.declared.{Command.Command, Refusal.Refusal, TextFault.TextFault}
use Rattle.model.specs.declared.Refusal.TheVariants.{TooDeep}
use Rattle.model_blocks.specs.Block.{Block, own, empty, ◌then◌}
use Rattle.model_blocks.specs.Dialect.{BlockWord, if_word, else_word, while_word, end_word, other_word, block_word, own_command, tested, alone, Opener, in_if, in_else, in_while, OpenBlock}
use Rattle.model_blocks.specs.Dialect.{Standing, adding, opening, deepest, on_opening, on_else, closed_block, on_end, line_by, block_line, tree, refused, at_line, read_from}
use Rattle.model_text.proofs.LineLaws.{split-some}
use Rattle.read_command.specs.Command.{parts_after}
use Rattle.read_command.proofs.Laws.{split-word, parts_none, parts-behind, behind}
use Rattle.read_blocks.specs.Blocks.{next_line, fault, LineAt, NoMore, reading, refused_by, RefusedFrom, opener_word}
use Rattle.read_blocks.specs.declared.{Mark.Mark, Line.Line}

-- ---- Which parts there are

pub alone-yes : (l : List ℕ) (f : ℕ) → length l ≤ f → alone (parts_after f l) ≡ got tt
unfolding alone
alone-yes l f h = ap alone (parts_none l f h)

pub alone-no : (l : List ℕ) (f : ℕ) → f < length l → alone (parts_after f l) ≡ Parsed.refused 6
unfolding alone
alone-no l f h = let s = split-some space (behind l f) in rw (parts-behind l f h, s.2)

-- ---- A line of the text

module _ (K : ℕ) (s : List ℕ) where
  -- the text is over
  pub over-open : (p : Mark) → NoMore s p → (b : OpenBlock) (bs : List OpenBlock) (a : Block) → reading K s p (record { blocks = b ∷ bs; sofar = a }) ≡ refused 51 p.line
  unfolding read_from
  over-open p h b bs a = rw h

  pub over_none : (p : Mark) → NoMore s p → (a : Block) → reading K s p (record { blocks = []; sofar = a }) ≡ tree a
  unfolding read_from
  over_none p h a = rw h

  module _ {p : Mark} {l : Line} {w : BlockWord} (h : LineAt s p l w) where
    abbrev line : List ℕ
    line = take l.end (drop p.at s)

    pub line-length : length line ≡ l.end
    line-length = length-take-le l.end (drop p.at s) (omega (arith, h.inside, length-drop p.at s))

    -- what the line says, and then the lines from the next one on
    abbrev said : Standing → Parsed Standing
    said o = line_by K w (take l.word line) (parts_after l.word line) o

    pub line_reads : (more : ℕ) (o : Standing) → reading K s p o ≡ at_line p.line (said o) (reading K s (next_line p l.end more))
    unfolding read_from block_line
    line_reads more o = rw (h.first, split-word line l.word h.word, h.says)

    pub line_refused : (o : Standing) (r : ℕ) → said o ≡ Parsed.refused r → reading K s p o ≡ refused r p.line
    line_refused o r q = line_reads 0 o ∙ ap (λ (x : Parsed Standing). at_line p.line x (reading K s (next_line p l.end 0))) q

    pub line-got : (more : ℕ) (o o' : Standing) → said o ≡ got o' → reading K s p o ≡ reading K s (next_line p l.end more) o'
    line-got more o o' q = line_reads more o ∙ ap (λ (x : Parsed Standing). at_line p.line x (reading K s (next_line p l.end more))) q

-- ---- Each kind of line, where d blocks are open

-- what opens a block on v
abbrev pub opener_of : Bool → ℕ → Opener
opener_of true v = in_while v
opener_of false v = in_if v

said-opens : (K : ℕ) (looping : Bool) (w : List ℕ) (ps : List (List ℕ)) (o : Standing) → line_by K (opener_word looping) w ps o ≡ on_opening (opener_of looping) ps o
unfolding line_by
said-opens K true w ps o = refl
said-opens K false w ps o = refl

module _ (K d : ℕ) (s : List ℕ) (p : Mark) (ln : Line) where
  abbrev here : List ℕ
  here = take ln.end (drop p.at s)

  -- a command of the dialect's own
  module _ (h : LineAt s p ln other_word) where
    pub own-refused : (r : Refusal) → own_command K (take ln.word here) (parts_after ln.word here) ≡ Parsed.refused (number_of r) → RefusedFrom K d s p (fault p r)
    unfolding line_by
    own-refused r q o k = line_refused K s h o (number_of r) (rw q)

    pub own_read : (c : Command) → own_command K (take ln.word here) (parts_after ln.word here) ≡ got c → (o : Standing)
        → reading K s p o ≡ reading K s (next_line p ln.end 1) (adding (own c empty) o)
    unfolding line_by
    own_read c q o = line-got K s h 1 o _ (rw q)

  -- `if v` and `while v`
  module _ (looping : Bool) (h : LineAt s p ln (opener_word looping)) where
    pub opens-deep : deepest ≤ d → {x : TextFault} → x ≡ fault p TooDeep → RefusedFrom K d s p x
    unfolding on_opening
    opens-deep l e o k = line_refused K s h o 52 (said-opens K looping _ _ o ∙ rw (k, le-ltb _ _ l)) ∙ ap refused_by (sym e)

    module _ (l : d < deepest) where
      pub opens-bad : (r : Refusal) → tested (parts_after ln.word here) ≡ Parsed.refused (number_of r) → {x : TextFault} → x ≡ fault p r → RefusedFrom K d s p x
      unfolding on_opening
      opens-bad r q e o k = line_refused K s h o (number_of r) (said-opens K looping _ _ o ∙ rw (k, lt-ltb _ _ l, q)) ∙ ap refused_by (sym e)

      pub opens-read : (v : ℕ) → tested (parts_after ln.word here) ≡ got v → (o : Standing) → length o.blocks ≡ d
          → reading K s p o ≡ reading K s (next_line p ln.end 1) (opening (opener_of looping v) o)
      unfolding on_opening
      opens-read v q o k = line-got K s h 1 o _ (said-opens K looping _ _ o ∙ rw (k, lt-ltb _ _ l, q))

  -- `end`: the innermost block is b
  module _ (h : LineAt s p ln end_word) where
    pub end_none : (a : Block) → reading K s p (record { blocks = []; sofar = a }) ≡ refused 51 p.line
    unfolding line_by on_end
    end_none a = line_refused K s h _ 51 refl

    module _ (b : OpenBlock) (bs : List OpenBlock) (a : Block) where
      pub end-bad : ln.word < ln.end → reading K s p (record { blocks = b ∷ bs; sofar = a }) ≡ refused 6 p.line
      unfolding line_by on_end
      end-bad z = line_refused K s h _ 6 (rw (alone-no here ln.word (omega (arith, line-length K s h))))

      pub end_read : ln.end ≤ ln.word → (more : ℕ) → reading K s p (record { blocks = b ∷ bs; sofar = a })
          ≡ reading K s (next_line p ln.end more) (record { blocks = bs; sofar = b.before then closed_block b.opener a })
      unfolding line_by on_end
      end_read z more = line-got K s h more _ _ (rw (alone-yes here ln.word (omega (arith, line-length K s h))))

  -- `else`
  module _ (h : LineAt s p ln else_word) where
    pub else-none : (a : Block) → reading K s p (record { blocks = []; sofar = a }) ≡ refused 51 p.line
    unfolding line_by on_else
    else-none a = line_refused K s h _ 51 refl

    module _ (v : ℕ) (before : Block) (bs : List OpenBlock) (a : Block) where
      abbrev within : Opener → Standing
      within k = record { blocks = record { opener = k; before = before } ∷ bs; sofar = a }

      pub else-while : reading K s p (within (in_while v)) ≡ refused 51 p.line
      unfolding line_by on_else
      else-while = line_refused K s h _ 51 refl

      pub else-else : (first : Block) → reading K s p (within (in_else v first)) ≡ refused 51 p.line
      unfolding line_by on_else
      else-else first = line_refused K s h _ 51 refl

      pub else-bad : ln.word < ln.end → reading K s p (within (in_if v)) ≡ refused 6 p.line
      unfolding line_by on_else
      else-bad z = line_refused K s h _ 6 (rw (alone-no here ln.word (omega (arith, line-length K s h))))

      pub else-read : ln.end ≤ ln.word → (more : ℕ) → reading K s p (within (in_if v))
          ≡ reading K s (next_line p ln.end more) (record { blocks = record { opener = in_else v a; before = before } ∷ bs; sofar = empty })
      unfolding line_by on_else
      else-read z more = line-got K s h more _ _ (rw (alone-yes here ln.word (omega (arith, line-length K s h))))

-- ---- A line with one of the four words is not empty

abbrev pub no_word : BlockWord → Bool
no_word if_word = false
no_word else_word = false
no_word while_word = false
no_word end_word = false
no_word other_word = true

word-empty : (f : ℕ) → block_word (take f []) ≡ other_word
unfolding block_word bytes same
word-empty zero = refl
word-empty (suc f) = refl

long : (l : List ℕ) (f e : ℕ) (w : BlockWord) → block_word (take f (take e l)) ≡ w → no_word w ≡ false → 1 ≤ e
long l f zero w h n = absurd (true≢false (ap no_word (sym (word-empty f) ∙ h) ∙ n))
long l f (suc e) w h n = omega arith

pub line-long : (s : List ℕ) {p : Mark} {l : Line} {w : BlockWord} → LineAt s p l w → no_word w ≡ false → 1 ≤ l.end
line-long s {p} {l} {w} h n = long (drop p.at s) l.word l.end w h.says n
