-- The refusals of a text with blocks, with their lines; that they depend on it alone; and that 53 comes after them.
use Prim.Native.Nat.{ℕ, suc, ◌+◌, ◌-◌, ◌<◌, ◌≤◌}
use mathlib.Core.Path.{◌≡◌, refl, sym, ap, ◌∙◌, subst}
use mathlib.Core.Bool.{Bool, true, false, cond}
use mathlib.Core.Logic.{◌⊎◌, inl, inr}
use mathlib.Core.List.{List, [], ◌∷◌}
use native.Mathlib.{Omega.arith, Decide.dec_le}
use lib.{Dec.eqb, Dec.leb, Dec.ltb, ListN.length}
use borrow.Author.Tests.{leb-true, leb-false}
use Rattle.model.specs.{Limits.variables, Limits.most_keys, Limits.most_commands, Parsed.Parsed, Parsed.got, Parsed.◌>>◌, Text.class_of, Text.forbidden_class, Text.line_feed}
use Rattle.model.specs.{Text.grow, Text.split, Text.space, Text.init, Text.lines, Text.count, Text.between, Command.table, Command.row_of, Command.limits}
use Rattle.model.specs.{Sheet.forbidden_line, Sheet.closed, Written.Draft, Written.Written, Written.write}
use Rattle.model.specs.Parsed as Parsed
use Rattle.model.specs.Written as Written
use Rattle.model.proofs.{Refused.Refuses, Refused.bind-refuses, Refused.need-refuses, Refused.up-to-refuses, Refused.row-refuses, Refused.by-row-refuses}
use Rattle.model.proofs.Written.{write-refused, write-fits, write-short}
use Rattle.model_text.specs.Text.{command_lines}
use Rattle.model_blocks.specs.Block.{Block, way_of, allowed, places, commands_of}
use Rattle.model_blocks.specs.Dialect.{BlockWord, if_word, else_word, while_word, end_word, other_word, block_word, own_command, tested, alone, Opener, in_if, in_else, in_while}
use Rattle.model_blocks.specs.Dialect.{OpenBlock, Standing, nothing_open, deepest, on_opening, innermost, behind_else, on_else, on_end, line_by, line_in, block_line}
use Rattle.model_blocks.specs.Dialect.{BlocksRead, tree, refused, at_line, at_last, read_from, read_blocks, draft, write_blocks}
use Rattle.model_blocks.specs.Claims.{OfALine, InText, KnownRefusal, OnlyThese, TextAlone, LimitLast, Enough}
use Rattle.model_blocks.proofs.Sheet.{blocks-short}

-- ---- A line

abbrev Line : {A : Type 0} → Parsed A → Type 0
Line x = Refuses OfALine x

four : OfALine 4
four = inr (inl refl)

six : OfALine 6
six = inr (inr (inl refl))

fifty-one : OfALine 51
fifty-one = inr (inr (inr (inl refl)))

fifty-two : OfALine 52
fifty-two = inr (inr (inr (inr refl)))

tested-refuses : (ps : List (List ℕ)) → Line (tested ps)
unfolding tested
tested-refuses [] = six
tested-refuses (p ∷ []) = up-to-refuses OfALine four (variables - 1) p
tested-refuses (p ∷ q ∷ ps) = six

alone-refuses : {A : Type 0} (ps : List (List ℕ)) (a : A) → Line (alone ps >> got a)
unfolding alone
alone-refuses [] a = tt
alone-refuses (p ∷ ps) a = six

own-refuses : (K : ℕ) (w : List ℕ) (ps : List (List ℕ)) → Line (own_command K w ps)
unfolding own_command
own-refuses K w ps =
    bind-refuses OfALine (row_of table w) _ (row-refuses OfALine six table w) (λ r.
    need-refuses OfALine (allowed (way_of r.op)) 6 _ (λ e. six) (λ e. by-row-refuses OfALine four six (limits K 0) r.op r.parts ps))

innermost-refuses : (bs : List OpenBlock) → Line (innermost bs)
innermost-refuses [] = fifty-one
innermost-refuses (b ∷ bs) = tt

behind-refuses : (k : Opener) (a : Block) → Line (behind_else k a)
behind-refuses (in_if v) a = tt
behind-refuses (in_else v first) a = fifty-one
behind-refuses (in_while v) a = fifty-one

opening-refuses : (k : ℕ → Opener) (ps : List (List ℕ)) (o : Standing) → Line (on_opening k ps o)
unfolding on_opening
opening-refuses k ps o =
    need-refuses OfALine (ltb (length o.blocks) deepest) 52 _ (λ e. fifty-two) (λ e. bind-refuses OfALine (tested ps) _ (tested-refuses ps) (λ v. tt))

line-by-refuses : (K : ℕ) (t : BlockWord) (w : List ℕ) (ps : List (List ℕ)) (o : Standing) → Line (line_by K t w ps o)
unfolding line_by on_else on_end
line-by-refuses K if_word w ps o = opening-refuses in_if ps o
line-by-refuses K else_word w ps o =
    bind-refuses OfALine (innermost o.blocks) _ (innermost-refuses o.blocks) (λ x.
    bind-refuses OfALine (behind_else x.0.opener o.sofar) _ (behind-refuses x.0.opener o.sofar) (λ k. alone-refuses ps _))
line-by-refuses K while_word w ps o = opening-refuses in_while ps o
line-by-refuses K end_word w ps o = bind-refuses OfALine (innermost o.blocks) _ (innermost-refuses o.blocks) (λ x. alone-refuses ps _)
line-by-refuses K other_word w ps o = bind-refuses OfALine (own_command K w ps) _ (own-refuses K w ps) (λ c. tt)

line-in-refuses : (K : ℕ) (ps : List (List ℕ)) (o : Standing) → Line (line_in K ps o)
line-in-refuses K [] o = six
line-in-refuses K (w ∷ ps) o = line-by-refuses K (block_word w) w ps o

line-refuses : (K : ℕ) (l : List ℕ) (o : Standing) → Line (block_line K l o)
unfolding block_line
line-refuses K l o = line-in-refuses K (split space l) o

-- ---- The lines

-- in a text of so many lines the refusal is a known one, if there is one
abbrev Known : ℕ → BlocksRead → Type 0
Known most (tree b) = Unit {0}
Known most (refused n l) = KnownRefusal most n l

module _ (most : ℕ) where
  at-line-known : (n : ℕ) (x : Parsed Standing) (f : Standing → BlocksRead) → InText most n → Line x → ((o : Standing) → Known most (f o)) → Known most (at_line n x f)
  at-line-known n (got o) f i h k = k o
  at-line-known n (Parsed.refused r) f i h k = inr (h, i)

  at-last-known : (n : ℕ) (bs : List OpenBlock) (b : Block) → InText most n → Known most (at_last n bs b)
  at-last-known n [] b i = tt
  at-last-known n (x ∷ xs) b i = inr (fifty-one, i)

  from-known : (K n : ℕ) (o : Standing) (ls : List (List ℕ)) → 1 ≤ n → n + length ls ≡ most + 1 → Known most (read_from K n o ls)
  unfolding read_from
  from-known K n o [] h e = at-last-known n o.blocks o.sofar (h, omega arith)
  from-known K n o (l ∷ ls) h e =
      at-line-known n (block_line K l o) _ (h, omega arith) (line-refuses K l o) (λ p. from-known K (n + 1) p ls (omega arith) (omega arith))

split-length : (c : ℕ) (s : List ℕ) → length (split c s) ≡ suc (count c s)
unfolding split count
split-length c [] = refl
split-length c (b ∷ s) = go (eqb b c) (split c s) (split-length c s)
  where
    go : (t : Bool) (ps : List (List ℕ)) → length ps ≡ suc (count c s) → length (grow t b ps) ≡ suc (cond t (suc (count c s)) (count c s))
    go true ps h = ap suc h
    go false [] h = absurd (omega arith)
    go false (p ∷ ps) h = h

init-length : (ps : List (List ℕ)) → length (init ps) ≡ length ps - 1
unfolding init
init-length [] = refl
init-length (p ∷ []) = refl
init-length (p ∷ q ∷ ps) = omega (arith, init-length (q ∷ ps))

-- as many lines as line feeds
lines-length : (s : List ℕ) → length (lines s) ≡ count line_feed s
unfolding lines
lines-length s = omega (arith, init-length (split line_feed s), split-length line_feed s)

-- a forbidden byte stands in one of the lines, or behind the last
forbidden-most : (n : ℕ) (s : List ℕ) → forbidden_line n s ≤ n + count line_feed s
unfolding forbidden_line count
forbidden-most n [] = omega arith
forbidden-most n (b ∷ s) = go (eqb (class_of b) forbidden_class) (eqb b line_feed) (forbidden-most n s) (forbidden-most (n + 1) s)
  where
    go : (t u : Bool) → forbidden_line n s ≤ n + count line_feed s → forbidden_line (n + 1) s ≤ n + 1 + count line_feed s
        → cond t n (forbidden_line (cond u (n + 1) n) s) ≤ n + cond u (suc (count line_feed s)) (count line_feed s)
    go true u h k = omega arith
    go false true h k = omega arith
    go false false h k = h

-- ---- The text

choice : {A : Type 0} (P : A → Type 0) (t : Bool) (x y : A) → (t ≡ true → P x) → (t ≡ false → P y) → P (cond t x y)
choice P true x y h k = h refl
choice P false x y h k = k refl

text-known : (K : ℕ) (s : List ℕ) → Known (count line_feed s) (read_blocks K s)
unfolding read_blocks
text-known K s =
    let most = count line_feed s in
    let f = forbidden_line 1 s in
    choice (Known most) (between 1 most_keys K) _ _
    (λ e.
    choice (Known most) (leb 1 f) _ _ (λ q. inr (inl refl, (leb-true 1 f q, omega (arith, forbidden-most 1 s))))
    (λ q.
    choice (Known most) (closed s) _ _ (λ r. from-known most K 1 nothing_open (lines s) (omega arith) (omega (arith, lines-length s)))
    (λ r. inr (inl refl, (omega arith, omega arith)))))
    (λ e. inl (refl, refl))

pub only-these : OnlyThese
only-these K s n l e = subst (Known (count line_feed s)) e (text-known K s)

pub text-alone : TextAlone
unfolding write_blocks
text-alone K s n l e m = ap (λ (x : BlocksRead). (write 53 m (draft x)).answer) e ∙ ap (λ (w : Written). w.answer) (write-refused 53 m n l)

-- ---- 53

no_room : (m s : List ℕ) → (write 53 m (Written.text s)).answer.number ≡ 53 → ((write 53 m (Written.text s)).answer.line ≡ 0) × (length m < length s)
no_room m s e = go (dec_le (length s) (length m))
  where
    go : Dec (length s ≤ length m) → ((write 53 m (Written.text s)).answer.line ≡ 0) × (length m < length s)
    go (yes l) = absurd (omega (arith, sym (ap (λ (w : Written). w.answer.number) (write-fits 53 m s l)) ∙ e))
    go (no l) = (ap (λ (w : Written). w.answer.line) (write-short 53 m s (omega arith)), omega arith)

-- what there is to write, by the test of the count
abbrev counted : Block → Bool → Draft
counted b t = cond t (Written.text (command_lines (commands_of b))) (Written.refused 53 0)

abbrev Cause : List ℕ → Block → Type 0
Cause m b = (most_commands < places b) ⊎ (length m < length (command_lines (commands_of b)))

-- of a text whose own refusal is another
last-by : (m : List ℕ) (x : BlocksRead) → ((n l : ℕ) → x ≡ refused n l → n ≡ 53 → ⊥) → (write 53 m (draft x)).answer.number ≡ 53
    → ((write 53 m (draft x)).answer.line ≡ 0) × ((b : Block) × (x ≡ tree b) × Cause m b)
last-by m (refused n l) other e = absurd (other n l refl (sym (ap (λ (w : Written). w.answer.number) (write-refused 53 m n l)) ∙ e))
last-by m (tree b) other e = go (leb (places b) most_commands) refl e
  where
    go : (t : Bool) → leb (places b) most_commands ≡ t → (write 53 m (counted b t)).answer.number ≡ 53
        → ((write 53 m (counted b t)).answer.line ≡ 0) × ((d : Block) × (tree b ≡ tree d) × Cause m d)
    go true q e = let h = no_room m (command_lines (commands_of b)) e in (h.0, (b, refl, inr h.1))
    go false q e = (ap (λ (w : Written). w.answer.line) (write-refused 53 m 53 0), (b, refl, inl (leb-false (places b) most_commands q)))

not-of-a-line : (n most l : ℕ) → KnownRefusal most n l → n ≡ 53 → ⊥
not-of-a-line n most l (inl h) e = omega (arith, h.0)
not-of-a-line n most l (inr h) e = go h.0
  where
    go : OfALine n → ⊥
    go (inl p) = omega arith
    go (inr (inl p)) = omega arith
    go (inr (inr (inl p))) = omega arith
    go (inr (inr (inr (inl p)))) = omega arith
    go (inr (inr (inr (inr p)))) = omega arith

pub limit-last : LimitLast
unfolding write_blocks
limit-last K s m e = last-by m (read_blocks K s) (λ n l q. not-of-a-line n (count line_feed s) l (only-these K s n l q)) e

pub enough : Enough
enough K s m long e = let h = (limit-last K s m e).1 in (h.0, h.1, go h.0 h.1 h.2)
  where
    go : (b : Block) → read_blocks K s ≡ tree b → Cause m b → most_commands < places b
    go b q (inl more) = more
    go b q (inr short) = more (dec_le (places b) most_commands)
      where
        more : Dec (places b ≤ most_commands) → most_commands < places b
        more (yes l) = absurd (omega (arith, blocks-short K s b q l))
        more (no l) = omega arith
