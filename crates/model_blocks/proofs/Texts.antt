-- The text of a program is read as that program.
use Prim.Native.Nat.{ℕ, ◌+◌, ◌-◌, ◌<◌, ◌≤◌}
use mathlib.Core.Path.{◌≡◌, refl, sym, ap, ◌∙◌, subst}
use mathlib.Core.Bool.{Bool, true, false}
use mathlib.Core.List.{List, [], ◌∷◌, ◌++◌, map, append_assoc, append-nil}
use native.Mathlib.Omega.{arith}
use lib.{ListN.length}
use borrow.Author.Tests.{lt-ltb, le-leb}
use Rattle.model.specs.{Limits.variables, Limits.most_keys, Parsed.got, Text.bytes, Text.same, Text.split, Text.space, Text.free, Text.init, Text.lines, Text.line_feed, Decimal.natural}
use Rattle.model.specs.{Command.Row, Command.table, Command.row_of, Command.limits, Command.words, Command.read_command, Sheet.forbidden_line, Sheet.closed, Accepted.Every}
use Rattle.model.specs.Parsed as Parsed
use Rattle.model.specs.declared.{Op.Op, Command.Command}
use Rattle.model.proofs.{Parsed.never, Parsed.bind-got, Accepted.row-command}
use Rattle.model_text.proofs.LineLaws.{same-eq}
use Rattle.model_text.specs.Text.{joined, unlines, named, command_text}
use Rattle.model_text.proofs.Bytes.{Spans, Free, spans-wider, spans-free, every_made, every-imply}
use Rattle.model_text.proofs.{Numbers.natural-read, Numbers.natural-spans, Commands.command-read, Commands.command-printed}
use Rattle.model_text.proofs.Texts.{split-joined, spans-joined, lines-unlines, closed-behind, closed-append, lines-allowed}
use Rattle.model_blocks.specs.Block.{Block, empty, own, if_only, if_else, while, way_of, allowed, places, ◌then◌}
use Rattle.model_blocks.specs.Dialect.{other_word, block_word, own_command, tested, alone, Opener, in_if, in_else, in_while, Standing, nothing_open, adding, opening}
use Rattle.model_blocks.specs.Dialect.{deepest, on_opening, on_else, closed_block, on_end, line_by, line_in, block_line, tree, read_from, read_blocks}
use Rattle.model_blocks.specs.{Agreement.InDialect, Claims.depth, Claims.Operands, Claims.LineSaid, Claims.says_own, Claims.says_if, Claims.says_while, Claims.says_else}
use Rattle.model_blocks.specs.Claims.{says_end, tree_lines, said_text, block_text, EveryProgram}
use Rattle.model_blocks.proofs.{Own.OwnOf, Behind.then-empty, Behind.then-assoc}

-- ---- A command of document 01 that goes to no target

-- a word of the table is none of the other four
module _ (w : List ℕ) (r : Row) (e : row_of table w ≡ got r) where
  differs : (u : List ℕ) → row_of table u ≡ Parsed.refused 6 → same w u ≡ false
  differs u none = go (same w u) refl
    where
      go : (t : Bool) → same w u ≡ t → t ≡ false
      go true q = never (sym none ∙ ap (row_of table) (sym (same-eq w u q)) ∙ e)
      go false q = refl

  other_word-is : block_word w ≡ other_word
  unfolding block_word table row_of same bytes
  other_word-is = rw (differs (bytes "if") refl, differs (bytes "else") refl, differs (bytes "while") refl, differs (bytes "end") refl)

module _ (K : ℕ) (some : 1 ≤ K) (few : K ≤ most_keys) (c : Command) (h : OwnOf K c) (o : Standing) where
  own_in : (ps : List (List ℕ)) → words (limits K 0) ps ≡ got c → line_in K ps o ≡ got (adding (own c empty) o)
  unfolding words line_by own_command
  own_in [] e = never e
  own_in (w ∷ ps) e =
      let p = bind-got (row_of table w) _ c e in
      let r = row-command (limits K 0) some w p.0 ps c p.1 p.2 in
      let q : allowed (way_of p.0.op) ≡ true = ap (λ (x : Op). allowed (way_of x)) (sym r.0) ∙ h.stays in
      rw (other_word-is w p.0 p.1, p.1, q, p.2)

  line-own : block_line K (said_text (says_own c)) o ≡ got (adding (own c empty) o)
  unfolding said_text read_command block_line
  line-own = own_in (split space (command_text c)) (command-read (limits K 0) c (omega arith) (omega arith) h.within h.bare)

-- ---- `if v` and `while v`

module _ (K v : ℕ) (h : v < variables) (o : Standing) (l : length o.blocks < deepest) where
  opens : (k : ℕ → Opener) (w : List ℕ) → Free space w → line_by K (block_word w) w (natural v ∷ []) o ≡ on_opening k (natural v ∷ []) o
      → block_line K (joined space (w ∷ natural v ∷ [])) o ≡ got (opening (k v) o)
  unfolding block_line on_opening tested
  opens k w f e =
      let apart = spans-free 48 57 space (λ b. omega (arith, b.0)) (natural v) (natural-spans v) in
      ap (λ (ps : List (List ℕ)). line_in K ps o) (split-joined space w (natural v ∷ []) f (apart, tt))
      ∙ e
      ∙ rw (lt-ltb _ _ l, natural-read (variables - 1) v (omega arith) (omega arith))

  line-if : block_line K (said_text (says_if v)) o ≡ got (opening (in_if v) o)
  unfolding said_text line_by block_word same bytes free
  line-if = opens in_if (bytes "if") refl refl

  line-while : block_line K (said_text (says_while v)) o ≡ got (opening (in_while v) o)
  unfolding said_text line_by block_word same bytes free
  line-while = opens in_while (bytes "while") refl refl

-- ---- The lines of a tree

module _ (K : ℕ) (some : 1 ≤ K) (few : K ≤ most_keys) (t : Block) where
  -- these lines give the tree t, from where reading stands
  record Gives (o : Standing) (xs : List LineSaid) : Type 0 where
    reads : (n : ℕ) → read_from K n o (map said_text xs) ≡ tree t

  gives_line : (x : LineSaid) (o p : Standing) (xs : List LineSaid) → block_line K (said_text x) o ≡ got p → Gives p xs → Gives o (x ∷ xs)
  unfolding read_from
  gives_line x o p xs e g = record { reads = λ n. rw e (g.reads (n + 1)) }

  -- what is closed, and then the rest of the block around it
  gives_then : (a b : Block) (o : Standing) (xs : List LineSaid) → Gives (adding (a then b) o) xs → Gives (adding b (adding a o)) xs
  gives_then a b o xs g = subst (λ (x : Block). Gives (record { blocks = o.blocks; sofar = x }) xs) (sym (then-assoc o.sofar a b)) g

  gives-end : (k : Opener) (a : Block) (o : Standing) (xs : List LineSaid) → Gives (adding (closed_block k a) o) xs → Gives (adding a (opening k o)) (says_end ∷ xs)
  unfolding said_text block_line split block_word same bytes line_by on_end alone ◌then◌
  gives-end k a o xs g = gives_line says_end _ _ xs refl g

  gives-else : (v : ℕ) (a : Block) (o : Standing) (xs : List LineSaid) → Gives (opening (in_else v a) o) xs → Gives (adding a (opening (in_if v) o)) (says_else ∷ xs)
  unfolding said_text block_line split block_word same bytes line_by on_else alone ◌then◌
  gives-else v a o xs g = gives_line says_else _ _ xs refl g

  -- the lines of a block that is not nested too deep, and then others
  gives-block : (b : Block) (o : Standing) (xs : List LineSaid) → InDialect b → Operands K b → length o.blocks + depth b ≤ deepest
      → Gives (adding b o) xs → Gives o (tree_lines b ++ xs)
  unfolding tree_lines depth ◌then◌
  gives-block empty o xs i h d g = subst (λ (x : Block). Gives (record { blocks = o.blocks; sofar = x }) xs) (then-empty o.sofar) g
  gives-block (own c b) o xs i h d g =
      gives_line (says_own c) o _ _ (line-own K some few c (record { stays = i.0; within = h.0; bare = h.1 }) o)
      (gives-block b _ xs i.1 h.2 d (gives_then (own c empty) b o xs g))
  gives-block (if_only v a b) o xs i h d g =
      rw (append_assoc (tree_lines a) (says_end ∷ tree_lines b) xs)
      (gives_line (says_if v) o _ _ (line-if K v h.0 o (omega arith))
      (gives-block a _ _ i.0 h.1 (omega arith) (gives-end (in_if v) a o _
      (gives-block b _ xs i.1 h.2 (omega arith) (gives_then (if_only v a empty) b o xs g)))))
  gives-block (if_else v a e b) o xs i h d g =
      rw (append_assoc (tree_lines a) (says_else ∷ (tree_lines e ++ (says_end ∷ tree_lines b))) xs, append_assoc (tree_lines e) (says_end ∷ tree_lines b) xs)
      (gives_line (says_if v) o _ _ (line-if K v h.0 o (omega arith))
      (gives-block a _ _ i.0 h.1 (omega arith) (gives-else v a o _
      (gives-block e _ _ i.1 h.2 (omega arith) (gives-end (in_else v a) e o _
      (gives-block b _ xs i.2 h.3 (omega arith) (gives_then (if_else v a e empty) b o xs g)))))))
  gives-block (while v a b) o xs i h d g =
      rw (append_assoc (tree_lines a) (says_end ∷ tree_lines b) xs)
      (gives_line (says_while v) o _ _ (line-while K v h.0 o (omega arith))
      (gives-block a _ _ i.0 h.1 (omega arith) (gives-end (in_while v) a o _
      (gives-block b _ xs i.1 h.2 (omega arith) (gives_then (while v a empty) b o xs g)))))

-- ---- The text

test-printed : (w : List ℕ) (v : ℕ) → Spans 32 126 w → Spans 32 126 (joined space (w ∷ natural v ∷ []))
test-printed w v h = spans-joined 32 126 space (omega arith) (w ∷ natural v ∷ []) (h, (spans-wider 48 57 32 126 (omega arith) (omega arith) (natural v) (natural-spans v), tt))

said-printed : (x : LineSaid) → Spans 32 126 (said_text x)
unfolding said_text bytes named
said-printed (says_own c) = (command-printed c).1.1.1
said-printed (says_if v) = test-printed (bytes "if") v (omega arith)
said-printed (says_while v) = test-printed (bytes "while") v (omega arith)
said-printed says_else = omega arith
said-printed says_end = omega arith

closed-unlines : (l : List ℕ) (ls : List (List ℕ)) → closed (unlines (l ∷ ls)) ≡ true
unfolding unlines closed
closed-unlines l [] = closed-behind l line_feed []
closed-unlines l (m ∷ ls) = closed-append l _ (closed-append (line_feed ∷ []) (unlines (m ∷ ls)) (closed-unlines m ls))

closed-text : (b : Block) → 1 ≤ places b → closed (block_text b) ≡ true
unfolding block_text tree_lines places
closed-text empty h = absurd (omega arith)
closed-text (own c b) h = closed-unlines _ _
closed-text (if_only v a b) h = closed-unlines _ _
closed-text (if_else v a o b) h = closed-unlines _ _
closed-text (while v a b) h = closed-unlines _ _

module _ (b : Block) where
  printed : Every (Spans 32 126) (map said_text (tree_lines b))
  printed = every_made said_text (Spans 32 126) said-printed (tree_lines b)

  text-lines : lines (block_text b) ≡ map said_text (tree_lines b)
  unfolding block_text lines split init
  text-lines =
      let ls = map said_text (tree_lines b) in
      let f = every-imply (Spans 32 126) (Free line_feed) (λ s q. spans-free 32 126 line_feed (λ c. omega (arith, c.0)) s q) ls printed in
      ap lines (sym (append-nil (unlines ls))) ∙ lines-unlines ls [] f ∙ append-nil ls

  text-allowed : forbidden_line 1 (block_text b) ≡ 0
  unfolding block_text forbidden_line
  text-allowed = let ls = map said_text (tree_lines b) in ap (forbidden_line 1) (sym (append-nil (unlines ls))) ∙ lines-allowed [] [] ls [] printed refl

pub every-program : EveryProgram
unfolding read_blocks read_from ◌then◌
every-program K b h =
    let g = gives-block K h.some_keys h.few_keys b b nothing_open [] h.dialect h.operands (omega (arith, h.nested)) (record { reads = λ n. refl }) in
    rw (le-leb 1 K h.some_keys, le-leb K most_keys h.few_keys, text-allowed b, closed-text b h.some, text-lines b, ← append-nil (tree_lines b)) (g.reads 1)
