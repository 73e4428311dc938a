-- What each line of a text that is read said, and what it made of where reading stood.
use Prim.Native.Nat.{ℕ, ◌+◌, ◌-◌, ◌<◌, ◌≤◌}
use mathlib.Core.Path.{◌≡◌, refl, ap, ◌∙◌, subst}
use mathlib.Core.Bool.{Bool, true, false, cond, ◌&&◌}
use mathlib.Core.List.{List, [], ◌∷◌, ◌++◌, append-nil}
use native.Mathlib.Omega.{arith}
use lib.{Dec.leb, Dec.ltb, ListN.length, Seq.append_snoc}
use borrow.Author.Tests.{leb-true, ltb-true}
use Rattle.model.specs.{Limits.variables, Limits.most_keys, Parsed.Parsed, Parsed.got, Parsed.◌>>=◌, Parsed.◌>>◌, Text.split, Text.space, Text.lines, Text.line_feed, Text.count}
use Rattle.model.specs.{Sheet.forbidden_line, Sheet.closed}
use Rattle.model.specs.Parsed as Parsed
use Rattle.model.specs.declared.Command.{Command}
use Rattle.model.proofs.{Parsed.never, Parsed.bind-got, Parsed.need-got, Accepted.up-to-bound}
use Rattle.model_text.proofs.TextLaws.{and_both}
use Rattle.model_blocks.specs.Block.{Block, empty, own, ◌then◌}
use Rattle.model_blocks.specs.Dialect.{BlockWord, if_word, else_word, while_word, end_word, other_word, block_word, own_command, tested, alone, Opener, in_if, in_else, in_while}
use Rattle.model_blocks.specs.Dialect.{OpenBlock, Standing, nothing_open, adding, opening, deepest, on_opening, innermost, behind_else, on_else, closed_block, on_end, line_by, line_in}
use Rattle.model_blocks.specs.Dialect.{block_line, BlocksRead, tree, refused, at_line, at_last, read_from, read_blocks}
use Rattle.model_blocks.specs.Claims.{LineSaid, says_own, says_if, says_while, says_else, says_end, saying_by, saying_in, saying}
use Rattle.model_blocks.proofs.Own.{OwnOf, own_of}

-- ---- A line

-- a block opened, of a variable, and not too deep
abbrev Opens : (ℕ → Opener) → ℕ → Standing → Standing → Type 0
Opens k v o n = (v < variables) × (length o.blocks < deepest) × (opening (k v) o ≡ n)

-- What a line that says this makes of where reading stood
abbrev pub Takes : ℕ → LineSaid → Standing → Standing → Type 0
Takes K (says_own c) o n = OwnOf K c × (adding (own c empty) o ≡ n)
Takes K (says_if v) o n = Opens in_if v o n
Takes K (says_while v) o n = Opens in_while v o n
Takes K says_else o n =
    (v : ℕ) × (a : Block) × (xs : List OpenBlock) × (o.blocks ≡ record { opener = in_if v; before = a } ∷ xs)
    × (record { blocks = record { opener = in_else v o.sofar; before = a } ∷ xs; sofar = empty } ≡ n)
Takes K says_end o n =
    (x : OpenBlock) × (xs : List OpenBlock) × (o.blocks ≡ x ∷ xs) × (record { blocks = xs; sofar = x.before then closed_block x.opener o.sofar } ≡ n)

pub tested-bound : (ps : List (List ℕ)) (v : ℕ) → tested ps ≡ got v → v < variables
unfolding tested
tested-bound [] v e = never e
tested-bound (p ∷ []) v e = omega (arith, up-to-bound (variables - 1) v p e)
tested-bound (p ∷ q ∷ ps) v e = never e

alone-got : {A : Type 0} (ps : List (List ℕ)) (r : Parsed A) (a : A) → (alone ps >> r) ≡ got a → (alone ps ≡ got tt) × (r ≡ got a)
unfolding alone
alone-got [] r a e = (refl, e)
alone-got (p ∷ ps) r a e = never e

innermost-got : (bs : List OpenBlock) (x : OpenBlock × List OpenBlock) → innermost bs ≡ got x → bs ≡ x.0 ∷ x.1
innermost-got [] x e = never e
innermost-got (b ∷ bs) x e = let q : (b, bs) ≡ x = cc in ap (λ (y : OpenBlock × List OpenBlock). y.0 ∷ y.1) q

behind-got : (k m : Opener) (a : Block) → behind_else k a ≡ got m → (v : ℕ) × (k ≡ in_if v) × (in_else v a ≡ m)
behind-got (in_if v) m a e = (v, refl, cc)
behind-got (in_else v first) m a e = never e
behind-got (in_while v) m a e = never e

module _ (ps : List (List ℕ)) (o n : Standing) where
  opens : (k : ℕ → Opener) → on_opening k ps o ≡ got n → (v : ℕ) × (tested ps ≡ got v) × Opens k v o n
  unfolding on_opening
  opens k e =
      let p = need-got (ltb (length o.blocks) deepest) 52 _ n e in
      let q = bind-got (tested ps) _ n p.1 in
      let made : got (opening (k q.0) o) ≡ got n = q.2 in
      (q.0, q.1, (tested-bound ps q.0 q.1, ltb-true _ _ p.0, cc))

  elses : (K : ℕ) → on_else ps o ≡ got n → (alone ps ≡ got tt) × Takes K says_else o n
  unfolding on_else
  elses K e =
      let p = bind-got (innermost o.blocks) _ n e in
      let x = p.0.0 in
      let q = bind-got (behind_else x.opener o.sofar) _ n p.2 in
      let r = behind-got x.opener q.0 o.sofar q.1 in
      let w = alone-got ps _ n q.2 in
      let made = w.1 in
      let at : Opener → List OpenBlock = λ k. record { opener = k; before = x.before } ∷ p.0.1 in (
        w.0,
        (r.0, x.before, p.0.1, innermost-got o.blocks p.0 p.1 ∙ ap at r.1, ap (λ (k : Opener). record { blocks = at k; sofar = empty }) r.2 ∙ cc),
      )

  ends : (K : ℕ) → on_end ps o ≡ got n → (alone ps ≡ got tt) × Takes K says_end o n
  unfolding on_end
  ends K e =
      let p = bind-got (innermost o.blocks) _ n e in
      let q = alone-got ps _ n p.2 in
      let made = q.1 in
      (q.0, (p.0.0, p.0.1, innermost-got o.blocks p.0 p.1, cc))

module _ (K : ℕ) (some : 1 ≤ K) (o n : Standing) where
  line-by : (t : BlockWord) (w : List ℕ) (ps : List (List ℕ)) → line_by K t w ps o ≡ got n → (x : LineSaid) × (saying_by K t w ps ≡ got x) × Takes K x o n
  unfolding line_by
  line-by if_word w ps e = let h = opens ps o n in_if e in (says_if h.0, rw h.1, h.2)
  line-by else_word w ps e = let h = elses ps o n K e in (says_else, rw h.0, h.1)
  line-by while_word w ps e = let h = opens ps o n in_while e in (says_while h.0, rw h.1, h.2)
  line-by end_word w ps e = let h = ends ps o n K e in (says_end, rw h.0, h.1)
  line-by other_word w ps e =
      let h = bind-got (own_command K w ps) _ n e in
      let made = h.2 in
      (says_own h.0, ap (λ (x : Parsed Command). x >>= (λ c. got (says_own c))) h.1, (own_of K some w ps h.0 h.1, cc))

  line-in : (ps : List (List ℕ)) → line_in K ps o ≡ got n → (x : LineSaid) × (saying_in K ps ≡ got x) × Takes K x o n
  line-in [] e = never e
  line-in (w ∷ ps) e = line-by (block_word w) w ps e

  pub line_taken : (l : List ℕ) → block_line K l o ≡ got n → (x : LineSaid) × (saying K l ≡ got x) × Takes K x o n
  unfolding block_line saying
  line_taken l e = line-in (split space l) e

-- ---- The lines

refuses : {B : Type 0} {n l : ℕ} {b : Block} → refused n l ≡ tree b → B
refuses e = absurd (let z : ◌≡◌ {A = ℕ} 0 1 = cc in omega arith)

at-line-tree : (n : ℕ) (x : Parsed Standing) (f : Standing → BlocksRead) (b : Block) → at_line n x f ≡ tree b → (o : Standing) × (x ≡ got o) × (f o ≡ tree b)
at-line-tree n (got o) f b e = (o, refl, e)
at-line-tree n (Parsed.refused r) f b e = refuses e

-- where reading ends
abbrev pub ended : Block → Standing
ended b = record { blocks = []; sofar = b }

at-last-tree : (n : ℕ) (bs : List OpenBlock) (a b : Block) → at_last n bs a ≡ tree b → record { blocks = bs; sofar = a } ≡ ended b
at-last-tree n [] a b e = let p : a ≡ b = cc in ap ended p
at-last-tree n (x ∷ xs) a b e = refuses e

-- what each line keeps, of the lines so far and where reading stands, holds at the end
module _ (K : ℕ) (P : List (List ℕ) → Standing → Type 0)
    (keeps : (ds : List (List ℕ)) (l : List ℕ) (o n : Standing) → block_line K l o ≡ got n → P ds o → P (ds ++ (l ∷ [])) n) where
  pub from-kept : (k : ℕ) (ds ls : List (List ℕ)) (o : Standing) (b : Block) → read_from K k o ls ≡ tree b → P ds o → P (ds ++ ls) (ended b)
  unfolding read_from
  from-kept k ds [] o b e h = subst (P (ds ++ [])) (at-last-tree k o.blocks o.sofar b e) (rw (append-nil ds) h)
  from-kept k ds (l ∷ ls) o b e h =
      let p = at-line-tree k (block_line K l o) _ b e in
      rw (← append_snoc ds l ls) (from-kept (k + 1) (ds ++ (l ∷ [])) ls p.0 b p.2 (keeps ds l o p.0 p.1 h))

-- ---- The text

module _ (b : Block) where
  when : (t : Bool) (x : BlocksRead) (n l : ℕ) → cond t x (refused n l) ≡ tree b → (t ≡ true) × (x ≡ tree b)
  when true x n l e = (refl, e)
  when false x n l e = refuses e

  unless : (t : Bool) (x : BlocksRead) (n l : ℕ) → cond t (refused n l) x ≡ tree b → x ≡ tree b
  unless true x n l e = refuses e
  unless false x n l e = e

-- what a text that is read passed
pub record Passed (K : ℕ) (s : List ℕ) (b : Block) : Type 0 where
  pub some_keys : 1 ≤ K
  pub few_keys : K ≤ most_keys
  pub ends : closed s ≡ true
  pub reads : read_from K 1 nothing_open (lines s) ≡ tree b

pub text-passed : (K : ℕ) (s : List ℕ) (b : Block) → read_blocks K s ≡ tree b → Passed K s b
unfolding read_blocks
text-passed K s b e =
    let p = when b (leb 1 K && leb K most_keys) _ 4 0 e in
    let k = and_both (leb 1 K) (leb K most_keys) p.0 in
    let q = unless b (leb 1 (forbidden_line 1 s)) _ 2 (forbidden_line 1 s) p.1 in
    let r = when b (closed s) _ 2 (count line_feed s + 1) q in
    record { some_keys = leb-true 1 K k.0; few_keys = leb-true K most_keys k.1; ends = r.0; reads = r.1 }
