-- What a text that is read gives: a program within the limits, whose lines are the text's.
use Prim.Native.Nat.{ℕ, suc, ◌+◌, ◌<◌, ◌≤◌, max}
use mathlib.Core.Path.{◌≡◌, refl, sym, ap, ◌∙◌, subst}
use mathlib.Core.List.{List, [], ◌∷◌, ◌++◌, map, map-append, append_assoc, append-nil}
use native.Mathlib.Omega.{arith}
use lib.ListN.{length}
use Rattle.model.specs.{Limits.variables, Parsed.got, Text.lines}
use Rattle.model_text.proofs.Texts.{closed-lines}
use Rattle.model_blocks.specs.Block.{Block, empty, own, if_only, if_else, while, places, ◌then◌}
use Rattle.model_blocks.specs.Dialect.{Opener, in_if, in_else, in_while, OpenBlock, Standing, nothing_open, deepest, closed_block, block_line, tree, read_blocks}
use Rattle.model_blocks.specs.Agreement.{InDialect}
use Rattle.model_blocks.specs.Claims.{depth, Operands, WellRead, TextAgrees, LineSaid, says_own, says_if, says_while, says_else, says_end, saying, tree_lines, LinesKept}
use Rattle.model_blocks.proofs.{Agreement.step-by-step, Behind.places_then, Taken.Takes, Taken.line_taken, Taken.ended, Taken.from-kept, Taken.text-passed}

-- ---- A block behind another

dialect-then : (a b : Block) → InDialect a → InDialect b → InDialect (a then b)
unfolding ◌then◌
dialect-then empty b h k = k
dialect-then (own c a) b h k = (h.0, dialect-then a b h.1 k)
dialect-then (if_only v x a) b h k = (h.0, dialect-then a b h.1 k)
dialect-then (if_else v x y a) b h k = (h.0, h.1, dialect-then a b h.2 k)
dialect-then (while v x a) b h k = (h.0, dialect-then a b h.1 k)

operands-then : (K : ℕ) (a b : Block) → Operands K a → Operands K b → Operands K (a then b)
unfolding ◌then◌
operands-then K empty b h k = k
operands-then K (own c a) b h k = (h.0, h.1, operands-then K a b h.2 k)
operands-then K (if_only v x a) b h k = (h.0, h.1, operands-then K a b h.2 k)
operands-then K (if_else v x y a) b h k = (h.0, h.1, h.2, operands-then K a b h.3 k)
operands-then K (while v x a) b h k = (h.0, h.1, operands-then K a b h.2 k)

depth-then : (a b : Block) → depth (a then b) ≡ max (depth a) (depth b)
unfolding ◌then◌ depth
depth-then empty b = omega arith
depth-then (own c a) b = depth-then a b
depth-then (if_only v x a) b = omega (arith, depth-then a b)
depth-then (if_else v x y a) b = omega (arith, depth-then a b)
depth-then (while v x a) b = omega (arith, depth-then a b)

lines_then : (a b : Block) → tree_lines (a then b) ≡ tree_lines a ++ tree_lines b
unfolding ◌then◌ tree_lines
lines_then empty b = refl
lines_then (own c a) b = ap (λ (l : List LineSaid). says_own c ∷ l) (lines_then a b)
lines_then (if_only v x a) b = simp (lines_then a b, append_assoc)
lines_then (if_else v x y a) b = simp (lines_then a b, append_assoc)
lines_then (while v x a) b = simp (lines_then a b, append_assoc)

-- ---- What is open is within the limits

-- a block with so many blocks around it
record Fits (K level : ℕ) (b : Block) : Type 0 where
  dialect : InDialect b
  operands : Operands K b
  nested : level + depth b ≤ deepest

fits-then : (K n : ℕ) (a b : Block) → Fits K n a → Fits K n b → Fits K n (a then b)
fits-then K n a b h k =
    record {
      dialect = dialect-then a b h.dialect k.dialect;
      operands = operands-then K a b h.operands k.operands;
      nested = omega (arith, depth-then a b, h.nested, k.nested);
    }

fits-empty : (K n : ℕ) → n ≤ deepest → Fits K n empty
unfolding depth
fits-empty K n h = record { dialect = tt; operands = tt; nested = omega arith }

-- with so many blocks around the block that is open
abbrev FitsOpener : ℕ → ℕ → Opener → Type 0
FitsOpener K n (in_if v) = v < variables
FitsOpener K n (in_else v a) = (v < variables) × Fits K (suc n) a
FitsOpener K n (in_while v) = v < variables

fits-closed : (K n : ℕ) (k : Opener) (a : Block) → FitsOpener K n k → Fits K (suc n) a → Fits K n (closed_block k a)
unfolding depth
fits-closed K n (in_if v) a h f = record { dialect = (f.dialect, tt); operands = (h, f.operands, tt); nested = omega (arith, f.nested) }
fits-closed K n (in_else v o) a h f =
    record { dialect = (h.1.dialect, f.dialect, tt); operands = (h.0, h.1.operands, f.operands, tt); nested = omega (arith, h.1.nested, f.nested) }
fits-closed K n (in_while v) a h f = record { dialect = (f.dialect, tt); operands = (h, f.operands, tt); nested = omega (arith, f.nested) }

abbrev FitsBlocks : ℕ → List OpenBlock → Type 0
FitsBlocks K [] = Unit {0}
FitsBlocks K (x ∷ xs) = FitsOpener K (length xs) x.opener × Fits K (length xs) x.before × FitsBlocks K xs

abbrev FitsStanding : ℕ → Standing → Type 0
FitsStanding K o = FitsBlocks K o.blocks × Fits K (length o.blocks) o.sofar

fits-taken : (K : ℕ) (x : LineSaid) (o n : Standing) → Takes K x o n → FitsStanding K o → FitsStanding K n
unfolding depth
fits-taken K (says_own c) o n t h =
    let most = h.1.nested in
    let one : Fits K (length o.blocks) (own c empty) =
    record { dialect = (t.0.stays, tt); operands = (t.0.within, t.0.bare, tt); nested = omega arith } in
    subst (FitsStanding K) t.1 (h.0, fits-then K (length o.blocks) o.sofar (own c empty) h.1 one)
fits-taken K (says_if v) o n t h = subst (FitsStanding K) t.2 ((t.0, h.1, h.0), fits-empty K _ t.1)
fits-taken K (says_while v) o n t h = subst (FitsStanding K) t.2 ((t.0, h.1, h.0), fits-empty K _ t.1)
fits-taken K says_else o n t h =
    let xs = subst (FitsBlocks K) t.3 h.0 in
    let body = subst (λ (l : List OpenBlock). Fits K (length l) o.sofar) t.3 h.1 in
    let most = body.nested in
    subst (FitsStanding K) t.4 (((xs.0, body), xs.1, xs.2), fits-empty K _ (omega arith))
fits-taken K says_end o n t h =
    let xs = subst (FitsBlocks K) t.2 h.0 in
    let body = subst (λ (l : List OpenBlock). Fits K (length l) o.sofar) t.2 h.1 in
    let x = t.0 in
    subst (FitsStanding K) t.3 (xs.2, fits-then K _ x.before _ xs.1 (fits-closed K _ x.opener o.sofar xs.0 body))

-- ---- Something stands there, once a line is read

abbrev Begun : Standing → Type 0
Begun o = 1 ≤ length o.blocks + places o.sofar

closed-places : (k : Opener) (a : Block) → 1 ≤ places (closed_block k a)
unfolding places
closed-places (in_if v) a = omega arith
closed-places (in_else v o) a = omega arith
closed-places (in_while v) a = omega arith

begun-taken : (K : ℕ) (x : LineSaid) (o n : Standing) → Takes K x o n → Begun n
unfolding places
begun-taken K (says_own c) o n t = subst Begun t.1 (omega (arith, places_then o.sofar (own c empty)))
begun-taken K (says_if v) o n t = subst Begun t.2 (omega arith)
begun-taken K (says_while v) o n t = subst Begun t.2 (omega arith)
begun-taken K says_else o n t = subst Begun t.4 (omega arith)
begun-taken K says_end o n t =
    let a = closed_block t.0.opener o.sofar in
    subst Begun t.3 (omega (arith, places_then t.0.before a, closed-places t.0.opener o.sofar))

-- ---- The lines so far

opener_lines : Opener → List LineSaid
opener_lines (in_if v) = says_if v ∷ []
opener_lines (in_else v a) = says_if v ∷ (tree_lines a ++ (says_else ∷ []))
opener_lines (in_while v) = says_while v ∷ []

open_lines : List OpenBlock → List LineSaid
open_lines [] = []
open_lines (x ∷ xs) = open_lines xs ++ (tree_lines x.before ++ opener_lines x.opener)

lines_so_far : Standing → List LineSaid
lines_so_far o = open_lines o.blocks ++ tree_lines o.sofar

closed-lines-of : (k : Opener) (a : Block) → tree_lines (closed_block k a) ≡ opener_lines k ++ (tree_lines a ++ (says_end ∷ []))
unfolding tree_lines opener_lines
closed-lines-of (in_if v) a = refl
closed-lines-of (in_else v o) a = simp append_assoc
closed-lines-of (in_while v) a = refl

lines-taken : (K : ℕ) (x : LineSaid) (o n : Standing) → Takes K x o n → lines_so_far n ≡ lines_so_far o ++ (x ∷ [])
unfolding lines_so_far open_lines opener_lines tree_lines
lines-taken K (says_own c) o n t = ap lines_so_far (sym t.1) ∙ simp (lines_then, append_assoc)
lines-taken K (says_if v) o n t = ap lines_so_far (sym t.2) ∙ simp (append_assoc, append-nil)
lines-taken K (says_while v) o n t = ap lines_so_far (sym t.2) ∙ simp (append_assoc, append-nil)
lines-taken K says_else o n t = ap lines_so_far (sym t.4) ∙ rw t.3 (simp (append_assoc, append-nil))
lines-taken K says_end o n t = ap lines_so_far (sym t.3) ∙ rw t.2 (simp (lines_then, closed-lines-of, append_assoc))

-- ---- The text

-- what holds of the lines so far and where reading stands
record Stood (K : ℕ) (ds : List (List ℕ)) (o : Standing) : Type 0 where
  fits : FitsStanding K o
  begun : 1 ≤ length ds → Begun o
  lines : map (saying K) ds ≡ map got (lines_so_far o)

stood-start : (K : ℕ) → Stood K [] nothing_open
unfolding lines_so_far open_lines tree_lines
stood-start K = record { fits = (tt, fits-empty K 0 (omega arith)); begun = λ h. absurd (omega arith); lines = refl }

module _ (K : ℕ) (some : 1 ≤ K) where
  stood_line : (ds : List (List ℕ)) (l : List ℕ) (o n : Standing) → block_line K l o ≡ got n → Stood K ds o → Stood K (ds ++ (l ∷ [])) n
  stood_line ds l o n e h =
      let p = line_taken K some o n l e in
      record {
        fits = fits-taken K p.0 o n p.2 h.fits;
        begun = λ q. begun-taken K p.0 o n p.2;
        lines =
            map-append (saying K) ds (l ∷ []) ∙ rw (h.lines, p.1)
            (sym (map-append got (lines_so_far o) (p.0 ∷ [])) ∙ ap (map got) (sym (lines-taken K p.0 o n p.2)));
      }

stood-text : (K : ℕ) (s : List ℕ) (b : Block) → read_blocks K s ≡ tree b → Stood K (lines s) (ended b)
stood-text K s b e = let p = text-passed K s b e in from-kept K (Stood K) (stood_line K p.some_keys) 1 [] (lines s) nothing_open b p.reads (stood-start K)

pub well-read : WellRead
well-read K s b e =
    let p = text-passed K s b e in
    let h = stood-text K s b e in
    let f = h.fits.1 in
    record {
      some_keys = p.some_keys;
      few_keys = p.few_keys;
      dialect = f.dialect;
      operands = f.operands;
      nested = omega (arith, f.nested);
      some = omega (arith, h.begun (omega (arith, ap length (closed-lines s p.ends).2)));
    }

pub text-agrees : TextAgrees
text-agrees K s b e ms n = step-by-step (record { keys = K; program = b; messages = ms }) (well-read K s b e).dialect n

pub lines-kept : LinesKept
unfolding lines_so_far open_lines
lines-kept K s b e = (stood-text K s b e).lines
