-- The parts of a sent line, placed one after the other.
use mathlib.Core.Path.{◌≡◌, sym, ap, ap₂, ◌∙◌}
use mathlib.Core.List.{List, [], ◌∷◌, ◌++◌, append_assoc}
use Prim.Native.Nat.{ℕ, suc, ◌+◌, ◌*◌, ◌≤◌, ◌<◌}
use native.Mathlib.{Omega.arith, Nat.zero-add, Numerals.add-one}
use lib.{ListN.length, ListN.get_or, ListN.drop, ListN.set, ListN.length-append, ListN.drop_of_length-le, Seq.drop-cons}
use Rattle.model.specs.{Text.line_feed, Text.space, Placed.placed, Stored.key_in, Stored.keys_in, Stored.side, Stored.held, Stored.open_slot, Stored.absent_field}
use Rattle.model_run.specs.{Message.source, Line.cell, Line.cells, Line.heading, Line.line_bytes}
use Rattle.model.specs.declared.{Entry.Entry, Entry.TheVariants.Absent, Field.Field, Key.Key, Key.TheVariants.Open, Level.Level, KeySlot.KeySlot}
use Rattle.model.specs.declared.Owner.TheVariants.{A, B}
use Rattle.model.specs.declared.Level.TheVariants.{Low, High}
use Rattle.model_run.proofs.Message as Message
use Rattle.model_run.proofs.{Line.cell-length, Line.cells-length, Line.heading-length}
use Rattle.model.proofs.{Stored.first-at, Stored.first_count}
use Rattle.model.proofs.Placed.{placed-append, placed-nil, placed-cons}
use Rattle.write_line.specs.Line.{columns_in, line_of}

-- ---- The columns

pub held_at : (n : ℕ) (m : List Field) (l : Level) (k : ℕ) → k < n → get_or (held n m l) k Absent ≡ side l (get_or m k absent_field)
unfolding held
held_at n m Low k h = first-at (side Low) n m k absent_field h
held_at n m (High A) k h = first-at (side (High A)) n m k absent_field h
held_at n m (High B) k h = first-at (side (High B)) n m k absent_field h

module _ (n : ℕ) (ss : List KeySlot) (m : List Field) (enough : n ≤ length ss) where
  keys-count : length (keys_in n ss) ≡ n
  keys-count = first_count key_in n ss enough

  pub columns-count : length (columns_in n ss m) ≡ n
  columns-count = Message.columns-length 0 (keys_in n ss) (held n m) ∙ keys-count

  -- the column of a key is the field of its source
  pub columns-at : (k : ℕ) → k < n → get_or (columns_in n ss m) k Absent ≡ side (source (get_or ss k open_slot).key) (get_or m k absent_field)
  columns-at k h =
      Message.columns-at 0 (keys_in n ss) (held n m) k (omega (arith, keys-count))
      ∙ ap (λ (i : ℕ). get_or (held n m (source (get_or (keys_in n ss) k Open))) i Absent) (zero-add k)
      ∙ ap (λ (x : Key). get_or (held n m (source x)) k Absent) (first-at key_in n ss k open_slot h)
      ∙ held_at n m (source (get_or ss k open_slot).key) k h

-- ---- The cells of a line that starts at the place at: those from the key k on are still to write

module _ (at : ℕ) (es : List Entry) where
  -- the place of a key's cell
  abbrev pub cell_at : ℕ → ℕ
  cell_at k = at + (9 + 12 * k)

  cells_at : (k : ℕ) → k < length es → cells (drop k es) ≡ (space ∷ cell (get_or es k Absent)) ++ cells (drop (k + 1) es)
  unfolding cells
  cells_at k h = rw (add-one, drop-cons es k Absent h)

  -- one cell more
  pub cells-again : {all : List ℕ} (out o : List ℕ) (k : ℕ) (e : Entry) → k < length es → e ≡ get_or es k Absent → o ≡ placed out (cell_at k) (space ∷ cell e)
      → placed out (cell_at k) (cells (drop k es)) ≡ all → placed o (cell_at (k + 1)) (cells (drop (k + 1) es)) ≡ all
  cells-again out o k e h ee eo before =
      let rest = cells (drop (k + 1) es) in
      let n : cell_at (k + 1) ≡ cell_at k + length (space ∷ cell e) = omega (arith, ap suc (cell-length e)) in
      ap₂ (λ (l : List ℕ) (q : ℕ). placed l q rest) eo n
      ∙ placed-append out (cell_at k) (space ∷ cell e) rest
      ∙ ap (λ (z : Entry). placed out (cell_at k) ((space ∷ cell z) ++ rest)) ee
      ∙ ap (placed out (cell_at k)) (sym (cells_at k h))
      ∙ before

  cells-end : (out : List ℕ) (k : ℕ) → length es ≤ k → placed out (cell_at k) (cells (drop k es)) ≡ out
  unfolding cells
  cells-end out k h = ap (λ (l : List Entry). placed out (cell_at k) (cells l)) (drop_of_length-le es h) ∙ placed-nil out (cell_at k)

-- ---- The line

-- the heading, the cells and the line feed make the line
line-written : (out h o : List ℕ) (at n keys : ℕ) (es : List Entry) → length es ≡ keys
    → h ≡ placed out at (heading n) → o ≡ placed h (cell_at at es 0) (cells es) → set o (cell_at at es keys) line_feed ≡ placed out at (line_bytes (line_of n es))
unfolding line_bytes
line-written out h o at n keys es e eh eo =
    let hs : List ℕ = heading n in
    let cs : List ℕ = cells es in
    let end = cell_at at es keys in
    let hl : cell_at at es 0 ≡ at + length hs = omega (arith, heading-length n) in
    let cl : length cs ≡ 12 * keys = cells-length es ∙ ap (λ (k : ℕ). 12 * k) e in
    let both : o ≡ placed out at (hs ++ cs) = eo ∙ ap₂ (λ (l : List ℕ) (q : ℕ). placed l q cs) eh hl ∙ placed-append out at hs cs in
    let q : end ≡ at + length (hs ++ cs) = omega (arith, length-append hs cs, heading-length n) in
    sym (placed-nil _ (end + 1))
    ∙ placed-cons o end line_feed []
    ∙ ap₂ (λ (l : List ℕ) (i : ℕ). placed l i (line_feed ∷ [])) both q
    ∙ placed-append out at (hs ++ cs) (line_feed ∷ [])
    ∙ ap (placed out at) (append_assoc hs cs (line_feed ∷ []))

-- the line, where no cell is left to write
pub line-done : (out h o f : List ℕ) (at n keys : ℕ) (es : List Entry) (k : ℕ) → length es ≡ keys → h ≡ placed out at (heading n)
    → keys ≤ k → placed o (cell_at at es k) (cells (drop k es)) ≡ placed h (cell_at at es 0) (cells es) → f ≡ set o (cell_at at es keys) line_feed → f ≡ placed out at (line_bytes (line_of n es))
line-done out h o f at n keys es k e eh end cells_left ef =
    ef ∙ line-written out h o at n keys es e eh (sym (cells-end at es o k (omega arith)) ∙ cells_left)
