-- The bytes of two lists of sent lines that agree outside o's columns.
use Prim.Native.Nat.{ℕ, zero, suc, ◌+◌, ◌*◌, ◌-◌, ◌%◌, ◌<◌, ◌≤◌, zero-le, suc-le-suc}
use mathlib.Core.Path.{◌≡◌, refl, sym, ◌∙◌, ap, subst}
use mathlib.Core.Logic.{◌⊎◌, inl, inr, ⊎_elim}
use mathlib.Core.List.{List, [], ◌∷◌, ◌++◌}
use lib.{ListN.length, ListN.get_or, ListN.length-append, ListN.get_or-append, Seq.get_or-append-add, IntN.nat_abs}
use native.Mathlib.{Omega.arith, Nat.mod-eq_of_lt, Nat.add-mod_left, Decide.dec_lt}
use Rattle.model.specs.{Text.bytes, Text.line_feed, Accepted.Every}
use Rattle.model_run.specs.{Line.Sent, Message.source, Line.cell, Line.cells, Line.heading, Line.line_bytes, Line.line_length, Line.bytes_of}
use Rattle.model_run.specs.Data.{Entry, Absent, Number, Key, Open}
use Rattle.model_run.specs.Secrecy.{Whose}
use Rattle.model_run.proofs.Lockstep.{Theirs, Agree, done, next, LinesAgree, SentLike, none, more}
use Rattle.model.proofs.Decimal.{digits-length}

-- ---- Lengths

pub cell-length : (e : Entry) → length (cell e) ≡ 11
unfolding cell
cell-length Absent = refl
cell-length (Number z) = ap suc (digits-length 10 (nat_abs z))

pub cells-length : (es : List Entry) → length (cells es) ≡ 12 * length es
unfolding cells
cells-length [] = refl
cells-length (e ∷ es) = omega (arith, length-append (cell e) (cells es), cell-length e, cells-length es)

pub heading-length : (n : ℕ) → length (heading n) ≡ 9
unfolding heading bytes
heading-length n = omega (arith, digits-length 4 n)

pub line-length : (l : Sent) → length (line_bytes l) ≡ 10 + 12 * length l.columns
unfolding line_bytes
line-length l = length-append (heading l.position) (cells l.columns ++ (line_feed ∷ [])) ∙ omega (arith, length-append (cells l.columns) (line_feed ∷ []), heading-length l.position, cells-length l.columns)

-- every line has a column for each key
abbrev pub Lined : List Key → List Sent → Type 0
Lined ks xs = Every (λ (l : Sent). length l.columns ≡ length ks) xs

line-size : (ks : List Key) (l : Sent) → length l.columns ≡ length ks → length (line_bytes l) ≡ line_length ks
unfolding line_length
line-size ks l h = line-length l ∙ ap (λ (n : ℕ). 10 + 12 * n) h

pub bytes-length : (ks : List Key) (xs : List Sent) → Lined ks xs → length (bytes_of xs) ≡ line_length ks * length xs
unfolding bytes_of
bytes-length ks [] h = omega arith
bytes-length ks (x ∷ xs) h = omega (arith, length-append (line_bytes x) (bytes_of xs), line-size ks x h.0, bytes-length ks xs h.1)

-- ---- A place in a list of two parts

below_or : (q n : ℕ) → (q < n) ⊎ (n ≤ q)
below_or q n = go (dec_lt q n)
  where
    go : Dec (q < n) → (q < n) ⊎ (n ≤ q)
    go (yes h) = inl h
    go (no h) = inr (omega arith)

pub split : (x x' y y' : List ℕ) (n : ℕ) → length x ≡ n → length x' ≡ n → (q : ℕ) → (q < n → get_or x q 0 ≡ get_or x' q 0) → ((r : ℕ) → q ≡ n + r → get_or y r 0 ≡ get_or y' r 0)
    → get_or (x ++ y) q 0 ≡ get_or (x' ++ y') q 0
split x x' y y' n ex ex' q front back = ⊎_elim near far (below_or q n)
  where
    near : q < n → get_or (x ++ y) q 0 ≡ get_or (x' ++ y') q 0
    near h = get_or-append x y 0 q (omega arith) ∙ front h ∙ sym (get_or-append x' y' 0 q (omega arith))

    far : n ≤ q → get_or (x ++ y) q 0 ≡ get_or (x' ++ y') q 0
    far h =
        let e : q ≡ n + (q - n) = omega arith in
        let a : q ≡ length x + (q - n) = omega arith in
        let b : q ≡ length x' + (q - n) = omega arith in
        ap (λ (m : ℕ). get_or (x ++ y) m 0) a ∙ get_or-append-add x y (q - n) 0 ∙ back (q - n) e ∙ sym (ap (λ (m : ℕ). get_or (x' ++ y') m 0) b ∙ get_or-append-add x' y' (q - n) 0)

-- ---- Columns and lines

module _ (o : Whose) where
  -- place q lies in no column that o owns, where the first column begins at place c
  abbrev pub Clear : List Key → ℕ → ℕ → Type 0
  Clear ks c q = (k : ℕ) → k < length ks → Theirs o (source (get_or ks k Open)) → c + 12 * k ≤ q → q ≤ c + 10 + 12 * k → ⊥

  counts : {ks : List Key} {es fs : List Entry} → Agree o ks es fs → (length es ≡ length ks) × (length fs ≡ length ks)
  counts done = (refl, refl)
  counts (next h r) = (ap suc (counts r).0, ap suc (counts r).1)

  -- as many bytes
  pub same_size : {ks : List Key} {xs ys : List Sent} → SentLike o ks xs ys → length (bytes_of xs) ≡ length (bytes_of ys)
  unfolding bytes_of
  same_size none = refl
  same_size {ks} (more {x = x} {y = y} {xs = xs} {ys = ys} h r) =
      let wide = counts h.columns in
      omega (arith, length-append (line_bytes x) (bytes_of xs), length-append (line_bytes y) (bytes_of ys), line-size ks x wide.0, line-size ks y wide.1, same_size r)

  cells_at : {ks : List Key} {es fs : List Entry} → Agree o ks es fs → (q : ℕ) → Clear ks 1 q → get_or (cells es) q 0 ≡ get_or (cells fs) q 0
  unfolding cells
  cells_at done q free = refl
  cells_at (next h r) zero free = refl
  cells_at (next {e = e} {f = f} {es = es} {fs = fs} h r) (suc q) free =
      split (cell e) (cell f) (cells es) (cells fs) 11 (cell-length e) (cell-length f) q
      (λ below. ap (λ (c : Entry). get_or (cell c) q 0) (h (λ own. free 0 (suc-le-suc zero-le) own (omega arith) (omega arith))))
      (λ i eq. cells_at r i (λ k is_key own from to. free (suc k) (suc-le-suc is_key) own (omega arith) (omega arith)))

  line_at : (ks : List Key) (x y : Sent) → LinesAgree o ks x y → (q : ℕ) → Clear ks 10 q → get_or (line_bytes x) q 0 ≡ get_or (line_bytes y) q 0
  unfolding line_bytes
  line_at ks x y h q free =
      split (heading x.position) (heading y.position) _ _ 9 (heading-length x.position) (heading-length y.position) q
      (λ below. ap (λ (n : ℕ). get_or (heading n) q 0) h.position)
      (λ i eq. split (cells x.columns) (cells y.columns) (line_feed ∷ []) (line_feed ∷ []) (12 * length ks)
      (cells-length x.columns ∙ ap (λ (n : ℕ). 12 * n) (counts h.columns).0)
      (cells-length y.columns ∙ ap (λ (n : ℕ). 12 * n) (counts h.columns).1)
      i
      (λ below. cells_at h.columns i (λ k is_key own from to. free k is_key own (omega arith) (omega arith)))
      (λ j eq'. refl))

  pub bytes-at : {ks : List Key} {xs ys : List Sent} → SentLike o ks xs ys → (q : ℕ) → Clear ks 10 (q % line_length ks) → get_or (bytes_of xs) q 0 ≡ get_or (bytes_of ys) q 0
  unfolding bytes_of
  bytes-at none q free = refl
  bytes-at {ks} (more {x = x} {y = y} {xs = xs} {ys = ys} h r) q free =
      let wide = counts h.columns in
      split (line_bytes x) (line_bytes y) (bytes_of xs) (bytes_of ys) (line_length ks) (line-size ks x wide.0) (line-size ks y wide.1) q
      (λ below. line_at ks x y h q (subst (Clear ks 10) (mod-eq_of_lt below) free))
      (λ i eq. bytes-at r i (subst (Clear ks 10) (ap (λ (n : ℕ). n % line_length ks) eq ∙ add-mod_left (line_length ks) i) free))
