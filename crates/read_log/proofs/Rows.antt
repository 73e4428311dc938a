-- The first row of a text, by what the scan finds.
use Prim.Native.Nat.{ℕ, suc, ◌+◌, ◌≤◌}
use mathlib.Core.Path.{◌≡◌, refl, sym, ap, ◌∙◌}
use mathlib.Core.Bool.{Bool, true, false, cond, ◌&&◌}
use mathlib.Core.List.{List, [], ◌∷◌}
use native.Mathlib.Omega.{arith}
use lib.{Dec.eqb, ListN.length, ListN.take, ListN.drop}
use Rattle.model.specs.{Parsed.Parsed, Parsed.got, Parsed.refused, Parsed.need, Parsed.◌>>◌, Text.comma, Text.line_feed, Text.split, Text.grow}
use Rattle.model.proofs.Parsed.{never}
use Rattle.model_log.specs.Log as Log
use Rattle.model_log.specs.Log.{Row, ended, unfinished, rows, carriage_return, spoils, clean, fields}
use Rattle.model_text.proofs.LineLaws.{split-some}
use Rattle.read_log.specs.Log.{scan}

-- ---- A row that the scan finds: its text, and what is behind its end

split-count : (c b : ℕ) (bs : List ℕ) → length (split c (b ∷ bs)) ≡ cond (eqb b c) (suc (length (split c bs))) (length (split c bs))
unfolding split
split-count c b bs = let k = split-some c bs in go (eqb b c) (split c bs) k.0 k.1 k.2
  where
    go : (t : Bool) (qs : List (List ℕ)) (p : List ℕ) (ps : List (List ℕ)) → qs ≡ p ∷ ps → length (grow t b qs) ≡ cond t (suc (length qs)) (length qs)
    go true qs p ps e = refl
    go false qs p ps e = rw e

record Found (i n : ℕ) (s : List ℕ) (e m : ℕ) : Type 0 where
  size : ℕ
  pub place : e ≡ i + size
  pub inside : size + 2 ≤ length s
  pub rows : rows s ≡ ended (take size s) ∷ rows (drop (size + 2) s)
  pub clean : clean (take size s) ≡ true
  pub count : n + length (split comma (take size s)) ≡ m + 1

both : {a b c d : ℕ} → ◌≡◌ {A = Parsed (ℕ × ℕ)} (got (a, b)) (got (c, d)) → (a ≡ c) × (b ≡ d)
both {a} {b} {c} {d} e = let p : ◌≡◌ {A = ℕ × ℕ} (a, b) (c, d) = cc in (ap (λ (x : ℕ × ℕ). x.0) p, ap (λ (x : ℕ × ℕ). x.1) p)

scan-found : (i n e m : ℕ) (s : List ℕ) → scan i n s ≡ got (e, m) → Found i n s e m
unfolding scan rows clean split
scan-found i n e m [] q = never q
scan-found i n e m (b ∷ []) q = never q
scan-found i n e m (b ∷ c ∷ bs) q = go (eqb b carriage_return && eqb c line_feed) refl (spoils b) refl q (λ r. scan-found (i + 1) (cond (eqb b comma) (n + 1) n) e m (c ∷ bs) r)
  where
    counted : (t : Bool) (l : ℕ) → cond t (n + 1) n + l ≡ m + 1 → n + cond t (suc l) l ≡ m + 1
    counted true l h = omega arith
    counted false l h = h

    go : (x : Bool) → (eqb b carriage_return && eqb c line_feed) ≡ x → (y : Bool) → spoils b ≡ y
        → cond x (got (i, n)) (cond y (refused 41) (scan (i + 1) (cond (eqb b comma) (n + 1) n) (c ∷ bs))) ≡ got (e, m)
        → (scan (i + 1) (cond (eqb b comma) (n + 1) n) (c ∷ bs) ≡ got (e, m) → Found (i + 1) (cond (eqb b comma) (n + 1) n) (c ∷ bs) e m)
        → Found i n (b ∷ c ∷ bs) e m
    go true t y u q rec =
        let p = both q in
        record { size = 0; place = omega (arith, p.0); inside = omega arith; rows = rw t; clean = refl; count = omega (arith, p.1) }
    go false t true u q rec = never q
    go false t false u q rec =
        let f = rec q in
        let text = take f.size (c ∷ bs) in
        let w : suc f.size + 2 ≡ suc (f.size + 2) = omega arith in
        record {
          size = suc f.size;
          place = omega (arith, f.place);
          inside = omega (arith, f.inside);
          rows = rw (t, f.rows, w);
          clean = rw u f.clean;
          count = ap (λ (l : ℕ). n + l) (split-count comma b text) ∙ counted (eqb b comma) (length (split comma text)) f.count;
        }

-- a row that is found has the fields that its commas divide
found-fields : {i n e m : ℕ} {s : List ℕ} (f : Found i n s e m) → fields (ended (take f.size s)) ≡ got (split comma (take f.size s))
unfolding fields
found-fields f = rw f.clean

-- ---- A row that the scan refuses

pub record Faulty (s : List ℕ) : Type 0 where
  pub first : Row
  pub others : List Row
  pub rows : rows s ≡ first ∷ others
  pub refuses : fields first ≡ refused 41

-- a text that is not empty has a row
pub rows-some : (b : ℕ) (bs : List ℕ) → (r : Row) × (rs : List Row) × (rows (b ∷ bs) ≡ r ∷ rs)
unfolding rows
rows-some b [] = (unfinished, [], refl)
rows-some b (c ∷ bs) = go (eqb b carriage_return && eqb c line_feed) (rows (c ∷ bs))
  where
    go : (x : Bool) (qs : List Row) → (r : Row) × (rs : List Row) × (cond x (ended [] ∷ rows bs) (Log.grow b qs) ≡ r ∷ rs)
    go true qs = (ended [], rows bs, refl)
    go false [] = (unfinished, [], refl)
    go false (ended t ∷ qs) = (ended (b ∷ t), qs, refl)
    go false (unfinished ∷ qs) = (unfinished, qs, refl)

-- a byte before a row: it spoils the row, or leaves it as faulty as it was
grown-spoilt : (b : ℕ) (r : Row) (rs : List Row) → spoils b ≡ true → (q : Row) × (qs : List Row) × (Log.grow b (r ∷ rs) ≡ q ∷ qs) × (fields q ≡ refused 41)
unfolding fields clean
grown-spoilt b unfinished rs u = (unfinished, rs, refl, refl)
grown-spoilt b (ended t) rs u = (ended (b ∷ t), rs, refl, rw u)

grown-faulty : (b : ℕ) (r : Row) (rs : List Row) → spoils b ≡ false → fields r ≡ refused 41 → (q : Row) × (qs : List Row) × (Log.grow b (r ∷ rs) ≡ q ∷ qs) × (fields q ≡ refused 41)
unfolding fields clean
grown-faulty b unfinished rs u h = (unfinished, rs, refl, refl)
grown-faulty b (ended t) rs u h = (ended (b ∷ t), rs, refl, rw u (go (clean t) h))
  where
    go : (x : Bool) → (need x 41 >> got (split comma t)) ≡ refused 41 → (need x 41 >> got (split comma (b ∷ t))) ≡ refused 41
    go true e = never (sym e)
    go false e = refl

pub scan-faulty : (i n x : ℕ) (s : List ℕ) → scan i n s ≡ refused x → 1 ≤ length s → (x ≡ 41) × Faulty s
unfolding scan rows fields
scan-faulty i n x [] q h = absurd (omega arith)
scan-faulty i n x (b ∷ []) q h = (cc, record { first = unfinished; others = []; rows = refl; refuses = refl })
scan-faulty i n x (b ∷ c ∷ bs) q h = go (eqb b carriage_return && eqb c line_feed) refl (spoils b) refl q (λ r. scan-faulty (i + 1) (cond (eqb b comma) (n + 1) n) x (c ∷ bs) r (omega arith))
  where
    go : (z : Bool) → (eqb b carriage_return && eqb c line_feed) ≡ z → (y : Bool) → spoils b ≡ y
        → cond z (got (i, n)) (cond y (refused 41) (scan (i + 1) (cond (eqb b comma) (n + 1) n) (c ∷ bs))) ≡ refused x
        → (scan (i + 1) (cond (eqb b comma) (n + 1) n) (c ∷ bs) ≡ refused x → (x ≡ 41) × Faulty (c ∷ bs))
        → (x ≡ 41) × Faulty (b ∷ c ∷ bs)
    go true t y u q rec = never (sym q)
    go false t true u q rec =
        let k = rows-some c bs in
        let g = grown-spoilt b k.0 k.1 u in
        (cc, record { first = g.0; others = g.1; rows = rw (t, k.2) g.2; refuses = g.3 })
    go false t false u q rec =
        let r = rec q in
        let g = grown-faulty b r.1.first r.1.others u r.1.refuses in
        (r.0, record { first = g.0; others = g.1; rows = rw (t, r.1.rows) g.2; refuses = g.3 })

-- ---- The first row from its start

pub record First (t : List ℕ) (e m : ℕ) : Type 0 where
  pub inside : e + 2 ≤ length t
  pub rows : rows t ≡ ended (take e t) ∷ rows (drop (e + 2) t)
  pub fields : fields (ended (take e t)) ≡ got (split comma (take e t))
  pub count : length (split comma (take e t)) ≡ m

pub scan-first : (t : List ℕ) (e m : ℕ) → scan 0 1 t ≡ got (e, m) → First t e m
scan-first t e m q =
    let f = scan-found 0 1 e m t q in
    let z : f.size ≡ e = omega (arith, f.place) in
    record {
      inside = omega (arith, f.inside);
      rows = rw z at f.rows;
      fields = rw z at (found-fields f);
      count = let n : length (split comma (take f.size t)) ≡ m = omega (arith, f.count) in rw z at n;
    }
