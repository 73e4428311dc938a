-- The lines of a text, as a loop over a text meets them.
use mathlib.Core.Path.{◌≡◌, refl, sym, ap, ◌∙◌}
use mathlib.Core.Bool.{Bool, true, false, cond, true≢false}
use mathlib.Core.List.{List, [], ◌∷◌, ◌++◌, append_assoc}
use Prim.Native.Nat.{ℕ, zero, suc, ◌+◌, ◌<◌, ◌≤◌}
use native.Mathlib.{Omega.arith, Decide.dec_lt}
use lib.{Dec.eqb, Dec.ltb, ListN.length, ListN.take, ListN.drop, ListN.length-append, Seq.take_all, Seq.take-append-add, Seq.drop-append-add, Seq.take-append_seam, Seq.drop-drop}
use borrow.Author.Tests.{eq-eqb, eqb-true, lt-ltb, le-ltb}
use Rattle.model.specs.{Parsed.Parsed, Parsed.got, Parsed.refused, Text.find, Text.divide, Text.split, Text.grow, Text.lines, Text.init, Text.same, Phase.after}
use Rattle.model.specs.{Text.free, Phase.one_more}
use Rattle.model_text.specs.Found.{starts}
use Rattle.model_text.proofs.TextLaws.{and_both}

-- the lines of a text
pub split-last : (c : ℕ) (t : List ℕ) → length t ≤ find c t → split c t ≡ t ∷ []
unfolding split find
split-last c [] h = refl
split-last c (b ∷ bs) h = go (eqb b c) (λ g. split-last c bs g) h
  where
    go : (x : Bool) → (length bs ≤ find c bs → split c bs ≡ bs ∷ []) → suc (length bs) ≤ cond x 0 (suc (find c bs)) → grow x b (split c bs) ≡ (b ∷ bs) ∷ []
    go true i h = absurd (omega arith)
    go false i h = rw (i (omega arith))

pub split-more : (c : ℕ) (t : List ℕ) → find c t < length t → split c t ≡ take (find c t) t ∷ split c (drop (suc (find c t)) t)
unfolding split find
split-more c [] h = absurd (omega arith)
split-more c (b ∷ bs) h = go (eqb b c) (λ g. split-more c bs g) h
  where
    go : (x : Bool) → (find c bs < length bs → split c bs ≡ take (find c bs) bs ∷ split c (drop (suc (find c bs)) bs))
        → cond x 0 (suc (find c bs)) < suc (length bs)
        → grow x b (split c bs) ≡ take (cond x 0 (suc (find c bs))) (b ∷ bs) ∷ split c (drop (suc (cond x 0 (suc (find c bs)))) (b ∷ bs))
    go true i h = refl
    go false i h = rw (i (omega arith))

pub split-some : (c : ℕ) (t : List ℕ) → (p : List ℕ) × (ps : List (List ℕ)) × (split c t ≡ p ∷ ps)
unfolding split
split-some c [] = ([], [], refl)
split-some c (b ∷ bs) = go (eqb b c) (split c bs)
  where
    go : (x : Bool) (qs : List (List ℕ)) → (p : List ℕ) × (ps : List (List ℕ)) × (grow x b qs ≡ p ∷ ps)
    go true qs = ([], qs, refl)
    go false [] = (b ∷ [], [], refl)
    go false (q ∷ qs) = (b ∷ q, qs, refl)

pub find-le : (c : ℕ) (t : List ℕ) → find c t ≤ length t
unfolding find
find-le c [] = omega arith
find-le c (b ∷ bs) = go (eqb b c) (find-le c bs)
  where
    go : (x : Bool) → find c bs ≤ length bs → cond x 0 (suc (find c bs)) ≤ suc (length bs)
    go true h = omega arith
    go false h = omega arith

-- the parts of t by the place f of its first c
module _ (c : ℕ) (t : List ℕ) (f : ℕ) (q : f ≡ find c t) where
  pub split-end : length t ≤ f → split c t ≡ t ∷ []
  split-end h = split-last c t (omega arith)

  pub split_at : f < length t → (u : List ℕ) → u ≡ drop (f + 1) t → split c t ≡ take f t ∷ split c u
  split_at h u i =
      let m : find c t < length t = omega arith in
      let n : f + 1 ≡ suc f = omega arith in
      rw (split-more c t m, ← q, i, n)

  pub split-first : (ps : List (List ℕ)) × (split c t ≡ take f t ∷ ps)
  split-first = go (dec_lt f (length t))
    where
      go : Dec (f < length t) → (ps : List (List ℕ)) × (split c t ≡ take f t ∷ ps)
      go (yes h) = (split c (drop (f + 1) t), split_at h _ refl)
      go (no n) = let l : length t ≤ f = omega arith in ([], split-end l ∙ ap (λ (x : List ℕ). x ∷ []) (sym (take_all f t l)))

-- the parts that are left of s from the place a on: t is that text, and e the place of its first c
module _ (c : ℕ) (s t : List ℕ) (a e : ℕ) (g : t ≡ drop a s) (q : e ≡ find c t) where
  pub parts-some : (ps : List (List ℕ)) × (split c (drop a s) ≡ take e t ∷ ps)
  parts-some = let f = split-first c t e q in (f.0, rw (← g) f.1)

  pub parts_last : length t ≤ e → split c (drop a s) ≡ take e t ∷ []
  parts_last l = rw (← g, split-end c t e q l, take_all e t l)

  pub parts_more : e < length t → split c (drop a s) ≡ take e t ∷ split c (drop (a + e + 1) s)
  parts_more l =
      let n : a + e + 1 ≡ a + (e + 1) = omega arith in
      rw (n, ← (drop-drop (e + 1) a s), ← g, split_at c t e q l _ refl)

pub lines_none : (t : List ℕ) → length t ≤ find 10 t → lines t ≡ []
unfolding lines init
lines_none t h = rw (split-last 10 t h)

pub lines_more : (t : List ℕ) → find 10 t < length t → lines t ≡ take (find 10 t) t ∷ lines (drop (suc (find 10 t)) t)
unfolding lines init
lines_more t h = let k = split-some 10 (drop (suc (find 10 t)) t) in rw (split-more 10 t h, k.2)

-- what a text starts with
pub starts-split : (p t : List ℕ) → starts p t ≡ true → t ≡ p ++ drop (length p) t
unfolding starts
starts-split [] t h = refl
starts-split (x ∷ xs) [] h = absurd (true≢false (sym h))
starts-split (x ∷ xs) (b ∷ bs) h = go (eqb b x) refl (λ g. starts-split xs bs g) h
  where
    go : (y : Bool) → eqb b x ≡ y → (starts xs bs ≡ true → bs ≡ xs ++ drop (length xs) bs) → cond y (starts xs bs) false ≡ true → b ∷ bs ≡ x ∷ (xs ++ drop (length xs) bs)
    go true q i e = let k = i e in let j = eqb-true b x q in cc
    go false q i e = absurd (true≢false (sym e))

pub starts-take : (p t : List ℕ) (e : ℕ) → starts p t ≡ false → starts p (take e t) ≡ false
unfolding starts
starts-take [] t e h = absurd (true≢false h)
starts-take (x ∷ xs) [] zero h = refl
starts-take (x ∷ xs) [] (suc e) h = refl
starts-take (x ∷ xs) (b ∷ bs) zero h = refl
starts-take (x ∷ xs) (b ∷ bs) (suc e) h = go (eqb b x) (λ g. starts-take xs bs e g) h
  where
    go : (y : Bool) → (starts xs bs ≡ false → starts xs (take e bs) ≡ false) → cond y (starts xs bs) false ≡ false → cond y (starts xs (take e bs)) false ≡ false
    go true i g = i g
    go false i g = refl

find_past : (c : ℕ) (p u : List ℕ) → free c p ≡ true → find c (p ++ u) ≡ length p + find c u
unfolding find free
find_past c [] u h = omega arith
find_past c (b ∷ bs) u h = go (eqb b c) (λ g. find_past c bs u g) h
  where
    go : (y : Bool) → (free c bs ≡ true → find c (bs ++ u) ≡ length bs + find c u) → cond y false (free c bs) ≡ true → cond y 0 (suc (find c (bs ++ u))) ≡ suc (length bs) + find c u
    go true i e = absurd (true≢false (sym e))
    go false i e = let j = i e in omega arith

pub same_refl : (w : List ℕ) → same w w ≡ true
unfolding same
same_refl [] = refl
same_refl (b ∷ bs) = rw (eq-eqb b b refl) (same_refl bs)

pub same-eq : (w u : List ℕ) → same w u ≡ true → w ≡ u
unfolding same
same-eq [] [] e = refl
same-eq [] (y ∷ u) e = absurd (true≢false (sym e))
same-eq (x ∷ w) [] e = absurd (true≢false (sym e))
same-eq (x ∷ w) (y ∷ u) e = let b = and_both (eqb x y) (same w u) e in cc (eqb-true x y b.0, same-eq w u b.1)

pub after-named : (w v : List ℕ) → free 61 w ≡ true → after w ((w ++ (61 ∷ [])) ++ v) ≡ got v
unfolding after divide find
after-named w v h =
    let f : find 61 (w ++ (61 ∷ v)) ≡ length w = find_past 61 w (61 ∷ v) h ∙ omega arith in
    let l : length w < length (w ++ (61 ∷ v)) = simp length-append (omega arith) in
    let k : suc (length w) ≡ length w + 1 = omega arith in
    let d : drop (suc (length w)) (w ++ (61 ∷ v)) ≡ v = ap (λ n. drop n (w ++ (61 ∷ v))) k ∙ drop-append-add w (61 ∷ v) 1 in
    rw (append_assoc, f, lt-ltb _ _ l, take-append_seam, d, same_refl)

-- a line that does not start with the name and an equals sign
named : List ℕ → List ℕ → Bool
named w l = cond (ltb (find 61 l) (length l)) (same (take (find 61 l) l) w) false

ltb-suc : (a b : ℕ) → ltb (suc a) (suc b) ≡ ltb a b
ltb-suc a b = go (dec_lt a b)
  where
    go : Dec (a < b) → ltb (suc a) (suc b) ≡ ltb a b
    go (yes h) = lt-ltb (suc a) (suc b) (omega arith) ∙ sym (lt-ltb a b h)
    go (no h) = le-ltb (suc a) (suc b) (omega arith) ∙ sym (le-ltb a b (omega arith))

other : (w l : List ℕ) → free 61 w ≡ true → starts (w ++ (61 ∷ [])) l ≡ false → named w l ≡ false
unfolding named starts find same free
other [] [] f h = refl
other [] (b ∷ bs) f h = go (eqb b 61) h
  where
    go : (y : Bool) → cond y true false ≡ false
        → cond (ltb (cond y 0 (suc (find 61 bs))) (suc (length bs))) (same (take (cond y 0 (suc (find 61 bs))) (b ∷ bs)) []) false ≡ false
    go true g = absurd (true≢false g)
    go false g = flat (ltb (suc (find 61 bs)) (suc (length bs)))
      where
        flat : (z : Bool) → cond z false false ≡ false
        flat true = refl
        flat false = refl
other (x ∷ xs) [] f h = refl
other (x ∷ xs) (b ∷ bs) f h = go (eqb b 61) refl (eqb b x) refl (λ u v. other xs bs u v) h
  where
    flat : (z : Bool) → cond z false false ≡ false
    flat true = refl
    flat false = refl

    tail : (z : Bool) → cond z false (free 61 xs) ≡ true → free 61 xs ≡ true
    tail true e = absurd (true≢false (sym e))
    tail false e = e

    go : (y : Bool) → eqb b 61 ≡ y → (z : Bool) → eqb b x ≡ z
        → (free 61 xs ≡ true → starts (xs ++ (61 ∷ [])) bs ≡ false → named xs bs ≡ false)
        → cond z (starts (xs ++ (61 ∷ [])) bs) false ≡ false
        → cond (ltb (cond y 0 (suc (find 61 bs))) (suc (length bs))) (same (take (cond y 0 (suc (find 61 bs))) (b ∷ bs)) (x ∷ xs)) false ≡ false
    go true q z p i g = flat (ltb 0 (suc (length bs)))
    go false q true p i g = rw (p, ltb-suc (find 61 bs) (length bs)) (i (tail (eqb x 61) f) g)
    go false q false p i g = rw p (flat (ltb (suc (find 61 bs)) (suc (length bs))))

pub after-other : (w l : List ℕ) → free 61 w ≡ true → starts (w ++ (61 ∷ [])) l ≡ false → after w l ≡ refused 3
unfolding after divide named
after-other w l f h = go (dec_lt (find 61 l) (length l)) (other w l f h)
  where
    go : Dec (find 61 l < length l) → named w l ≡ false → after w l ≡ refused 3
    go (yes p) g = let k : same (take (find 61 l) l) w ≡ false = (rw (lt-ltb _ _ p) at g) in rw (lt-ltb _ _ p, k)
    go (no p) g = let q : length l ≤ find 61 l = omega arith in rw (le-ltb _ _ q)

-- the first line of a text t: where it starts with the name w and an equals sign, what follows is v up to its first line feed, at e
module _ (w t : List ℕ) (f : free 61 w ≡ true) (g : free 10 (w ++ (61 ∷ [])) ≡ true) where
  module _ (h : starts (w ++ (61 ∷ [])) t ≡ true) (u : List ℕ) (d : u ≡ drop (length w + 1) t) (e : ℕ) (q : e ≡ find 10 u) where
    long : length (w ++ (61 ∷ [])) ≡ length w + 1
    long = length-append w (61 ∷ [])

    whole : t ≡ (w ++ (61 ∷ [])) ++ u
    whole = starts-split (w ++ (61 ∷ [])) t h ∙ ap (λ x. (w ++ (61 ∷ [])) ++ x) (ap (λ n. drop n t) long ∙ sym d)

    place : find 10 t ≡ length (w ++ (61 ∷ [])) + e
    place = ap (find 10) whole ∙ find_past 10 (w ++ (61 ∷ [])) u g ∙ ap (λ x. length (w ++ (61 ∷ [])) + x) (sym q)

    size : length t ≡ length (w ++ (61 ∷ [])) + length u
    size = ap length whole ∙ length-append (w ++ (61 ∷ [])) u

    pub line-none : length u ≤ e → lines t ≡ []
    line-none l = let p = place in let z = size in lines_none t (omega arith)

    -- the first line, and what follows it
    pub line_first : e < length u → lines t ≡ ((w ++ (61 ∷ [])) ++ take e u) ∷ lines (drop (e + 1) u)
    line_first l =
        let p = place in
        let z = size in
        let m : find 10 t < length t = omega arith in
        let k : suc (length (w ++ (61 ∷ [])) + e) ≡ length (w ++ (61 ∷ [])) + (e + 1) = omega arith in
        let x : take (length (w ++ (61 ∷ [])) + e) t ≡ (w ++ (61 ∷ [])) ++ take e u = ap (take (length (w ++ (61 ∷ [])) + e)) whole ∙ take-append-add (w ++ (61 ∷ [])) u e in
        let y : drop (length (w ++ (61 ∷ [])) + (e + 1)) t ≡ drop (e + 1) u = ap (drop (length (w ++ (61 ∷ [])) + (e + 1))) whole ∙ drop-append-add (w ++ (61 ∷ [])) u (e + 1) in
        rw (lines_more t m, p, k, x, y)

-- one line more, with a limit
module _ {A B : Type 0} (m : ℕ) (f : B → Parsed A) (cs : List A) (v : B) where
  pub more-full : m ≤ length cs → one_more m f cs v ≡ refused 8
  unfolding one_more
  more-full h = rw (le-ltb _ _ h)

  pub more-bad : (r : ℕ) → length cs < m → f v ≡ refused r → one_more m f cs v ≡ refused r
  unfolding one_more
  more-bad r h b = rw (lt-ltb _ _ h, b)

  pub more-ok : (c : A) → length cs < m → f v ≡ got c → one_more m f cs v ≡ got (cs ++ (c ∷ []))
  unfolding one_more
  more-ok c h b = rw (lt-ltb _ _ h, b)
