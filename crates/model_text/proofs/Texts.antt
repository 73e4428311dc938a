-- Texts put together are taken apart again: `joined` and `split`, `divide`, the lines of two texts, and what is tested of a whole sheet.
use mathlib.Core.Path.{◌≡◌, refl, sym, ap, ◌∙◌}
use mathlib.Core.Bool.{Bool, true, false, cond, true≢false}
use mathlib.Core.List.{List, [], ◌∷◌, ◌++◌, map, append_assoc, append-nil}
use Prim.Native.Nat.{ℕ, suc, ◌+◌, ◌<◌, ◌≤◌}
use native.Mathlib.{Omega.arith, Numerals.add-one}
use lib.{Dec.eqb, ListN.length, ListN.get_or, ListN.drop, ListN.length-append, ListN.drop_of_length-le, Seq.drop-append-add, Seq.take-append_seam}
use lib.Seq.{append_snoc, drop-cons}
use borrow.Author.Tests.{eq-eqb, ne_eqb, lt-ltb, le-leb}
use Rattle.model.specs.{Parsed.got, Text.free, Text.find, Text.divide, Text.split, Text.grow, Text.init, Text.lines, Text.class_of, Text.between, Text.line_feed, Text.equals_sign}
use Rattle.model.specs.{Text.forbidden_class, Sheet.forbidden_line, Sheet.closed, Accepted.Every}
use Rattle.model_text.proofs.LineLaws.{split-some}
use Rattle.model_text.specs.Text.{joined, prefixed, unlines, named}
use Rattle.model_text.proofs.Bytes.{Between, Spans, Free, every_append, every-instead, every-imply}

-- ---- A text with no c before one

free-tail : (c b : ℕ) (s : List ℕ) → Free c (b ∷ s) → (eqb b c ≡ false) × Free c s
unfolding free
free-tail c b s h = go (eqb b c) h
  where
    go : (t : Bool) → cond t false (free c s) ≡ true → (t ≡ false) × Free c s
    go true e = absurd (true≢false (sym e))
    go false e = (refl, e)

find_past : (c : ℕ) (p s : List ℕ) → Free c p → find c (p ++ (c ∷ s)) ≡ length p
unfolding find
find_past c [] s h = rw (eq-eqb c c refl)
find_past c (b ∷ p) s h = let f = free-tail c b p h in rw (f.0, find_past c p s f.1)

pub divide-past : (c n : ℕ) (p s : List ℕ) → Free c p → divide c n (p ++ (c ∷ s)) ≡ got (p, s)
unfolding divide
divide-past c n p s h =
    let l : length p < length (p ++ (c ∷ s)) = simp length-append (omega arith) in
    let k : suc (length p) ≡ length p + 1 = omega arith in
    let d : drop (suc (length p)) (p ++ (c ∷ s)) ≡ s = ap (λ n. drop n (p ++ (c ∷ s))) k ∙ drop-append-add p (c ∷ s) 1 in
    rw (find_past c p s h, lt-ltb _ _ l, take-append_seam, d)

split-free : (c : ℕ) (p : List ℕ) → Free c p → split c p ≡ p ∷ []
unfolding split
split-free c [] h = refl
split-free c (b ∷ p) h = let f = free-tail c b p h in rw (f.0, split-free c p f.1)

split-past : (c : ℕ) (p s : List ℕ) → Free c p → split c (p ++ (c ∷ s)) ≡ p ∷ split c s
unfolding split
split-past c [] s h = rw (eq-eqb c c refl)
split-past c (b ∷ p) s h = let f = free-tail c b p h in rw (f.0, split-past c p s f.1)

pub split-joined : (c : ℕ) (p : List ℕ) (ps : List (List ℕ)) → Free c p → Every (Free c) ps → split c (joined c (p ∷ ps)) ≡ p ∷ ps
unfolding joined
split-joined c p [] h k = split-free c p h
split-joined c p (q ∷ ps) h k = split-past c p (joined c (q ∷ ps)) h ∙ ap (λ (x : List (List ℕ)). p ∷ x) (split-joined c q ps k.0 k.1)

-- the first text, and the others with a byte before each
pub joined-prefixed : (c : ℕ) (p : List ℕ) (ps : List (List ℕ)) → joined c (p ∷ ps) ≡ p ++ prefixed c ps
unfolding joined prefixed
joined-prefixed c p [] = sym (append-nil p)
joined-prefixed c p (q ∷ ps) = ap (λ (t : List ℕ). p ++ (c ∷ t)) (joined-prefixed c q ps)

-- ---- The bytes of texts put together

pub spans-joined : (lo hi c : ℕ) → Between lo hi c → (ps : List (List ℕ)) → Every (Spans lo hi) ps → Spans lo hi (joined c ps)
unfolding joined
spans-joined lo hi c b [] h = tt
spans-joined lo hi c b (p ∷ []) h = h.0
spans-joined lo hi c b (p ∷ q ∷ ps) h = every_append (Between lo hi) p (c ∷ joined c (q ∷ ps)) h.0 (b, spans-joined lo hi c b (q ∷ ps) h.1)

-- a line whose name and value have printed bytes only
pub named-printed : (w v : List ℕ) → Spans 32 126 w → Spans 32 126 v → Spans 32 126 (named w v)
unfolding named
named-printed w v h k = every_append (Between 32 126) w (equals_sign ∷ v) h (omega arith, k)

-- ---- Lines

init-append : (ls : List (List ℕ)) (p : List ℕ) (ps : List (List ℕ)) → init (ls ++ (p ∷ ps)) ≡ ls ++ init (p ∷ ps)
unfolding init
init-append [] p ps = refl
init-append (l ∷ []) p ps = refl
init-append (l ∷ m ∷ ls) p ps = ap (λ (x : List (List ℕ)). l ∷ x) (init-append (m ∷ ls) p ps)

-- s is the text of the lines ls, whatever stands behind it
abbrev Written : List (List ℕ) → List ℕ → Type 0
Written ls s = (t : List ℕ) → split line_feed (s ++ t) ≡ ls ++ split line_feed t

lines-written : (ls : List (List ℕ)) (s : List ℕ) → Written ls s → (t : List ℕ) → lines (s ++ t) ≡ ls ++ lines t
unfolding lines
lines-written ls s h t =
    let k = split-some line_feed t in
    ap init (h t ∙ ap (λ (x : List (List ℕ)). ls ++ x) k.2) ∙ init-append ls k.0 k.1 ∙ ap (λ (x : List (List ℕ)). ls ++ init x) (sym k.2)

unlines-written : (ls : List (List ℕ)) → Every (Free line_feed) ls → Written ls (unlines ls)
unfolding unlines
unlines-written [] h t = refl
unlines-written (l ∷ ls) h t =
    ap (split line_feed) (append_assoc l (line_feed ∷ unlines ls) t)
    ∙ split-past line_feed l (unlines ls ++ t) h.0
    ∙ ap (λ (x : List (List ℕ)). l ∷ x) (unlines-written ls h.1 t)

closed-written : (s : List ℕ) → closed s ≡ true → (l : List ℕ) × (ls : List (List ℕ)) × Written (l ∷ ls) s
unfolding closed split
closed-written [] h = absurd (true≢false (sym h))
closed-written (b ∷ []) h = ([], [], λ t. rw h)
closed-written (b ∷ c ∷ s) h = let i = closed-written (c ∷ s) h in go (eqb b line_feed) i.0 i.1 i.2
  where
    go : (x : Bool) (l : List ℕ) (ls : List (List ℕ)) → Written (l ∷ ls) (c ∷ s)
        → (m : List ℕ) × (ms : List (List ℕ)) × ((t : List ℕ) → grow x b (split line_feed (c ∷ (s ++ t))) ≡ m ∷ (ms ++ split line_feed t))
    go true l ls i = ([], l ∷ ls, λ t. ap (λ (x : List (List ℕ)). [] ∷ x) (i t))
    go false l ls i = (b ∷ l, ls, λ t. ap (grow false b) (i t))

-- lines that are written, before others
pub lines-unlines : (ls : List (List ℕ)) (t : List ℕ) → Every (Free line_feed) ls → lines (unlines ls ++ t) ≡ ls ++ lines t
lines-unlines ls t h = lines-written ls (unlines ls) (unlines-written ls h) t

-- the line of one thing, and those of the things behind it
module _ {A : Type 0} (g : A → List ℕ) (xs : List A) (i : ℕ) where
  pub unlines-more : (d : A) → i < length xs → unlines (map g (drop i xs)) ≡ unlines (g (get_or xs i d) ∷ []) ++ unlines (map g (drop (i + 1) xs))
  unfolding unlines
  unlines-more d h = rw (add-one i, drop-cons xs i d h) (sym (append_snoc (g (get_or xs i d)) line_feed (unlines (map g (drop (suc i) xs)))))

  pub unlines-end : length xs ≤ i → unlines (map g (drop i xs)) ≡ []
  unfolding unlines
  unlines-end h = rw (drop_of_length-le xs h)

module _ (s : List ℕ) (h : closed s ≡ true) where
  -- a text that ends with a line feed has a line, and its lines stand before those of what is behind it
  pub closed-lines : (l : List ℕ) × (ls : List (List ℕ)) × (lines s ≡ l ∷ ls) × ((t : List ℕ) → lines (s ++ t) ≡ l ∷ (ls ++ lines t))
  unfolding lines init split
  closed-lines =
      let k = closed-written s h in
      let e = lines-written (k.0 ∷ k.1) s k.2 in
      (k.0, k.1, ap lines (sym (append-nil s)) ∙ e [] ∙ append-nil (k.0 ∷ k.1), e)

  pub lines-closed : (t : List ℕ) → lines (s ++ t) ≡ lines s ++ lines t
  lines-closed t = let k = closed-lines in k.3 t ∙ ap (λ (x : List (List ℕ)). x ++ lines t) (sym k.2)

split-onto : (c : ℕ) (p s q : List ℕ) (qs : List (List ℕ)) → Free c p → split c s ≡ q ∷ qs → split c (p ++ s) ≡ (p ++ q) ∷ qs
unfolding split
split-onto c [] s q qs h e = e
split-onto c (b ∷ p) s q qs h e = let f = free-tail c b p h in rw (f.0, split-onto c p s q qs f.1 e)

init-first : (p : List ℕ) (ps : List (List ℕ)) (l : List ℕ) (ls : List (List ℕ)) → init (p ∷ ps) ≡ l ∷ ls → (ms : List (List ℕ)) × (init (p ∷ ps) ≡ p ∷ ms)
unfolding init
init-first p [] l ls e = absurd (let z : ◌≡◌ {A = ℕ} 0 1 = cc in omega arith)
init-first p (q ∷ ps) l ls e = (init (q ∷ ps), refl)

-- what such a text begins with, if that has no line feed, its first line begins with
pub first-line : (p s : List ℕ) → Free line_feed p → closed (p ++ s) ≡ true → (q : List ℕ) × (ls : List (List ℕ)) × (lines (p ++ s) ≡ (p ++ q) ∷ ls)
unfolding lines
first-line p s f h =
    let k = split-some line_feed s in
    let c = closed-lines (p ++ s) h in
    let e = ap init (split-onto line_feed p s k.0 k.1 f k.2) in
    let r = init-first (p ++ k.0) k.1 c.0 c.1 (sym e ∙ c.2) in
    (k.0, r.0, e ∙ r.1)

-- ---- The last byte

pub closed-behind : (s : List ℕ) (b : ℕ) (t : List ℕ) → closed (s ++ (b ∷ t)) ≡ closed (b ∷ t)
unfolding closed
closed-behind [] b t = refl
closed-behind (c ∷ []) b t = refl
closed-behind (c ∷ d ∷ s) b t = closed-behind (d ∷ s) b t

pub closed-append : (s t : List ℕ) → closed t ≡ true → closed (s ++ t) ≡ true
unfolding closed
closed-append s [] h = absurd (true≢false (sym h))
closed-append s (b ∷ t) h = closed-behind s b t ∙ h

-- ---- Forbidden bytes

abbrev Allowed : ℕ → Type 0
Allowed b = eqb (class_of b) forbidden_class ≡ false

forbidden-allowed : (n : ℕ) (s : List ℕ) → 1 ≤ n → forbidden_line n s ≡ 0 → Every Allowed s
unfolding forbidden_line
forbidden-allowed n [] l h = tt
forbidden-allowed n (b ∷ s) l h = go (eqb (class_of b) forbidden_class) (λ m k e. forbidden-allowed m s k e) h
  where
    from : (t : Bool) → 1 ≤ cond t (n + 1) n
    from true = omega arith
    from false = l

    go : (t : Bool) → ((m : ℕ) → 1 ≤ m → forbidden_line m s ≡ 0 → Every Allowed s)
        → cond t n (forbidden_line (cond (eqb b line_feed) (n + 1) n) s) ≡ 0 → (t ≡ false) × Every Allowed s
    go true i e = absurd (omega arith)
    go false i e = (refl, i _ (from (eqb b line_feed)) e)

allowed-forbidden : (n : ℕ) (s : List ℕ) → Every Allowed s → forbidden_line n s ≡ 0
unfolding forbidden_line
allowed-forbidden n [] h = refl
allowed-forbidden n (b ∷ s) h = rw h.0 (allowed-forbidden (cond (eqb b line_feed) (n + 1) n) s h.1)

differs : (t : Bool) (x y : ℕ) → (x ≡ forbidden_class → ⊥) → (y ≡ forbidden_class → ⊥) → cond t x y ≡ forbidden_class → ⊥
differs true x y f g e = f e
differs false x y f g e = g e

printed-class : (b : ℕ) → Between 32 126 b → class_of b ≡ forbidden_class → ⊥
unfolding class_of
printed-class b h e =
    differs (between 48 57 b) 0 _ (omega arith)
    (differs (eqb b 45) 1 _ (omega arith)
    (differs (eqb b 44) 2 _ (omega arith)
    (differs (eqb b 58) 3 _ (omega arith)
    (differs (eqb b 61) 4 _ (omega arith)
    (differs (eqb b 32) 5 _ (omega arith)
    (differs (eqb b 10) 6 _ (omega arith)
    (differs (between 97 122 b) 7 _ (omega arith)
    (differs (between 65 90 b) 8 9 (omega arith) (omega arith)))))))))
    (rw (le-leb 32 b h.0, le-leb b 126 h.1) at e)

unlines-allowed : (ls : List (List ℕ)) → Every (Spans 32 126) ls → Every Allowed (unlines ls)
unfolding unlines class_of
unlines-allowed [] h = tt
unlines-allowed (l ∷ ls) h =
    let p = every-imply (Between 32 126) Allowed (λ b q. ne_eqb _ _ (printed-class b q)) l h.0 in
    every_append Allowed l (line_feed ∷ unlines ls) p (refl, unlines-allowed ls h.1)

-- lines of printed bytes put into a text with no forbidden byte, in place of m
pub lines-allowed : (s m : List ℕ) (ls : List (List ℕ)) (t : List ℕ) → Every (Spans 32 126) ls → forbidden_line 1 (s ++ (m ++ t)) ≡ 0
    → forbidden_line 1 (s ++ (unlines ls ++ t)) ≡ 0
lines-allowed s m ls t h e =
    allowed-forbidden 1 (s ++ (unlines ls ++ t))
    (every-instead Allowed s m (unlines ls) t (unlines-allowed ls h) (forbidden-allowed 1 (s ++ (m ++ t)) (omega arith) e))
