-- Laws of the definitions on bytes and numbers, in the form in which a loop over a slice meets them: at a place i of the list s.
use mathlib.Core.Path.{◌≡◌, refl, sym, ap, ◌∙◌}
use mathlib.Core.Logic.{◌⊎◌, inl, inr}
use mathlib.Core.List.{List, [], ◌∷◌, ◌++◌}
use mathlib.Core.Bool.{Bool, true, false, cond, ◌&&◌, true≢false}
use Prim.Native.Nat.{ℕ, suc, ◌+◌, ◌-◌, ◌*◌, ◌<◌, ◌≤◌, pred}
use native.Mathlib.{Numerals.add-one, Omega.arith, Decide.dec_lt}
use lib.{Dec.eqb, Dec.leb, ListN.length, ListN.get_or, ListN.take, ListN.drop, ListN.drop_of_length-le, ListN.length-drop, ListN.take-append-drop, Seq.drop-cons, Seq.drop-drop, Seq.take_all, IntN.pos}
use lib.{IntN.negsuc}
use borrow.Author.Tests.{eq-eqb, ne_eqb, eqb-true, leb-true, leb-false, le-leb, lt-leb}
use Rattle.model.specs.{Limits.greatest_number, Limits.least_number, Parsed.got, Parsed.refused, Parsed.◌>>=◌, Number.digits, Number.digits_to, Number.within, Number.up_to}
use Rattle.model.specs.{Number.from_one, Number.natural, Number.negative, Number.positive, Number.number, Text.find, Text.count, Text.class_of, Text.between}
use Rattle.model.specs.{Sheet.forbidden_line, Sheet.closed, Sheet.over_text}
use Rattle.model_text.specs.Found.{forbids, spoilt_line, starts}

-- one byte of what is left
pub uncons : (s : List ℕ) (i : ℕ) → i < length s → drop i s ≡ get_or s i 0 ∷ drop (i + 1) s
uncons s i h = rw (add-one, drop-cons s i 0 h)

pub done : (s : List ℕ) (i : ℕ) → length s ≤ i → drop i s ≡ []
done s i h = drop_of_length-le s h

pub find-here : (c : ℕ) (s : List ℕ) (i : ℕ) → i < length s → get_or s i 0 ≡ c → find c (drop i s) ≡ 0
unfolding find
find-here c s i h e = rw (uncons s i h, eq-eqb _ _ e)

pub find-next : (c : ℕ) (s : List ℕ) (i : ℕ) → i < length s → (get_or s i 0 ≡ c → ⊥) → find c (drop i s) ≡ suc (find c (drop (i + 1) s))
unfolding find
find-next c s i h n = rw (uncons s i h, ne_eqb _ _ n)

pub find-later : (c : ℕ) (s : List ℕ) (i : ℕ) → i + 1 < length s → (get_or s i 0 ≡ c → ⊥) → (get_or s (i + 1) 0 ≡ c → ⊥) → find c (drop i s) ≡ 2 + find c (drop (i + 2) s)
find-later c s i h n m =
    let k : i < length s = omega arith in
    let q : i + 1 + 1 ≡ i + 2 = omega arith in
    let e = ap (λ (j : ℕ). find c (drop j s)) q in
    omega (arith, find-next c s i k n, find-next c s (i + 1) h m, e)

-- where the first c is found there is a c
pub find_at : (c : ℕ) (s : List ℕ) → find c s < length s → get_or s (find c s) 0 ≡ c
unfolding find
find_at c [] h = absurd (omega arith)
find_at c (b ∷ s) h = go (eqb b c) refl (λ g. find_at c s g) h
  where
    go : (t : Bool) → eqb b c ≡ t → (find c s < length s → get_or s (find c s) 0 ≡ c)
        → cond t 0 (suc (find c s)) < suc (length s) → get_or (b ∷ s) (cond t 0 (suc (find c s))) 0 ≡ c
    go true e i h = eqb-true b c e
    go false e i h = i (omega arith)

pub find-end : (c : ℕ) (s : List ℕ) (i : ℕ) → length s ≤ i → find c (drop i s) ≡ 0
unfolding find
find-end c s i h = rw (done s i h)

-- the line of the first forbidden byte of what is left, where n is the line of its first byte
module _ (n : ℕ) (s : List ℕ) (i : ℕ) where
  pub line-end : length s ≤ i → forbidden_line n (drop i s) ≡ 0
  unfolding forbidden_line
  line-end h = rw (done s i h)

  module _ (h : i < length s) where
    pub line-forbidden : class_of (get_or s i 0) ≡ 10 → forbidden_line n (drop i s) ≡ n
    unfolding forbidden_line
    line-forbidden e = rw (uncons s i h, eq-eqb _ _ e)

    pub line-feed : get_or s i 0 ≡ 10 → forbidden_line n (drop i s) ≡ forbidden_line (n + 1) (drop (i + 1) s)
    unfolding forbidden_line class_of
    line-feed e = rw (uncons s i h, e)

    pub line_same : (class_of (get_or s i 0) ≡ 10 → ⊥) → (get_or s i 0 ≡ 10 → ⊥) → forbidden_line n (drop i s) ≡ forbidden_line n (drop (i + 1) s)
    unfolding forbidden_line
    line_same e f = rw (uncons s i h, ne_eqb _ _ e, ne_eqb _ _ f)

-- ---- The classes of bytes

nonzero : (t : Bool) (x y : ℕ) → (x ≡ 0 → ⊥) → (y ≡ 0 → ⊥) → cond t x y ≡ 0 → ⊥
nonzero true x y f g e = f e
nonzero false x y f g e = g e

pub and_both : (p q : Bool) → p && q ≡ true → (p ≡ true) × (q ≡ true)
and_both true q e = (refl, e)
and_both false q e = absurd (let z : ◌≡◌ {A = ℕ} 0 1 = ap (λ (b : Bool). cond b 1 0) e in omega arith)

-- a byte of a range, and one outside of it
pub between_in : (lo hi b : ℕ) → between lo hi b ≡ true → (lo ≤ b) × (b ≤ hi)
between_in lo hi b e = let q = and_both (leb lo b) (leb b hi) e in (leb-true _ _ q.0, leb-true _ _ q.1)

pub between-out : (lo hi b : ℕ) → between lo hi b ≡ false → (b < lo) ⊎ (hi < b)
between-out lo hi b e = go (dec_lt b lo)
  where
    go : Dec (b < lo) → (b < lo) ⊎ (hi < b)
    go (yes h) = inl h
    go (no h) = inr (leb-false b hi (rw (le-leb lo b (omega arith)) at e))

-- outside of a range is outside of what lies in it
pub between-less : {lo hi : ℕ} (b : ℕ) → between lo hi b ≡ false → (lo' hi' : ℕ) → lo ≤ lo' → hi' ≤ hi → between lo' hi' b ≡ false
between-less {lo} {hi} b e lo' hi' l h = go (between lo' hi' b) refl
  where
    go : (t : Bool) → between lo' hi' b ≡ t → t ≡ false
    go true p = let q = between_in lo' hi' b p in rw (le-leb lo b (omega arith), le-leb b hi (omega arith)) at e
    go false p = refl

-- a byte of class 0 is a digit
pub class-digit : (b : ℕ) → class_of b ≡ 0 → (48 ≤ b) × (b ≤ 57)
unfolding class_of
class-digit b e = go (between 48 57 b) refl
  where
    go : (t : Bool) → between 48 57 b ≡ t → (48 ≤ b) × (b ≤ 57)
    go true p = between_in 48 57 b p
    go false p =
        absurd (nonzero (eqb b 45) 1 _ (omega arith)
        (nonzero (eqb b 44) 2 _ (omega arith)
        (nonzero (eqb b 58) 3 _ (omega arith)
        (nonzero (eqb b 61) 4 _ (omega arith)
        (nonzero (eqb b 32) 5 _ (omega arith)
        (nonzero (eqb b 10) 6 _ (omega arith)
        (nonzero (between 97 122 b) 7 _ (omega arith)
        (nonzero (between 65 90 b) 8 _ (omega arith)
        (nonzero (between 32 126 b) 9 10 (omega arith) (omega arith)))))))))
        (rw p at e))

-- and a digit is of class 0
pub digit-class : (b : ℕ) → 48 ≤ b → b ≤ 57 → class_of b ≡ 0
unfolding class_of
digit-class b h l = rw (le-leb 48 b h, le-leb b 57 l)

-- the other ranges: of a byte above the equals sign only they are asked for
above-signs : (b : ℕ) → 61 < b → class_of b ≡ cond (between 97 122 b) 7 (cond (between 65 90 b) 8 (cond (between 32 126 b) 9 10))
unfolding class_of
above-signs b h =
    rw (
      lt-leb b 57 (omega arith),
      ne_eqb b 45 (omega arith),
      ne_eqb b 44 (omega arith),
      ne_eqb b 58 (omega arith),
      ne_eqb b 61 (omega arith),
      ne_eqb b 32 (omega arith),
      ne_eqb b 10 (omega arith),
      le-leb 48 b (omega arith),
    )

pub small-class : (b : ℕ) → 97 ≤ b → b ≤ 122 → class_of b ≡ 7
small-class b h l = above-signs b (omega arith) ∙ rw (le-leb 97 b h, le-leb b 122 l)

pub capital-class : (b : ℕ) → 65 ≤ b → b ≤ 90 → class_of b ≡ 8
capital-class b h l = above-signs b (omega arith) ∙ rw (lt-leb 97 b (omega arith), le-leb 65 b h, le-leb b 90 l)

pub other-class : (b : ℕ) → 32 ≤ b → b ≤ 126 → between 48 57 b ≡ false → (b ≡ 45 → ⊥) → (b ≡ 44 → ⊥) → (b ≡ 58 → ⊥) → (b ≡ 61 → ⊥) → (b ≡ 32 → ⊥)
    → between 97 122 b ≡ false → between 65 90 b ≡ false → class_of b ≡ 9
unfolding class_of
other-class b h l digit m c o e s small capital =
    rw (digit, ne_eqb b 45 m, ne_eqb b 44 c, ne_eqb b 58 o, ne_eqb b 61 e, ne_eqb b 32 s, ne_eqb b 10 (omega arith), small, capital, le-leb 32 b h, le-leb b 126 l)

-- a byte below or above all ranges is forbidden, unless it is a line feed
pub below-class : (b : ℕ) → b < 32 → (b ≡ 10 → ⊥) → class_of b ≡ 10
unfolding class_of
below-class b h n =
    rw (
      lt-leb 48 b (omega arith),
      ne_eqb b 45 (omega arith),
      ne_eqb b 44 (omega arith),
      ne_eqb b 58 (omega arith),
      ne_eqb b 61 (omega arith),
      ne_eqb b 32 (omega arith),
      ne_eqb b 10 n,
      lt-leb 97 b (omega arith),
      lt-leb 65 b (omega arith),
      lt-leb 32 b h,
    )

pub above-class : (b : ℕ) → 126 < b → class_of b ≡ 10
above-class b h =
    let outside : (lo hi : ℕ) → hi ≤ 126 → between lo hi b ≡ false = λ lo hi l. rw (lt-leb b hi (omega arith)) (never (leb lo b)) in
    above-signs b (omega arith) ∙ rw (outside 97 122 (omega arith), outside 65 90 (omega arith), outside 32 126 (omega arith))
  where
    never : (t : Bool) → t && false ≡ false
    never true = refl
    never false = refl

-- digits: a byte more, a byte that is none, the end, and a value that is past the limit already
pub digits-next : (m a : ℕ) (s : List ℕ) (i : ℕ) → i < length s → class_of (get_or s i 0) ≡ 0
    → digits_to m a (drop i s) ≡ digits_to m (a * 10 + (get_or s i 0 - 48)) (drop (i + 1) s)
unfolding digits_to digits
digits-next m a s i h e = rw (uncons s i h, eq-eqb _ _ e)

pub digits-bad : (m a : ℕ) (s : List ℕ) (i : ℕ) → i < length s → (class_of (get_or s i 0) ≡ 0 → ⊥) → digits_to m a (drop i s) ≡ refused 4
unfolding digits_to digits
digits-bad m a s i h e = rw (uncons s i h, ne_eqb _ _ e)

pub digits-end : (m a : ℕ) (s : List ℕ) (i : ℕ) → length s ≤ i → a ≤ m → digits_to m a (drop i s) ≡ got a
unfolding digits_to digits within
digits-end m a s i h l = rw (done s i h, le-leb _ _ l)

pub digits-past : (m a : ℕ) (s : List ℕ) → m < a → digits_to m a s ≡ refused 4
unfolding digits_to digits within
digits-past m a [] l = rw (lt-leb _ _ l)
digits-past m a (b ∷ bs) l = go (eqb (class_of b) 0) (digits-past m (a * 10 + (b - 48)) bs (omega arith))
  where
    go : (t : Bool) → digits_to m (a * 10 + (b - 48)) bs ≡ refused 4 → (cond t (digits (a * 10 + (b - 48)) bs) (refused 4) >>= within m) ≡ refused 4
    go true r = r
    go false r = refl

pub up-to-empty : (m : ℕ) (s : List ℕ) → length s ≡ 0 → up_to m s ≡ refused 4
unfolding up_to natural
up-to-empty m [] e = refl
up-to-empty m (b ∷ s) e = absurd (omega arith)

pub up-to-one : (m : ℕ) (s : List ℕ) → length s ≡ 1 → up_to m s ≡ digits_to m 0 s
unfolding digits_to up_to digits natural
up-to-one m [] e = absurd (omega arith)
up-to-one m (b ∷ []) e = refl
up-to-one m (b ∷ d ∷ s) e = absurd (omega arith)

pub up_to_zero : (m : ℕ) (s : List ℕ) → (length s ≡ 0 → ⊥) → (length s ≡ 1 → ⊥) → get_or s 0 0 ≡ 48 → up_to m s ≡ refused 4
unfolding up_to natural
up_to_zero m [] e f h = absurd (e refl)
up_to_zero m (b ∷ []) e f h = absurd (f refl)
up_to_zero m (b ∷ d ∷ s) e f h = rw (eq-eqb _ _ h)

pub up-to-more : (m : ℕ) (s : List ℕ) → (length s ≡ 0 → ⊥) → (length s ≡ 1 → ⊥) → (get_or s 0 0 ≡ 48 → ⊥) → up_to m s ≡ digits_to m 0 s
unfolding up_to digits_to natural digits
up-to-more m [] e f h = absurd (e refl)
up-to-more m (b ∷ []) e f h = absurd (f refl)
up-to-more m (b ∷ d ∷ s) e f h = rw (ne_eqb _ _ h)

pub number-empty : (s : List ℕ) → length s ≡ 0 → number s ≡ refused 4
unfolding number
number-empty [] e = refl
number-empty (b ∷ s) e = absurd (omega arith)

pub number-minus : (s : List ℕ) → (length s ≡ 0 → ⊥) → get_or s 0 0 ≡ 45 → number s ≡ negative (drop 1 s)
unfolding number negative
number-minus [] e h = absurd (e refl)
number-minus (b ∷ s) e h = rw (eq-eqb _ _ h)

pub number-plain : (s : List ℕ) → (length s ≡ 0 → ⊥) → (get_or s 0 0 ≡ 45 → ⊥) → number s ≡ positive s
unfolding number positive
number-plain [] e h = absurd (e refl)
number-plain (b ∷ s) e h = rw (ne_eqb _ _ h)

pub negative-bad : (s : List ℕ) (r : ℕ) → from_one least_number s ≡ refused r → negative s ≡ refused r
unfolding negative
negative-bad s r e = rw e

pub negative_ok : (s : List ℕ) (n : ℕ) → from_one least_number s ≡ got n → negative s ≡ got (negsuc (pred n))
unfolding negative
negative_ok s n e = rw e

pub positive-bad : (s : List ℕ) (r : ℕ) → up_to greatest_number s ≡ refused r → positive s ≡ refused r
unfolding positive
positive-bad s r e = rw e

pub positive_ok : (s : List ℕ) (n : ℕ) → up_to greatest_number s ≡ got n → positive s ≡ got (pos n)
unfolding positive
positive_ok s n e = rw e

-- a part of a slice from a to its end
pub rest : (s : List ℕ) (a : ℕ) → take (length s - a) (drop a s) ≡ drop a s
rest s a = take_all (length s - a) (drop a s) (simp length-drop (omega arith))

-- how many c there are
pub count-here : (c : ℕ) (s : List ℕ) (i : ℕ) → i < length s → get_or s i 0 ≡ c → count c (drop i s) ≡ suc (count c (drop (i + 1) s))
unfolding count
count-here c s i h e = rw (uncons s i h, eq-eqb _ _ e)

pub count_next : (c : ℕ) (s : List ℕ) (i : ℕ) → i < length s → (get_or s i 0 ≡ c → ⊥) → count c (drop i s) ≡ count c (drop (i + 1) s)
unfolding count
count_next c s i h n = rw (uncons s i h, ne_eqb _ _ n)

pub count-end : (c : ℕ) (s : List ℕ) (i : ℕ) → length s ≤ i → count c (drop i s) ≡ 0
unfolding count
count-end c s i h = rw (done s i h)

count_most : (c : ℕ) (s : List ℕ) → count c s ≤ length s
unfolding count
count_most c [] = omega arith
count_most c (b ∷ bs) = go (eqb b c) (count_most c bs)
  where
    go : (t : Bool) → count c bs ≤ length bs → cond t (suc (count c bs)) (count c bs) ≤ suc (length bs)
    go true h = omega arith
    go false h = omega arith

-- the last byte
pub closed-empty : (s : List ℕ) → length s ≡ 0 → closed s ≡ false
unfolding closed
closed-empty [] e = refl
closed-empty (b ∷ s) e = absurd (omega arith)

pub closed-last : (s : List ℕ) → 1 ≤ length s → closed s ≡ eqb (get_or s (length s - 1) 0) 10
unfolding closed
closed-last [] h = absurd (omega arith)
closed-last (b ∷ []) h = refl
closed-last (b ∷ c ∷ s) h =
    let e : suc (suc (length s)) - 1 ≡ suc (suc (length s) - 1) = omega arith in
    closed-last (c ∷ s) (omega arith) ∙ ap (λ (n : ℕ). eqb (get_or (b ∷ c ∷ s) n 0) 10) (sym e)

-- the last byte of a text that ends with a line feed, and of one that does not
module _ (s : List ℕ) (i : ℕ) (e : i + 1 ≡ length s) where
  last-is : closed s ≡ eqb (get_or s i 0) 10
  last-is = let q : length s - 1 ≡ i = omega arith in closed-last s (omega arith) ∙ ap (λ (n : ℕ). eqb (get_or s n 0) 10) q

  pub last-closed : get_or s i 0 ≡ 10 → closed s ≡ true
  last-closed h = last-is ∙ eq-eqb _ _ h

  pub last-open : (get_or s i 0 ≡ 10 → ⊥) → closed s ≡ false
  last-open h = last-is ∙ ne_eqb _ _ h

-- ---- Refusal 2

-- a forbidden byte: at a place, after it, and at the end
module _ (s : List ℕ) (i : ℕ) where
  pub forbids-end : length s ≤ i → forbids (drop i s) ≡ false
  unfolding forbids
  forbids-end h = rw (done s i h)

  module _ (h : i < length s) where
    pub forbids-here : class_of (get_or s i 0) ≡ 10 → forbids (drop i s) ≡ true
    unfolding forbids
    forbids-here e = rw (uncons s i h, eq-eqb _ _ e)

    pub forbids-next : (class_of (get_or s i 0) ≡ 10 → ⊥) → forbids (drop i s) ≡ forbids (drop (i + 1) s)
    unfolding forbids
    forbids-next e = rw (uncons s i h, ne_eqb _ _ e)

forbids-join : (s t : List ℕ) → forbids (s ++ t) ≡ cond (forbids s) true (forbids t)
unfolding forbids
forbids-join [] t = refl
forbids-join (b ∷ s) t = go (eqb (class_of b) 10) (forbids-join s t)
  where
    go : (x : Bool) → forbids (s ++ t) ≡ cond (forbids s) true (forbids t) → cond x true (forbids (s ++ t)) ≡ cond (cond x true (forbids s)) true (forbids t)
    go true e = refl
    go false e = e

-- what is cut at a place
module _ (n : ℕ) (s : List ℕ) where
  forbids-cut : forbids s ≡ cond (forbids (take n s)) true (forbids (drop n s))
  forbids-cut = ap forbids (sym (take-append-drop n s)) ∙ forbids-join (take n s) (drop n s)

  front-allowed : forbids s ≡ false → forbids (take n s) ≡ false
  front-allowed e = go (forbids (take n s)) (forbids (drop n s)) (sym e ∙ forbids-cut)
    where
      go : (x y : Bool) → false ≡ cond x true y → x ≡ false
      go true y e = sym e
      go false y e = refl

  back-allowed : forbids s ≡ false → forbids (drop n s) ≡ false
  back-allowed e = go (forbids (take n s)) (forbids (drop n s)) (sym e ∙ forbids-cut)
    where
      go : (x y : Bool) → false ≡ cond x true y → y ≡ false
      go true y e = absurd (true≢false (sym e))
      go false y e = sym e

  both-allowed : forbids (take n s) ≡ false → forbids (drop n s) ≡ false → forbids s ≡ false
  both-allowed e f = forbids-cut ∙ rw (e, f)

-- a part of m bytes from a on: where it has a forbidden byte, the text has one
pub part-forbids : (m a : ℕ) (s : List ℕ) → forbids (take m (drop a s)) ≡ true → forbids s ≡ true
part-forbids m a s e = go (forbids s) refl
  where
    go : (x : Bool) → forbids s ≡ x → x ≡ true
    go true h = refl
    go false h = sym (front-allowed m (drop a s) (back-allowed a s h)) ∙ e

-- and where it has none, the bytes from i on have none if those behind the part have none
pub part-allowed : (m a i : ℕ) (s : List ℕ) → a ≤ i → forbids (take m (drop a s)) ≡ false → forbids (drop (a + m) s) ≡ false → forbids (drop i s) ≡ false
part-allowed m a i s h e f =
    let q : a + (i - a) ≡ i = omega arith in
    let from-a = both-allowed m (drop a s) e (ap forbids (drop-drop m a s) ∙ f) in
    sym (ap forbids (drop-drop (i - a) a s ∙ ap (λ (n : ℕ). drop n s) q)) ∙ back-allowed (i - a) (drop a s) from-a

-- of a text without a forbidden byte no line is named
pub allowed-line : (n : ℕ) (s : List ℕ) → forbids s ≡ false → forbidden_line n s ≡ 0
unfolding forbids forbidden_line
allowed-line n [] e = refl
allowed-line n (b ∷ bs) e = go (eqb (class_of b) 10) (λ m f. allowed-line m bs f) e
  where
    go : (x : Bool) → ((m : ℕ) → forbids bs ≡ false → forbidden_line m bs ≡ 0) → cond x true (forbids bs) ≡ false → cond x n (forbidden_line (cond (eqb b 10) (n + 1) n) bs) ≡ 0
    go true f e = absurd (true≢false e)
    go false f e = f _ e

-- what a text comes to, by the line that refusal 2 names: refuse tells the refusals, and a is what comes of the text otherwise
module _ {A : Type 0} (refuse : ℕ → ℕ → A) (s : List ℕ) (a : A) where
  pub text-spoilt : 1 ≤ spoilt_line s → over_text refuse s a ≡ refuse 2 (spoilt_line s)
  unfolding spoilt_line
  text-spoilt h = go (leb 1 (forbidden_line 1 s)) refl (closed s) h
    where
      go : (x : Bool) → leb 1 (forbidden_line 1 s) ≡ x → (y : Bool) → 1 ≤ cond x (forbidden_line 1 s) (cond y 0 (count 10 s + 1))
          → cond x (refuse 2 (forbidden_line 1 s)) (cond y a (refuse 2 (count 10 s + 1))) ≡ refuse 2 (cond x (forbidden_line 1 s) (cond y 0 (count 10 s + 1)))
      go true e y h = refl
      go false e true h = absurd (omega arith)
      go false e false h = refl

  pub text-whole : spoilt_line s ≡ 0 → over_text refuse s a ≡ a
  unfolding spoilt_line
  text-whole h = go (leb 1 (forbidden_line 1 s)) refl (closed s) h
    where
      go : (x : Bool) → leb 1 (forbidden_line 1 s) ≡ x → (y : Bool) → cond x (forbidden_line 1 s) (cond y 0 (count 10 s + 1)) ≡ 0
          → cond x (refuse 2 (forbidden_line 1 s)) (cond y a (refuse 2 (count 10 s + 1))) ≡ a
      go true e y h = absurd (omega (arith, leb-true 1 (forbidden_line 1 s) e))
      go false e true h = refl
      go false e false h = absurd (omega arith)

forbidden-most : (n : ℕ) (s : List ℕ) → forbidden_line n s ≤ n + length s
unfolding forbidden_line
forbidden-most n [] = omega arith
forbidden-most n (b ∷ bs) = go (eqb (class_of b) 10) (eqb b 10) (forbidden-most (n + 1) bs) (forbidden-most n bs)
  where
    go : (x y : Bool) → forbidden_line (n + 1) bs ≤ n + 1 + length bs → forbidden_line n bs ≤ n + length bs → cond x n (forbidden_line (cond y (n + 1) n) bs) ≤ n + suc (length bs)
    go true y h k = omega arith
    go false true h k = omega arith
    go false false h k = omega arith

module _ (s : List ℕ) where
  pub spoilt-forbidden : 1 ≤ forbidden_line 1 s → spoilt_line s ≡ forbidden_line 1 s
  unfolding spoilt_line
  spoilt-forbidden h = rw (le-leb _ _ h)

  module _ (h : forbidden_line 1 s ≡ 0) where
    pub spoilt-none : closed s ≡ true → spoilt_line s ≡ 0
    unfolding spoilt_line
    spoilt-none e = rw (h, e)

    pub spoilt-open : closed s ≡ false → spoilt_line s ≡ 1 + count 10 s
    unfolding spoilt_line
    spoilt-open e = rw (h, e) (omega arith)

  pub spoilt-most : spoilt_line s ≤ 1 + length s
  unfolding spoilt_line
  spoilt-most = go (leb 1 (forbidden_line 1 s)) (closed s)
    where
      go : (x y : Bool) → cond x (forbidden_line 1 s) (cond y 0 (count 10 s + 1)) ≤ 1 + length s
      go true y = forbidden-most 1 s
      go false true = omega arith
      go false false = omega (arith, count_most 10 s)

-- a number from 1
pub from-one-bad : (m : ℕ) (s : List ℕ) (r : ℕ) → up_to m s ≡ refused r → from_one m s ≡ refused r
unfolding from_one
from-one-bad m s r e = rw e

pub from-one-zero : (m n : ℕ) (s : List ℕ) → up_to m s ≡ got n → n ≡ 0 → from_one m s ≡ refused 4
unfolding from_one
from-one-zero m n s e z = rw (e, z)

pub from-one-ok : (m n : ℕ) (s : List ℕ) → up_to m s ≡ got n → 1 ≤ n → from_one m s ≡ got n
unfolding from_one
from-one-ok m n s e z = rw (e, le-leb _ _ z)

-- what a text starts with, byte by byte
module _ (p t : List ℕ) (i : ℕ) where
  pub starts-end : length p ≤ i → starts (drop i p) (drop i t) ≡ true
  unfolding starts
  starts-end h = rw (done p i h)

  module _ (h : i < length p) (l : i < length t) where
    pub starts-next : get_or t i 0 ≡ get_or p i 0 → starts (drop i p) (drop i t) ≡ starts (drop (i + 1) p) (drop (i + 1) t)
    unfolding starts
    starts-next e = rw (uncons p i h, uncons t i l, eq-eqb _ _ e)

    pub starts-differ : (get_or t i 0 ≡ get_or p i 0 → ⊥) → starts (drop i p) (drop i t) ≡ false
    unfolding starts
    starts-differ e = rw (uncons p i h, uncons t i l, ne_eqb _ _ e)

pub starts-length : (p t : List ℕ) → starts p t ≡ true → length p ≤ length t
unfolding starts
starts-length [] t h = omega arith
starts-length (x ∷ xs) [] h = absurd (true≢false (sym h))
starts-length (x ∷ xs) (b ∷ bs) h = go (eqb b x) (λ g. starts-length xs bs g) h
  where
    go : (y : Bool) → (starts xs bs ≡ true → length xs ≤ length bs) → cond y (starts xs bs) false ≡ true → suc (length xs) ≤ suc (length bs)
    go true i e = let j = i e in omega arith
    go false i e = absurd (true≢false (sym e))

pub starts-short : (p t : List ℕ) → length t < length p → starts p t ≡ false
starts-short p t h = go (starts p t) refl
  where
    go : (y : Bool) → starts p t ≡ y → y ≡ false
    go true e = absurd (let l = starts-length p t e in omega arith)
    go false e = refl
