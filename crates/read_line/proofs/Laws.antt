-- Laws of the first line of a text, and of the phases that read one line or many.
use mathlib.Core.Path.{◌≡◌, refl, sym, ap, ◌∙◌, subst}
use mathlib.Core.Bool.{true, false}
use mathlib.Core.List.{List, [], ◌∷◌, ◌++◌, map}
use Prim.Native.Nat.{ℕ, ◌+◌, ◌-◌, ◌<◌, ◌≤◌}
use native.Mathlib.{Decide.dec_lt, Omega.arith}
use lib.{ListN.length, ListN.take, ListN.drop, ListN.set, ListN.length-append, ListN.length-drop, ListN.length-map, Seq.drop-drop, Seq.length-take-le}
use Rattle.model.specs.{Parsed.Parsed, Parsed.got, Parsed.refused, Parsed.◌>>=◌, Text.find, Text.lines, Text.equals_sign, Text.line_feed, Phase.after, Phase.one}
use Rattle.model.specs.{Phase.many, Phase.one_more, Phase.numbered, Phase.onward, Phase.each_line}
use Rattle.model.specs.Phase as Model
use Rattle.model.proofs.{Parsed.never, Stored.map_more}
use Rattle.model_text.specs.Found.{starts, Word}
use Rattle.model_text.proofs.LineLaws.{more-full, more-bad, more-ok, lines_none, lines_more, line-none, line_first, starts-take, after-named, after-other}
use Rattle.read_line.specs.Phase.{faulted, beside, headed, found_as, FeedInside, FirstLine, Reads}
use Rattle.std.specs.Prelude.{Option, None, Some, Result, Ok, Err}
use Rattle.model.specs.Refusal.{number_of}
use Rattle.model.specs.declared.{Fault.Fault, Refusal.Refusal}
use Rattle.model.specs.declared.Refusal.TheVariants.{Misplaced}

-- ---- The first line of the text t: where it starts with the name, u is what follows, and e the place of its first line feed

module _ {w p : List ℕ} (W : Word w p) (t : List ℕ) where
  pub headed-other : starts p t ≡ false → headed w (lines t) ≡ refused 3
  unfolding headed
  headed-other h = go (dec_lt (find line_feed t) (length t))
    where
      go : Dec (find line_feed t < length t) → headed w (lines t) ≡ refused 3
      go (yes l) = rw (lines_more t l, after-other w (take (find line_feed t) t) W.no_sign (starts-take (w ++ (equals_sign ∷ [])) t (find line_feed t) (rw W.sign at h)))
      go (no l) = let m : length t ≤ find line_feed t = omega arith in rw (lines_none t m)

  module _ (h : starts p t ≡ true) (u : List ℕ) (d : u ≡ drop (length p) t) (e : ℕ) (q : e ≡ find line_feed u) where
    long : length p ≡ length w + 1
    long = ap length W.sign ∙ length-append w (equals_sign ∷ [])

    pub headed-short : length u ≤ e → headed w (lines t) ≡ refused 3
    unfolding headed
    headed-short l = rw (line-none w t W.no_sign W.no-feed (rw W.sign at h) u (d ∙ ap (λ m. drop m t) long) e q l)

    pub headed-at : e < length u → headed w (lines t) ≡ found_as t (Some (length p, length p + e))
    unfolding headed
    headed-at l =
        let m : length p + e + 1 ≡ length p + (e + 1) = omega arith in
        let n : length p + e - length p ≡ e = omega arith in
        let y : drop (e + 1) u ≡ drop (length p + (e + 1)) t = ap (drop (e + 1)) d ∙ drop-drop (e + 1) (length p) t in
        let f = line_first w t W.no_sign W.no-feed (rw W.sign at h) u (d ∙ ap (λ m. drop m t) long) e q l in
        rw (n, m, ← d, ← y, f, after-named w (take e u) W.no_sign)

-- ---- A refusal on its line

pub read-faulted : {X : Type 0} (l : ℕ) (r : Result X Refusal) (x : X) → Ok x ≡ faulted l r → r ≡ Ok x
read-faulted l (Ok y) x h = let q : y ≡ x = cc in ap Ok q
read-faulted l (Err y) x h = cc

pub refused-faulted : {X : Type 0} (l : ℕ) (r : Result X Refusal) (e : Fault) → Err e ≡ faulted l r → (y : Refusal) × (r ≡ Err y) × (e ≡ record { refusal = y; line = l })
refused-faulted l (Ok x) e h = cc
refused-faulted l (Err y) e h = (y, refl, cc)

-- ---- A phase by the first of its lines

inside : {A : Type 0} {a b : A} → ◌≡◌ {A = Parsed A} (got a) (got b) → a ≡ b
inside e = cc

module _ {A : Type 0} (w : List ℕ) (n : ℕ) where
  one_none : (f : List ℕ → Parsed A) (ls : List (List ℕ)) → headed w ls ≡ refused 3 → one w f n ls ≡ Model.refused 3 n
  unfolding headed one
  one_none f [] h = refl
  one_none f (l ∷ ls) h = go (after w l) h
    where
      go : (x : Parsed (List ℕ)) → (x >>= beside ls) ≡ refused 3 → numbered n ls (x >>= f) ≡ Model.refused 3 n
      go (got v) e = never (sym e)
      go (refused r) e = let q : r ≡ 3 = cc in ap (λ m. Model.refused m n) q

  one_line : (f : List ℕ → Parsed A) (ls rest : List (List ℕ)) (v : List ℕ) → headed w ls ≡ got (v, rest) → one w f n ls ≡ numbered n rest (f v)
  unfolding headed one
  one_line f [] rest v h = never h
  one_line f (l ∷ ls) rest v h = go (after w l) h
    where
      go : (x : Parsed (List ℕ)) → (x >>= beside ls) ≡ got (v, rest) → numbered n ls (x >>= f) ≡ numbered n rest (f v)
      go (got u) e = ap (λ (x : List ℕ × List (List ℕ)). numbered n x.1 (f x.0)) (inside e)
      go (refused r) e = never e

  many-none : (F : A → List ℕ → Parsed A) (x : A) (ls : List (List ℕ)) → headed w ls ≡ refused 3 → many w F n x ls ≡ Model.got x n ls
  unfolding headed many
  many-none F x [] h = refl
  many-none F x (l ∷ ls) h = go (after w l) h
    where
      go : (y : Parsed (List ℕ)) → (y >>= beside ls) ≡ refused 3 → each_line n x (l ∷ ls) y (F x) (λ b. many w F (n + 1) b ls) ≡ Model.got x n (l ∷ ls)
      go (got v) e = never (sym e)
      go (refused r) e = refl

  many-line : (F : A → List ℕ → Parsed A) (x : A) (ls rest : List (List ℕ)) (v : List ℕ) → headed w ls ≡ got (v, rest) → many w F n x ls ≡ onward n (F x v) (λ b. many w F (n + 1) b rest)
  unfolding headed many
  many-line F x [] rest v h = never h
  many-line F x (l ∷ ls) rest v h = go (after w l) h
    where
      go : (y : Parsed (List ℕ)) → (y >>= beside ls) ≡ got (v, rest) → each_line n x (l ∷ ls) y (F x) (λ b. many w F (n + 1) b ls) ≡ onward n (F x v) (λ b. many w F (n + 1) b rest)
      go (got u) e = ap (λ (y : List ℕ × List (List ℕ)). onward n (F x y.0) (λ b. many w F (n + 1) b y.1)) (inside e)
      go (refused r) e = never e

-- where a line of the name ends
pub feed-inside : {p t : List ℕ} {r : Option (ℕ × ℕ)} {x : ℕ × ℕ} → FirstLine p t r → r ≡ Some x → (x.0 ≤ x.1) × (x.1 < length t)
feed-inside {p} {t} l q = subst (FeedInside t) q l.feed

-- ---- A phase of one line, by the first line of s

module _ {w p s : List ℕ} {r : Option (ℕ × ℕ)} (W : Word w p) (l : FirstLine p s r) where
  other : r ≡ None → headed w (lines s) ≡ refused 3
  other q = sym (l.line w W) ∙ ap (found_as s) q

  named : {x : ℕ × ℕ} → r ≡ Some x → headed w (lines s) ≡ got (take (x.1 - x.0) (drop x.0 s), lines (drop (x.1 + 1) s))
  named q = sym (l.line w W) ∙ ap (found_as s) q

  module _ {X A : Type 0} (f : List ℕ → Parsed A) (g : X → A) {first : ℕ} where
    pub one-other : r ≡ None → Reads (one w f) g s first (Err (record { refusal = Misplaced; line = first }))
    one-other q = record { read = sym (one_none w first f (lines s) (other q)); ahead = tt }

    pub one-bad : {x : ℕ × ℕ} {y : Refusal} → r ≡ Some x → f (take (x.1 - x.0) (drop x.0 s)) ≡ refused (number_of y) → Reads (one w f) g s first (Err (record { refusal = y; line = first }))
    one-bad q b = record { read = sym (one_line w first f (lines s) _ _ (named q) ∙ rw b); ahead = tt }

    pub one_ok : {x : ℕ × ℕ} {a : X} → r ≡ Some x → f (take (x.1 - x.0) (drop x.0 s)) ≡ got (g a) → Reads (one w f) g s first (Ok (a, record { line = first + 1; at = x.1 + 1 }))
    one_ok q b = let h = feed-inside l q in record { read = sym (one_line w first f (lines s) _ _ (named q) ∙ rw b); ahead = (omega arith, omega arith) }

-- ---- A phase of many lines, by a loop over s: the lines before a gave x, and those from a on, of which the first has the number line, are left

pub record Going {A : Type 0} (w : List ℕ) (F : A → List ℕ → Parsed A) (start : A) (s : List ℕ) (first line a : ℕ) (x : A) : Type 0 where
  pub place : a ≤ length s
  pub number : line ≤ first + a
  pub same : many w F line x (lines (drop a s)) ≡ many w F first start (lines s)

module _ {A : Type 0} {w : List ℕ} {F : A → List ℕ → Parsed A} {start : A} {s : List ℕ} {first : ℕ} where
  pub going_on : (x : A) → x ≡ start → Going w F start s first first 0 x
  going_on x q = record { place = omega arith; number = omega arith; same = rw q }

  module _ {p t : List ℕ} {r : Option (ℕ × ℕ)} (W : Word w p) (l : FirstLine p t r) {line a : ℕ} {x : A} (g : Going w F start s first line a x) (d : t ≡ drop a s) where
    pub going-left : {X : Type 0} (f : X → A) (y : X) → f y ≡ x → r ≡ None → Reads (λ n ls. many w F n start ls) f s first (Ok (y, record { line = line; at = a }))
    going-left f y h q = record { read = rw h (sym (sym g.same ∙ many-none w line F x (lines (drop a s)) (rw (← d) (other W l q)))); ahead = (g.place, g.number) }

    module _ {v : ℕ × ℕ} (q : r ≡ Some v) where
      within : headed w (lines (drop a s)) ≡ got (take (v.1 - v.0) (drop v.0 t), lines (drop (a + v.1 + 1) s))
      within = let m : a + v.1 + 1 ≡ a + (v.1 + 1) = omega arith in rw (m, ← (drop-drop (v.1 + 1) a s), ← d) (named W l q)

      pub going-bad : {X : Type 0} (f : X → A) {y : Refusal} → F x (take (v.1 - v.0) (drop v.0 t)) ≡ refused (number_of y) → Reads (λ n ls. many w F n start ls) f s first (Err (record { refusal = y; line = line }))
      going-bad f b = record { read = sym (sym g.same ∙ many-line w line F x (lines (drop a s)) _ _ within ∙ rw b); ahead = tt }

      -- the next line starts within s
      pub going-bound : a + v.1 + 1 ≤ length s
      going-bound =
          let h = feed-inside l q in
          let n : length t ≡ length s - a = rw d (length-drop a s) in
          omega (arith, g.place)

      pub going_more : (y : A) → F x (take (v.1 - v.0) (drop v.0 t)) ≡ got y → Going w F start s first (line + 1) (a + v.1 + 1) y
      going_more y b = record { place = going-bound; number = omega (arith, g.number); same = sym (many-line w line F x (lines (drop a s)) _ _ within ∙ rw b) ∙ g.same }

-- ---- A line more into an array: f shows what an element stands for, and the first n of xs count

module _ {A B C : Type 0} (f : A → B) (m : ℕ) (read : C → Parsed B) (n : ℕ) (xs : List A) (v : C) where
  shown : n ≤ length xs → length (map f (take n xs)) ≡ n
  shown h = length-map (take n xs) f ∙ length-take-le n xs h

  pub array-full : m ≤ n → n ≤ length xs → one_more m read (map f (take n xs)) v ≡ refused 8
  array-full l h = more-full m read (map f (take n xs)) v (rw (shown h) l)

  module _ (l : n < m) (h : n < length xs) where
    pub array-bad : (r : ℕ) → read v ≡ refused r → one_more m read (map f (take n xs)) v ≡ refused r
    array-bad r e = more-bad m read (map f (take n xs)) v r (rw (shown (omega arith)) l) e

    pub array_ok : (x : A) → read v ≡ got (f x) → one_more m read (map f (take n xs)) v ≡ got (map f (take (n + 1) (set xs n x)))
    array_ok x e = more-ok m read (map f (take n xs)) v (f x) (rw (shown (omega arith)) l) e ∙ ap got (sym (map_more f n xs x h))
