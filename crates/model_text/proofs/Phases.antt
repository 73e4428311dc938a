-- The phases of reading, over lines with others put in behind them.
use mathlib.Core.Path.{◌≡◌, refl, sym, ap, ◌∙◌, subst}
use mathlib.Core.Bool.{Bool, false}
use mathlib.Core.List.{List, [], ◌∷◌, ◌++◌, map, append-nil}
use Prim.Native.Nat.{ℕ, ◌+◌, ◌≤◌}
use native.Mathlib.Omega.{arith}
use lib.{ListN.length, ListN.length-append, Seq.append_snoc}
use Rattle.model.specs.{Parsed.Parsed, Parsed.need, Parsed.◌>>◌, Parsed.◌>>=◌, Text.same, Text.equals_sign, Phase.Phase, Phase.got, Phase.refused, Phase.after}
use Rattle.model.specs.{Phase.numbered, Phase.one, Phase.onward, Phase.each_line, Phase.many, Phase.one_more, Phase.some, Accepted.Every}
use Rattle.model.proofs.Parsed.{never as never-got}
use Rattle.model_text.proofs.LineLaws.{same_refl, more-ok}
use Rattle.model_text.specs.Text.{named}
use Rattle.model_text.proofs.{Bytes.Free, Texts.divide-past}

-- ---- The name of a line

after_line : (w u v : List ℕ) → Free equals_sign u → after w (named u v) ≡ (need (same u w) 3 >> Parsed.got v)
unfolding after named
after_line w u v h = rw (divide-past equals_sign 3 u v h)

pub after-own : (w v : List ℕ) → Free equals_sign w → after w (named w v) ≡ Parsed.got v
after-own w v h = after_line w w v h ∙ ap (λ (t : Bool). need t 3 >> Parsed.got v) (same_refl w)

-- a line of the name w
abbrev pub Named : List ℕ → List ℕ → Type 0
Named w l = (v : List ℕ) × (l ≡ named w v)

-- no line of the name w comes next
abbrev pub Other : List ℕ → List (List ℕ) → Type 0
Other w [] = Unit {0}
Other w (l ∷ ls) = (r : ℕ) × (after w l ≡ Parsed.refused r)

pub other-line : (w u v : List ℕ) (ls : List (List ℕ)) → Free equals_sign u → same u w ≡ false → Other w (named u v ∷ ls)
other-line w u v ls h differ = (3, after_line w u v h ∙ ap (λ (t : Bool). need t 3 >> Parsed.got v) differ)

other-append : (w : List ℕ) (ls ks : List (List ℕ)) → Other w ls → Other w ks → Other w (ls ++ ks)
other-append w [] ks h k = k
other-append w (l ∷ ls) ks h k = h

-- ---- What a phase that reads something went through

pub never : {A B : Type 0} {r n m : ℕ} {a : A} {ls : List (List ℕ)} → ◌≡◌ {A = Phase A} (refused r n) (got a m ls) → B
never e = absurd (let z : ◌≡◌ {A = ℕ} 0 1 = cc in omega arith)

-- ks are the last of ls
abbrev pub Last : List (List ℕ) → List (List ℕ) → Type 0
Last ks ls = (ps : List (List ℕ)) × (ls ≡ ps ++ ks)

-- what read takes from the lines before us it takes from the same lines before vs, and the same of them are left
abbrev pub Through : {A : Type 0} → (List (List ℕ) → Phase A) → List (List ℕ) → List (List ℕ) → Type 0
Through {A} read us vs =
    (ls : List (List ℕ)) (a : A) (n : ℕ) (rest : List (List ℕ)) → read (ls ++ us) ≡ got a n rest
    → (ks : List (List ℕ)) × Last ks ls × (rest ≡ ks ++ us) × (read (ls ++ vs) ≡ got a n (ks ++ vs))

-- ---- Many lines

module _ {A : Type 0} (w : List ℕ) (f : A → List ℕ → Parsed A) where
  -- The lines ls lead from a at the number n to b at the number m; ks are left of them, and no line of the name w comes next in these.
  data Leads : ℕ → A → List (List ℕ) → ℕ → A → List (List ℕ) → Type 0 where
    none : {n : ℕ} {a : A} {ks : List (List ℕ)} → Other w ks → Leads n a ks n a ks
    line : {n m : ℕ} {a b c : A} {l v : List ℕ} {ls ks : List (List ℕ)} → after w l ≡ Parsed.got v → f a v ≡ Parsed.got c → Leads (n + 1) c ls m b ks
        → Leads n a (l ∷ ls) m b ks

  leads-read : {n m : ℕ} {a b : A} {ls ks : List (List ℕ)} → Leads n a ls m b ks → (us : List (List ℕ)) → many w f n a (ls ++ us) ≡ many w f m b (ks ++ us)
  unfolding many
  leads-read (none o) us = refl
  leads-read (line p q h) us = rw (p, q) (leads-read h us)

  leads-other : {n m : ℕ} {a b : A} {ls ks : List (List ℕ)} → Leads n a ls m b ks → Other w ks
  leads-other (none o) = o
  leads-other (line p q h) = leads-other h

  leads-last : {n m : ℕ} {a b : A} {ls ks : List (List ℕ)} → Leads n a ls m b ks → Last ks ls
  leads-last (none o) = ([], refl)
  leads-last (line {l = l} p q h) = let r = leads-last h in (l ∷ r.0, ap (λ (x : List (List ℕ)). l ∷ x) r.1)

  -- from another number on
  leads-again : {n m : ℕ} {a b : A} {ls ks : List (List ℕ)} → Leads n a ls m b ks → (k : ℕ) → (i : ℕ) × Leads k a ls i b ks
  leads-again (none o) k = (k, none o)
  leads-again (line p q h) k = let r = leads-again h (k + 1) in (r.0, line p q r.1)

  -- lines of the name w are all taken
  leads-all : {n m : ℕ} {a b : A} {ls ks : List (List ℕ)} → Free equals_sign w → Leads n a ls m b ks → Every (Named w) ls → ks ≡ []
  leads-all {ks = ks} free (none o) e = go ks o e
    where
      go : (ks : List (List ℕ)) → Other w ks → Every (Named w) ks → ks ≡ []
      go [] o e = refl
      go (k ∷ ks) o e = never-got (sym o.1 ∙ ap (after w) e.0.1 ∙ after-own w e.0.0 free)
  leads-all free (line p q h) e = leads-all free h e.1

  leads-keep : (P : A → Type 0) → ((a b : A) (v : List ℕ) → f a v ≡ Parsed.got b → P a → P b)
      → {n m : ℕ} {a b : A} {ls ks : List (List ℕ)} → Leads n a ls m b ks → P a → P b
  leads-keep P step (none o) p = p
  leads-keep P step (line q r h) p = leads-keep P step h (step _ _ _ r p)

  pub many-next : (n : ℕ) (a b : A) (v : List ℕ) (ls : List (List ℕ)) → Free equals_sign w → f a v ≡ Parsed.got b → many w f n a (named w v ∷ ls) ≡ many w f (n + 1) b ls
  unfolding many
  many-next n a b v ls h e = rw (after-own w v h, e)

  pub many-other : (n : ℕ) (a : A) (ls : List (List ℕ)) → Other w ls → many w f n a ls ≡ got a n ls
  unfolding many
  many-other n a [] o = refl
  many-other n a (l ∷ ls) o = rw o.1

  -- what lines before others that are not taken lead to
  abbrev Led : ℕ → A → List (List ℕ) → ℕ → A → List (List ℕ) → List (List ℕ) → Type 0
  Led n a ls m b us rest = (ks : List (List ℕ)) × Leads n a ls m b ks × (rest ≡ ks ++ us)

  led-none : (n m : ℕ) (a b : A) (ls us rest : List (List ℕ)) → Other w ls → ◌≡◌ {A = Phase A} (got a n (ls ++ us)) (got b m rest) → Led n a ls m b us rest
  led-none n m a b ls us rest o e =
      let p : a ≡ b = cc in
      let q : n ≡ m = cc in
      (ls, subst (λ (x : A). Leads n a ls m x ls) p (subst (λ (x : ℕ). Leads n a ls x a ls) q (none o)), cc)

  many-led : (n m : ℕ) (a b : A) (ls us rest : List (List ℕ)) → Other w us → many w f n a (ls ++ us) ≡ got b m rest → Led n a ls m b us rest
  unfolding many
  many-led n m a b [] us rest o e = led-none n m a b [] us rest tt (sym (many-other n a us o) ∙ e)
  many-led n m a b (l ∷ ls) us rest o e = go (after w l) refl e (λ c q. many-led (n + 1) m c b ls us rest o q)
    where
      Rest : Type 0
      Rest = (c : A) → many w f (n + 1) c (ls ++ us) ≡ got b m rest → Led (n + 1) c ls m b us rest

      further : (v : List ℕ) → after w l ≡ Parsed.got v → (r : Parsed A) → f a v ≡ r → onward n r (λ c. many w f (n + 1) c (ls ++ us)) ≡ got b m rest → Rest
          → Led n a (l ∷ ls) m b us rest
      further v p (Parsed.got c) q e i = let h = i c e in (h.0, line p q h.1, h.2)
      further v p (Parsed.refused r) q e i = never e

      go : (r : Parsed (List ℕ)) → after w l ≡ r → each_line n a (l ∷ (ls ++ us)) r (f a) (λ c. many w f (n + 1) c (ls ++ us)) ≡ got b m rest → Rest
          → Led n a (l ∷ ls) m b us rest
      go (Parsed.got v) p e i = further v p (f a v) refl e i
      go (Parsed.refused r) p e i = led-none n m a b (l ∷ ls) us rest (r, p) e

  pub many-through : (n : ℕ) (a : A) (us vs : List (List ℕ)) → Other w us → Other w vs → Through (many w f n a) us vs
  many-through n a us vs o p ls b m rest e =
      let h = many-led n m a b ls us rest o e in
      (h.0, leads-last h.1, h.2, leads-read h.1 vs ∙ many-other m b (h.0 ++ vs) (other-append w h.0 vs (leads-other h.1) p))

  -- where one line is left, and one follows, none of those before is left
  pub many-whole : (n m : ℕ) (a b : A) (ls : List (List ℕ)) (u l : List ℕ) (us : List (List ℕ)) → Other w (u ∷ us) → many w f n a (ls ++ (u ∷ us)) ≡ got b m (l ∷ [])
      → (u ∷ us ≡ l ∷ []) × ((vs : List (List ℕ)) → many w f n a (ls ++ vs) ≡ many w f m b vs)
  many-whole n m a b ls u l us o e = let h = many-led n m a b ls (u ∷ us) (l ∷ []) o e in go h.0 h.1 h.2
    where
      go : (ks : List (List ℕ)) → Leads n a ls m b ks → l ∷ [] ≡ ks ++ (u ∷ us) → (u ∷ us ≡ l ∷ []) × ((vs : List (List ℕ)) → many w f n a (ls ++ vs) ≡ many w f m b vs)
      go [] h q = (sym q, leads-read h)
      go (k ∷ ks) h q = absurd (let z = length-append ks (u ∷ us) in omega (arith, ap length q))

  -- all lines of the name w are taken, where no such line follows
  pub many-all : (n m : ℕ) (a b : A) (ls us rest : List (List ℕ)) → Free equals_sign w → Every (Named w) ls → Other w us → many w f n a (ls ++ us) ≡ got b m rest
      → rest ≡ us
  many-all n m a b ls us rest free e o g =
      let h = many-led n m a b ls us rest o g in
      h.2 ∙ ap (λ (x : List (List ℕ)). x ++ us) (leads-all free h.1 e)

  -- the number of the first line makes no difference
  pub many-again : (n m : ℕ) (a b : A) (ls rest : List (List ℕ)) → many w f n a ls ≡ got b m rest → (k : ℕ) → (i : ℕ) × (many w f k a ls ≡ got b i rest)
  many-again n m a b ls rest g k =
      let h = many-led n m a b ls [] rest tt (ap (many w f n a) (append-nil ls) ∙ g) in
      let r = leads-again h.1 k in
      let o = other-append w h.0 [] (leads-other h.1) tt in
      (r.0, ap (many w f k a) (sym (append-nil ls)) ∙ leads-read r.1 [] ∙ many-other r.0 b (h.0 ++ []) o ∙ ap (got b r.0) (sym h.2))

  -- what every line keeps, the phase keeps
  pub many-keeps : (P : A → Type 0) → ((a b : A) (v : List ℕ) → f a v ≡ Parsed.got b → P a → P b) → (n m : ℕ) (a b : A) (ls us rest : List (List ℕ)) → Other w us
      → many w f n a (ls ++ us) ≡ got b m rest → P a → P b
  many-keeps P step n m a b ls us rest o e = leads-keep P step (many-led n m a b ls us rest o e).1

-- ---- Lines that are written

-- each is read alike, up to a limit, behind those that are read already
module _ {A : Type 0} (w : List ℕ) (limit : ℕ) (f : List ℕ → Parsed A) (g : A → List ℕ) (P : A → Type 0) (reads : (a : A) → P a → f (g a) ≡ Parsed.got a) where
  pub many-written : (n : ℕ) (xs ys : List A) (us : List (List ℕ)) → Free equals_sign w → length xs + length ys ≤ limit → Every P ys → Other w us
      → (m : ℕ) × (many w (one_more limit f) n xs (map (λ (y : A). named w (g y)) ys ++ us) ≡ got (xs ++ ys) m us)
  many-written n xs [] us h l k o = (n, many-other w (one_more limit f) n xs us o ∙ ap (λ (zs : List A). got zs n us) (sym (append-nil xs)))
  many-written n xs (y ∷ ys) us h l k o =
      let s = length-append xs (y ∷ []) in
      let r = many-written (n + 1) (xs ++ (y ∷ [])) ys us h (omega arith) k.1 o in
      let e = more-ok limit f xs (g y) y (omega arith) (reads y k.0) in
      (r.0, many-next w (one_more limit f) n xs (xs ++ (y ∷ [])) (g y) _ h e ∙ r.1 ∙ ap (λ (zs : List A). got zs r.0 us) (append_snoc xs y ys))

-- ---- One line, and at least one

module _ {A : Type 0} where
  pub one-through : (w : List ℕ) (f : List ℕ → Parsed A) (n : ℕ) (us vs : List (List ℕ)) → Other w us → Through (one w f n) us vs
  unfolding one
  one-through w f n [] vs o [] a m rest e = never e
  one-through w f n (u ∷ us) vs o [] a m rest e = never (rw o.1 at e)
  one-through w f n us vs o (l ∷ ls) a m rest e = go (after w l >>= f) e
    where
      go : (r : Parsed A) → numbered n (ls ++ us) r ≡ got a m rest
          → (ks : List (List ℕ)) × Last ks (l ∷ ls) × (rest ≡ ks ++ us) × (numbered n (ls ++ vs) r ≡ got a m (ks ++ vs))
      go (Parsed.got b) e = (ls, (l ∷ [], refl), cc, cc)
      go (Parsed.refused r) e = never e

  pub some-got : (x : Phase (List A)) (cs : List A) (n : ℕ) (ls : List (List ℕ)) → some x ≡ got cs n ls
      → (x ≡ got cs n ls) × ((us : List (List ℕ)) → some (got cs n us) ≡ got cs n us)
  some-got (got [] m ks) cs n ls e = never e
  some-got (got (d ∷ ds) m ks) cs n ls e =
      let p : d ∷ ds ≡ cs = cc in
      (e, λ us. subst (λ (zs : List A). some (got zs n us) ≡ got zs n us) p refl)
  some-got (refused r m) cs n ls e = never e

  pub some-through : (read : List (List ℕ) → Phase (List A)) (us vs : List (List ℕ)) → Through read us vs → Through (λ ls. some (read ls)) us vs
  some-through read us vs h ls cs n rest e =
      let g = some-got (read (ls ++ us)) cs n rest e in
      let r = h ls cs n rest g.0 in
      (r.0, r.1, r.2, ap some r.3 ∙ g.1 (r.0 ++ vs))
