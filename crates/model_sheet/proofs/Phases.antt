-- The phases of reading: what each took from the lines is what is written of what it read; and the lines that are written for one are read so.
use mathlib.Core.Path.{◌≡◌, refl, sym, ap, ◌∙◌, subst}
use mathlib.Core.List.{List, [], ◌∷◌, ◌++◌, map, map-append}
use Prim.Native.Nat.{ℕ, ◌+◌, ◌≤◌}
use lib.{Dec.ltb, ListN.length, Seq.append_snoc}
use Rattle.model.specs.{Parsed.Parsed, Parsed.◌>>◌, Parsed.◌>>=◌, Text.same, Text.divide, Text.equals_sign, Number.from_one, Decimal.natural}
use Rattle.model.specs.Phase.{Phase, got, after, numbered, one, onward, each_line, many, one_more}
use Rattle.model.specs.Parsed as Parsed
use Rattle.model.proofs.{Parsed.bind-got, Parsed.need-got, Accepted.from-one-bound}
use Rattle.model_text.proofs.TextLaws.{from-one-ok}
use Rattle.model_text.proofs.LineLaws.{same-eq}
use Rattle.model_text.specs.Text.{named}
use Rattle.model_text.proofs.{Bytes.Free, Numbers.Small, Numbers.natural-read, Phases.never, Phases.after-own}
use Rattle.model_sheet.proofs.{Passed.got-is, Numbers.from-one-back, Texts.divide-back}

-- ---- The name of a line

-- a line of the name w is that name, an equals sign, and what follows it
after-back : (w l v : List ℕ) → after w l ≡ Parsed.got v → named w v ≡ l
unfolding after named
after-back w l v e =
    let d = bind-got (divide equals_sign 3 l) _ v e in
    let x = d.0 in
    let n = need-got (same x.0 w) 3 (Parsed.got x.1) v d.2 in
    ap (λ (y : List ℕ). y ++ (equals_sign ∷ v)) (sym (same-eq x.0 w n.0))
    ∙ ap (λ (y : List ℕ). x.0 ++ (equals_sign ∷ y)) (sym (got-is n.1))
    ∙ divide-back equals_sign 3 l x d.1

-- ---- One line

module _ {A : Type 0} (w : List ℕ) (f : List ℕ → Parsed A) where
  -- a line of the name w whose value is read is taken
  pub one-read : Free equals_sign w → (n : ℕ) (v : List ℕ) (a : A) (ls : List (List ℕ)) → f v ≡ Parsed.got a → one w f n (named w v ∷ ls) ≡ got a (n + 1) ls
  unfolding one
  one-read h n v a ls e = rw (after-own w v h, e)

  -- the line that was taken has the name w, and its value was read
  pub one-back : (n m : ℕ) (a : A) (ls rest : List (List ℕ)) → one w f n ls ≡ got a m rest → (v : List ℕ) × (f v ≡ Parsed.got a) × (named w v ∷ rest ≡ ls)
  unfolding one
  one-back n m a [] rest e = never e
  one-back n m a (l ∷ ls) rest e =
      let q = go (after w l >>= f) e in
      let b = bind-got (after w l) f a q.0 in
      (b.0, b.2, cc (after-back w l b.0 b.1, q.1))
    where
      go : (r : Parsed A) → numbered n ls r ≡ got a m rest → (r ≡ Parsed.got a) × (ls ≡ rest)
      go (Parsed.got c) e = (let q : c ≡ a = cc in ap Parsed.got q, cc)
      go (Parsed.refused r) e = never e

-- a line with a number from 1 to a limit
module _ (w : List ℕ) (most : ℕ) (small : Small most) where
  -- written, it is read as that number
  pub count-read : Free equals_sign w → (n a : ℕ) (ls : List (List ℕ)) → 1 ≤ a → a ≤ most → one w (from_one most) n (named w (natural a) ∷ ls) ≡ got a (n + 1) ls
  count-read h n a ls l k = one-read w (from_one most) h n (natural a) a ls (from-one-ok most a (natural a) (natural-read most a small k) l)

  -- read, the number is within the limit, and is written as it stood
  pub count-back : (n m a : ℕ) (ls rest : List (List ℕ)) → one w (from_one most) n ls ≡ got a m rest → (1 ≤ a) × (a ≤ most) × (named w (natural a) ∷ rest ≡ ls)
  count-back n m a ls rest e =
      let b = one-back w (from_one most) n m a ls rest e in
      let r = from-one-bound most a b.0 b.1 in
      (r.0, r.1, ap (λ (x : List ℕ). named w x ∷ rest) (from-one-back most a b.0 small b.1) ∙ b.2)

-- ---- Many lines

-- If each line read into what was read before is one line more of those written of it, the lines taken are the lines written. P is what reading keeps.
module _ {A : Type 0} (w : List ℕ) (f : A → List ℕ → Parsed A) (P : A → Type 0) (written : A → List (List ℕ))
    (step : (a b : A) (v : List ℕ) → f a v ≡ Parsed.got b → P a → P b × (written b ≡ written a ++ (named w v ∷ []))) where
  -- from a on the lines ls were taken up to rest, and made b
  abbrev Took : A → List (List ℕ) → A → List (List ℕ) → Type 0
  Took a ls b rest = P b × (written b ++ rest ≡ written a ++ ls)

  -- so it is where no line was taken
  none-taken : (n m : ℕ) (a b : A) (ls rest : List (List ℕ)) → ◌≡◌ {A = Phase A} (got a n ls) (got b m rest) → P a → Took a ls b rest
  none-taken n m a b ls rest e p =
      let q : a ≡ b = cc in
      let r : rest ≡ ls = cc in
      (subst P q p, ap (λ (x : A). written x ++ rest) (sym q) ∙ ap (λ (x : List (List ℕ)). written a ++ x) r)

  -- and where the phase took as many as there are
  pub many-back : (n m : ℕ) (a b : A) (ls rest : List (List ℕ)) → many w f n a ls ≡ got b m rest → P a → Took a ls b rest
  unfolding many
  many-back n m a b [] rest e p = none-taken n m a b [] rest e p
  many-back n m a b (l ∷ ls) rest e p = go (after w l) refl e (λ c q k. many-back (n + 1) m c b ls rest q k)
    where
      Rest : Type 0
      Rest = (c : A) → many w f (n + 1) c ls ≡ got b m rest → P c → Took c ls b rest

      further : (v : List ℕ) → after w l ≡ Parsed.got v → (r : Parsed A) → f a v ≡ r → onward n r (λ c. many w f (n + 1) c ls) ≡ got b m rest → Rest
          → Took a (l ∷ ls) b rest
      further v t (Parsed.got c) q e i =
          let s = step a c v q p in
          let k = i c e s.0 in (
            k.0,
            k.1 ∙ ap (λ (x : List (List ℕ)). x ++ ls) s.1 ∙ append_snoc (written a) (named w v) ls
                ∙ ap (λ (x : List ℕ). written a ++ (x ∷ ls)) (after-back w l v t),
          )
      further v t (Parsed.refused r) q e i = never e

      go : (r : Parsed (List ℕ)) → after w l ≡ r → each_line n a (l ∷ ls) r (f a) (λ c. many w f (n + 1) c ls) ≡ got b m rest → Rest → Took a (l ∷ ls) b rest
      go (Parsed.got v) t e i = further v t (f a v) refl e i
      go (Parsed.refused r) t e i = none-taken n m a b (l ∷ ls) rest e p

-- ---- Lines that are read alike, up to a limit

module _ {A : Type 0} (w : List ℕ) (limit : ℕ) (f : List ℕ → Parsed A) (g : A → List ℕ) (back : (v : List ℕ) (a : A) → f v ≡ Parsed.got a → g a ≡ v) where
  -- the lines that are written
  abbrev each : List A → List (List ℕ)
  each xs = map (λ (x : A). named w (g x)) xs

  -- one line more that was read is one line more written
  more-back : (xs ys : List A) (v : List ℕ) → one_more limit f xs v ≡ Parsed.got ys → each ys ≡ each xs ++ (named w v ∷ [])
  unfolding one_more
  more-back xs ys v e =
      let b = bind-got (f v) _ ys (need-got (ltb (length xs) limit) 8 _ ys e).1 in
      ap each (sym (got-is b.2))
      ∙ map-append (λ (x : A). named w (g x)) xs (b.0 ∷ [])
      ∙ ap (λ (x : List ℕ). each xs ++ (named w x ∷ [])) (back v b.0 b.1)

  -- the lines taken are the lines written
  pub alike-back : (n m : ℕ) (xs : List A) (ls rest : List (List ℕ)) → many w (one_more limit f) n [] ls ≡ got xs m rest → each xs ++ rest ≡ ls
  alike-back n m xs ls rest e = (many-back w (one_more limit f) (λ ys. Unit {0}) each (λ ys zs v q p. (tt, more-back ys zs v q)) n m [] xs ls rest e tt).1
