-- What a text is taken apart into makes that text again: `split` and `joined`, `divide`, `lines` and `unlines`.
use mathlib.Core.Path.{◌≡◌, refl, sym, ap, ◌∙◌}
use mathlib.Core.Bool.{Bool, true, false, cond, true≢false}
use mathlib.Core.List.{List, [], ◌∷◌, ◌++◌, append_assoc}
use Prim.Native.Nat.{ℕ, suc, ◌<◌}
use native.Mathlib.Omega.{arith}
use lib.{Dec.eqb, Dec.ltb, ListN.length, ListN.get_or, ListN.take, ListN.drop, Seq.split_at}
use borrow.Author.Tests.{eqb-true, ltb-true}
use Rattle.model.specs.{Parsed.got, Text.find, Text.divide, Text.split, Text.grow, Text.init, Text.lines, Text.line_feed, Sheet.closed}
use Rattle.model_text.proofs.{TextLaws.find_at, LineLaws.split-some}
use Rattle.model_text.specs.Text.{joined, unlines}
use Rattle.model_sheet.proofs.Passed.{got-is, when-got}

-- ---- The parts of a text

-- a byte more before the parts of a text
joined-grow : (c b : ℕ) (t : Bool) → eqb b c ≡ t → (p : List ℕ) (ps : List (List ℕ)) → joined c (grow t b (p ∷ ps)) ≡ b ∷ joined c (p ∷ ps)
unfolding joined
joined-grow c b true e p ps = cc (eqb-true b c e)
joined-grow c b false e p [] = refl
joined-grow c b false e p (q ∷ ps) = refl

-- the parts put together are the text
pub joined-split : (c : ℕ) (s : List ℕ) → joined c (split c s) ≡ s
unfolding split joined
joined-split c [] = refl
joined-split c (b ∷ s) =
    let k = split-some c s in
    ap (λ (x : List (List ℕ)). joined c (grow (eqb b c) b x)) k.2
    ∙ joined-grow c b (eqb b c) refl k.0 k.1
    ∙ ap (λ (x : List ℕ). b ∷ x) (ap (joined c) (sym k.2) ∙ joined-split c s)

-- ---- Before and after a byte

-- a text that was divided is what stood before c, c, and what stood after it
pub divide-back : (c n : ℕ) (s : List ℕ) (xy : List ℕ × List ℕ) → divide c n s ≡ got xy → xy.0 ++ (c ∷ xy.1) ≡ s
unfolding divide
divide-back c n s xy e =
    let w = when-got n (got (take (find c s) s, drop (suc (find c s)) s)) xy (ltb (find c s) (length s)) e in
    let l = ltb-true (find c s) (length s) w.0 in
    ap (λ (x : List ℕ × List ℕ). x.0 ++ (c ∷ x.1)) (sym (got-is w.1))
    ∙ ap (λ (x : ℕ). take (find c s) s ++ (x ∷ drop (suc (find c s)) s)) (sym (find_at c s l))
    ∙ sym (split_at s (find c s) 0 l)

-- ---- Lines

-- a text that ends with a line feed is that of its lines
pub unlines-lines : (s : List ℕ) → closed s ≡ true → unlines (lines s) ≡ s
unfolding closed lines split init unlines
unlines-lines [] h = absurd (true≢false (sym h))
unlines-lines (b ∷ []) h = rw h (cc (eqb-true b line_feed h))
unlines-lines (b ∷ c ∷ s) h = go (eqb b line_feed) refl (split line_feed (c ∷ s)) (unlines-lines (c ∷ s) h)
  where
    none : {A : Type 0} → [] ≡ c ∷ s → A
    none e = absurd (omega (arith, ap length e))

    go : (t : Bool) → eqb b line_feed ≡ t → (ps : List (List ℕ)) → unlines (init ps) ≡ c ∷ s → unlines (init (grow t b ps)) ≡ b ∷ c ∷ s
    go t e [] i = none i
    go true e (p ∷ ps) i = cc (eqb-true b line_feed e, i)
    go false e (p ∷ []) i = none i
    go false e (p ∷ q ∷ ps) i = ap (λ (x : List ℕ). b ∷ x) i

-- the text of lines with others behind them
pub unlines-append : (ks ls : List (List ℕ)) → unlines (ks ++ ls) ≡ unlines ks ++ unlines ls
unfolding unlines
unlines-append [] ls = refl
unlines-append (k ∷ ks) ls = ap (λ (x : List ℕ). k ++ (line_feed ∷ x)) (unlines-append ks ls) ∙ sym (append_assoc k (line_feed ∷ unlines ks) (unlines ls))
