-- The scan of the first row, at a place i of the text s.
use Prim.Native.Nat.{ℕ, ◌+◌, ◌<◌, ◌≤◌}
use mathlib.Core.Path.{◌≡◌, refl}
use mathlib.Core.Bool.{Bool, true, false, ◌&&◌}
use mathlib.Core.List.{List, ◌∷◌}
use native.Mathlib.{Omega.arith, Decide.dec_lt}
use lib.{Dec.eqb, ListN.length, ListN.get_or, ListN.drop}
use borrow.Author.Tests.{eq-eqb, eqb-true, ne_eqb}
use Rattle.model.specs.{Parsed.got, Parsed.refused, Text.comma, Text.line_feed}
use Rattle.model_log.specs.Log.{carriage_return, quote_mark, spoils}
use Rattle.model_text.proofs.TextLaws.{uncons, done}
use Rattle.read_log.specs.Log.{scan}

no-end : (b c : ℕ) → (b ≡ carriage_return → c ≡ line_feed → ⊥) → (eqb b carriage_return && eqb c line_feed) ≡ false
no-end b c h = go (eqb b carriage_return) refl (eqb c line_feed) refl
  where
    go : (x : Bool) → eqb b carriage_return ≡ x → (y : Bool) → eqb c line_feed ≡ y → (x && y) ≡ false
    go true p true q = absurd (h (eqb-true _ _ p) (eqb-true _ _ q))
    go true p false q = refl
    go false p y q = refl

-- a byte of none of the three
pub harmless : (b : ℕ) → (b ≡ quote_mark → ⊥) → (b ≡ carriage_return → ⊥) → (b ≡ line_feed → ⊥) → spoils b ≡ false
harmless b q r f = rw (ne_eqb _ _ q, ne_eqb _ _ r, ne_eqb _ _ f)

-- fewer than two bytes are left
pub scan-short : (i n : ℕ) (s : List ℕ) → length s ≤ i + 1 → scan i n (drop i s) ≡ refused 41
unfolding scan
scan-short i n s h = go (dec_lt i (length s))
  where
    go : Dec (i < length s) → scan i n (drop i s) ≡ refused 41
    go (yes l) = rw (uncons s i l, done s (i + 1) h)
    go (no l) = let z : length s ≤ i = omega arith in rw (done s i z)

module _ (i n : ℕ) (s : List ℕ) (h : i + 1 < length s) where
  two : drop i s ≡ get_or s i 0 ∷ get_or s (i + 1) 0 ∷ drop (i + 1 + 1) s
  two = let l : i < length s = omega arith in rw (uncons s i l, uncons s (i + 1) h)

  tail : drop (i + 1) s ≡ get_or s (i + 1) 0 ∷ drop (i + 1 + 1) s
  tail = uncons s (i + 1) h

  pub scan-end : get_or s i 0 ≡ carriage_return → get_or s (i + 1) 0 ≡ line_feed → scan i n (drop i s) ≡ got (i, n)
  unfolding scan
  scan-end b c = rw (two, eq-eqb _ _ b, eq-eqb _ _ c)

  -- where the two bytes do not end the row
  module _ (r : get_or s i 0 ≡ carriage_return → get_or s (i + 1) 0 ≡ line_feed → ⊥) where
    pub scan-spoilt : spoils (get_or s i 0) ≡ true → scan i n (drop i s) ≡ refused 41
    unfolding scan
    scan-spoilt u = rw (two, no-end _ _ r, u)

    module _ (u : spoils (get_or s i 0) ≡ false) where
      pub scan-comma : get_or s i 0 ≡ comma → scan i n (drop i s) ≡ scan (i + 1) (n + 1) (drop (i + 1) s)
      unfolding scan
      scan-comma b = rw (two, tail, no-end _ _ r, u, eq-eqb _ _ b)

      pub scan-other : (get_or s i 0 ≡ comma → ⊥) → scan i n (drop i s) ≡ scan (i + 1) n (drop (i + 1) s)
      unfolding scan
      scan-other b = rw (two, tail, no-end _ _ r, u, ne_eqb _ _ b)
