-- A number that is read is written as the text that it was read from.
use mathlib.Core.Path.{◌≡◌, refl, sym, ap, ◌∙◌, subst}
use mathlib.Core.Bool.{Bool, true, false, cond}
use mathlib.Core.List.{List, [], ◌∷◌, ◌++◌, append-nil}
use Prim.Native.Nat.{ℕ, zero, suc, pred, ◌+◌, ◌-◌, ◌*◌, ◌/◌, ◌%◌, ◌<◌, ◌≤◌}
use native.Mathlib.Omega.{arith}
use lib.{Dec.eqb, Dec.ltb, Dec.leb, IntN.ℤ, IntN.negsuc, Seq.append_snoc}
use borrow.Author.Tests.{lt-ltb, le-ltb, ltb-false, eqb-true, eqb-false}
use Rattle.model.specs.{Parsed.got, Text.class_of, Number.digits as read_digits, Number.natural as read_natural, Number.within, Number.up_to, Number.from_one}
use Rattle.model.specs.{Number.negative, Number.positive, Number.number, Limits.greatest_number, Limits.least_number}
use Rattle.model.specs.{Decimal.digits, Decimal.width_to, Decimal.width, Decimal.natural, Decimal.whole}
use Rattle.model.proofs.{Parsed.never, Parsed.bind-got, Parsed.need-got, Decimal.tens, Decimal.tens-last, Accepted.up-to-bound, Accepted.from-one-bound}
use Rattle.model_text.proofs.TextLaws.{class-digit}
use Rattle.model_text.proofs.Numbers.{Small}
use Rattle.model_sheet.proofs.Passed.{got-is, when-got, unless-got}

-- ---- The digits of a number and of a tenth of it

-- more fuel makes no difference
width-fuel : (f n : ℕ) → 1 ≤ n → n < tens f → width_to (suc f) n ≡ width_to f n
unfolding width_to tens
width-fuel zero n l h = absurd (omega arith)
width-fuel (suc f) n l h = go (ltb n 10) refl (λ k. width-fuel f (n / 10) k (omega arith))
  where
    go : (t : Bool) → ltb n 10 ≡ t → (1 ≤ n / 10 → width_to (suc f) (n / 10) ≡ width_to f (n / 10))
        → cond t 1 (suc (width_to (suc f) (n / 10))) ≡ cond t 1 (suc (width_to f (n / 10)))
    go true e i = refl
    go false e i = let k = ltb-false n 10 e in ap suc (i (omega arith))

-- a number from 10 on has a digit more than its tenth
width-tenth : (f n : ℕ) → 10 ≤ n → n < tens (suc f) → width_to (suc f) n ≡ suc (width_to (suc f) (n / 10))
unfolding tens
width-tenth f n l h = unfold width_to in rw (le-ltb n 10 l) (ap suc (sym (width-fuel f (n / 10) (omega arith) (omega arith))))

-- and that digit is the last
natural-more : (a d : ℕ) → 1 ≤ a → d < 10 → Small (a * 10 + d) → natural (a * 10 + d) ≡ natural a ++ ((48 + d) ∷ [])
unfolding natural width digits
natural-more a d l h s =
    let n = a * 10 + d in
    let q : n / 10 ≡ a = omega arith in
    let r : n % 10 ≡ d = omega arith in
    ap (λ (w : ℕ). digits w n) (width-tenth 9 n (omega arith) (omega (arith, tens-last))) ∙ rw (q, r)

-- a digit is the text of its value
one-digit : (b : ℕ) → 48 ≤ b → b ≤ 57 → natural (b - 48) ≡ b ∷ []
unfolding natural width width_to digits
one-digit b l h = let e : 48 + (b - 48) % 10 ≡ b = omega arith in rw (lt-ltb (b - 48) 10 (omega arith)) (ap (λ (x : ℕ). x ∷ []) e)

-- ---- Digits that were read

-- the next of them is a digit
digits-next : (a n b : ℕ) (s : List ℕ) → read_digits a (b ∷ s) ≡ got n → (48 ≤ b) × (b ≤ 57) × (read_digits (a * 10 + (b - 48)) s ≡ got n)
unfolding read_digits
digits-next a n b s e =
    let w = when-got 4 (read_digits (a * 10 + (b - 48)) s) n (eqb (class_of b) 0) e in
    let d = class-digit b (eqb-true _ _ w.0) in
    (d.0, d.1, w.1)

-- behind the last of them the value is made
digits-end : (a n : ℕ) → read_digits a [] ≡ got n → a ≡ n
unfolding read_digits
digits-end a n e = got-is e

-- the value only grows
digits-grow : (a n : ℕ) (s : List ℕ) → read_digits a s ≡ got n → a ≤ n
digits-grow a n [] e = let q = digits-end a n e in omega arith
digits-grow a n (b ∷ s) e = omega (arith, digits-grow (a * 10 + (b - 48)) n s (digits-next a n b s e).2)

-- behind those of a number from 1 they are the digits of what they make of it
digits-back : (a n : ℕ) (s : List ℕ) → 1 ≤ a → Small n → read_digits a s ≡ got n → natural n ≡ natural a ++ s
digits-back a n [] l h e = ap natural (sym (digits-end a n e)) ∙ sym (append-nil (natural a))
digits-back a n (b ∷ s) l h e =
    let d = digits-next a n b s e in
    let d0 = d.0 in
    let d1 = d.1 in
    let g = digits-grow (a * 10 + (b - 48)) n s d.2 in
    let q : 48 + (b - 48) ≡ b = omega arith in
    digits-back (a * 10 + (b - 48)) n s (omega arith) h d.2
    ∙ ap (λ (t : List ℕ). t ++ s) (natural-more a (b - 48) l (omega arith) (omega arith) ∙ ap (λ (x : ℕ). natural a ++ (x ∷ [])) q)
    ∙ append_snoc (natural a) b s

-- ---- Numbers that were read

-- a text of one digit, or of more whose first is not 0, is that of its value
natural-back : (n : ℕ) (s : List ℕ) → Small n → read_natural s ≡ got n → natural n ≡ s
unfolding read_natural
natural-back n [] h e = never e
natural-back n (b ∷ []) h e =
    let d = digits-next 0 n b [] e in
    let q : b - 48 ≡ n = omega (arith, digits-end _ n d.2) in
    ap natural (sym q) ∙ one-digit b d.0 d.1
natural-back n (b ∷ c ∷ s) h e =
    let w = unless-got 4 (read_digits 0 (b ∷ c ∷ s)) n (eqb b 48) e in
    let d = digits-next 0 n b (c ∷ s) w.1 in
    let d0 = d.0 in
    let k : b ≡ 48 → ⊥ = eqb-false b 48 w.0 in
    let q : 0 * 10 + (b - 48) ≡ b - 48 = omega arith in
    digits-back (b - 48) n (c ∷ s) (omega arith) h (subst (λ (x : ℕ). read_digits x (c ∷ s) ≡ got n) q d.2)
    ∙ ap (λ (t : List ℕ). t ++ (c ∷ s)) (one-digit b d.0 d.1)

-- a number from 0 to a limit
pub up-to-back : (m n : ℕ) (s : List ℕ) → Small m → up_to m s ≡ got n → natural n ≡ s
unfolding up_to within
up-to-back m n s h e =
    let b = bind-got (read_natural s) (within m) n e in
    let q = got-is (need-got (leb b.0 m) 4 (got b.0) n b.2).1 in
    natural-back n s (omega (arith, up-to-bound m n s e)) (b.1 ∙ ap got q)

-- a number from 1 to a limit
pub from-one-back : (m n : ℕ) (s : List ℕ) → Small m → from_one m s ≡ got n → natural n ≡ s
unfolding from_one
from-one-back m n s h e =
    let b = bind-got (up_to m s) _ n e in
    let q = got-is (need-got (leb 1 b.0) 4 (got b.0) n b.2).1 in
    up-to-back m n s h (b.1 ∙ ap got q)

-- ---- Numbers of the full range

-- a number without a sign
positive_back : (s : List ℕ) (z : ℤ) → positive s ≡ got z → whole z ≡ s
unfolding positive
positive_back s z e =
    let b = bind-got (up_to greatest_number s) _ z e in
    ap whole (sym (got-is b.2)) ∙ (unfold whole in up-to-back greatest_number b.0 s (omega arith) b.1)

-- and one behind a minus sign
negative_back : (s : List ℕ) (z : ℤ) → negative s ≡ got z → whole z ≡ 45 ∷ s
unfolding negative whole
negative_back s z e =
    let b = bind-got (from_one least_number s) _ z e in
    ap whole (sym (got-is b.2))
    ∙ go b.0 (from-one-bound least_number b.0 s b.1).0 (from-one-back least_number b.0 s (omega arith) b.1)
  where
    go : (n : ℕ) → 1 ≤ n → natural n ≡ s → whole (negsuc (pred n)) ≡ 45 ∷ s
    go zero l q = absurd (omega arith)
    go (suc n) l q = ap (λ (t : List ℕ). 45 ∷ t) q

-- either
pub whole_back : (s : List ℕ) (z : ℤ) → number s ≡ got z → whole z ≡ s
unfolding number
whole_back [] z e = never e
whole_back (b ∷ s) z e = go (eqb b 45) refl e
  where
    go : (t : Bool) → eqb b 45 ≡ t → cond t (negative s) (positive (b ∷ s)) ≡ got z → whole z ≡ b ∷ s
    go true p e = negative_back s z e ∙ ap (λ (x : ℕ). x ∷ s) (sym (eqb-true b 45 p))
    go false p e = positive_back (b ∷ s) z e
