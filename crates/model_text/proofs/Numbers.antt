-- The text of a number is read back as that number; its bytes, and how many they are.
use mathlib.Core.Path.{◌≡◌, refl, sym, ap, ◌∙◌}
use mathlib.Core.Bool.{Bool, true, false, cond}
use mathlib.Core.List.{List, [], ◌∷◌, ◌++◌, append_assoc, append-nil}
use Prim.Native.Nat.{ℕ, zero, suc, ◌+◌, ◌-◌, ◌*◌, ◌/◌, ◌%◌, ◌<◌, ◌≤◌}
use native.Mathlib.Omega.{arith}
use lib.{Dec.ltb, IntN.ℤ, IntN.pos, IntN.negsuc, ListN.length}
use borrow.Author.Tests.{eq-eqb, ne_eqb, lt-ltb, ltb-true, ltb-false, le-leb}
use Rattle.model.specs.{Parsed.got, Text.class_of, Number.digits as read_digits, Number.natural as read_natural, Number.within, Number.up_to, Number.positive, Number.number}
use Rattle.model.specs.{Limits.greatest_number, Limits.least_number, Decimal.digits, Decimal.width_to, Decimal.width, Decimal.natural, Decimal.whole}
use Rattle.model.specs.Accepted.{InRange}
use Rattle.model.proofs.{Decimal.digits-length, Decimal.tens, Decimal.tens-last}
use Rattle.model_text.proofs.TextLaws.{digit-class, from-one-ok, negative_ok, positive_ok}
use Rattle.model_text.proofs.Bytes.{Spans, spans-wider, every_append}

-- ---- Digits

digits-end : (n : ℕ) → read_digits n [] ≡ got n
unfolding read_digits
digits-end n = refl

digit-read : (a d : ℕ) (s : List ℕ) → d < 10 → read_digits a ((48 + d) ∷ s) ≡ read_digits (a * 10 + d) s
unfolding read_digits
digit-read a d s h = let e : 48 + d - 48 ≡ d = omega arith in rw (eq-eqb _ _ (digit-class (48 + d) (omega arith) (omega arith)), e)

-- the digits of a number that has no more of them give it back
digits-read : (w n : ℕ) (s : List ℕ) → n < tens w → read_digits 0 (digits w n ++ s) ≡ read_digits n s
unfolding digits tens
digits-read zero n s h = let e : 0 ≡ n = omega arith in ap (λ (m : ℕ). read_digits m s) e
digits-read (suc w) n s h =
    let e : n / 10 * 10 + n % 10 ≡ n = omega arith in
    ap (read_digits 0) (append_assoc (digits w (n / 10)) ((48 + n % 10) ∷ []) s)
    ∙ digits-read w (n / 10) ((48 + n % 10) ∷ s) (omega arith)
    ∙ digit-read (n / 10) (n % 10) s (omega arith)
    ∙ ap (λ (m : ℕ). read_digits m s) e

digits-spans : (w n : ℕ) → Spans 48 57 (digits w n)
unfolding digits
digits-spans zero n = tt
digits-spans (suc w) n = every_append _ (digits w (n / 10)) ((48 + n % 10) ∷ []) (digits-spans w (n / 10)) ((omega arith, omega arith), tt)

-- ---- As many as a number has

width_fits : (f n : ℕ) → n < tens f → n < tens (width_to f n)
unfolding width_to tens
width_fits zero n h = h
width_fits (suc f) n h = go (ltb n 10) refl (width_fits f (n / 10) (omega arith))
  where
    go : (t : Bool) → ltb n 10 ≡ t → n / 10 < tens (width_to f (n / 10)) → n < tens (cond t 1 (suc (width_to f (n / 10))))
    go true e i = ltb-true n 10 e
    go false e i = omega arith

width-most : (f n : ℕ) → width_to f n ≤ f
unfolding width_to
width-most zero n = omega arith
width-most (suc f) n = go (ltb n 10) (width-most f (n / 10))
  where
    go : (t : Bool) → width_to f (n / 10) ≤ f → cond t 1 (suc (width_to f (n / 10))) ≤ suc f
    go true i = omega arith
    go false i = omega arith

width_some : (f n : ℕ) → 1 ≤ width_to (suc f) n
unfolding width_to
width_some f n = go (ltb n 10)
  where
    go : (t : Bool) → 1 ≤ cond t 1 (suc (width_to f (n / 10)))
    go true = omega arith
    go false = omega arith

-- the first digit of a number from 1 is not 0
digits-lead : (f n : ℕ) → n < tens f → 1 ≤ n → (b : ℕ) × (bs : List ℕ) × (digits (width_to f n) n ≡ b ∷ bs) × (49 ≤ b)
unfolding width_to digits tens
digits-lead zero n h l = absurd (omega arith)
digits-lead (suc f) n h l = go (ltb n 10) refl (λ g k. digits-lead f (n / 10) g k)
  where
    go : (t : Bool) → ltb n 10 ≡ t
        → (n / 10 < tens f → 1 ≤ n / 10 → (b : ℕ) × (bs : List ℕ) × (digits (width_to f (n / 10)) (n / 10) ≡ b ∷ bs) × (49 ≤ b))
        → (b : ℕ) × (bs : List ℕ) × (digits (cond t 1 (suc (width_to f (n / 10)))) n ≡ b ∷ bs) × (49 ≤ b)
    go true e i = let k = ltb-true n 10 e in (48 + n % 10, [], refl, omega arith)
    go false e i =
        let k = ltb-false n 10 e in
        let r = i (omega arith) (omega arith) in
        (r.0, r.1 ++ ((48 + n % 10) ∷ []), ap (λ (s : List ℕ). s ++ ((48 + n % 10) ∷ [])) r.2, r.3)

-- ---- A natural number

-- numbers of 32 bits
abbrev pub Small : ℕ → Type 0
Small n = n < 4294967296

lead-read : (b : ℕ) (s : List ℕ) → 49 ≤ b → read_natural (b ∷ s) ≡ read_digits 0 (b ∷ s)
unfolding read_natural
lead-read b [] h = refl
lead-read b (c ∷ s) h = let n : b ≡ 48 → ⊥ = λ e. omega arith in rw (ne_eqb b 48 n)

natural-got : (n : ℕ) → Small n → read_natural (natural n) ≡ got n
unfolding natural width
natural-got zero h = unfold width_to digits read_natural read_digits class_of in refl
natural-got (suc n) h =
    let w = width_to 10 (suc n) in
    let l : suc n < tens 10 = omega (arith, tens-last) in
    let r = digits-lead 10 (suc n) l (omega arith) in
    ap read_natural r.2
    ∙ lead-read r.0 r.1 r.3
    ∙ ap (read_digits 0) (sym r.2 ∙ sym (append-nil (digits w (suc n))))
    ∙ digits-read w (suc n) [] (width_fits 10 (suc n) l)
    ∙ digits-end (suc n)

-- a number within its limit is read back
pub natural-read : (m n : ℕ) → Small m → n ≤ m → up_to m (natural n) ≡ got n
unfolding up_to within
natural-read m n h l = rw (natural-got n (omega arith), le-leb n m l)

-- ---- Its bytes

pub natural-spans : (n : ℕ) → Spans 48 57 (natural n)
unfolding natural
natural-spans n = digits-spans (width n) n

natural-some : (n : ℕ) → 1 ≤ length (natural n)
unfolding natural width
natural-some n = omega (arith, digits-length (width n) n, width_some 9 n)

pub natural-length : (n : ℕ) → length (natural n) ≤ 10
unfolding natural width
natural-length n = omega (arith, digits-length (width n) n, width-most 10 n)

-- one digit, as the keys have
pub digit-length : (n : ℕ) → n < 10 → length (natural n) ≡ 1
unfolding natural width width_to
digit-length n h = digits-length (width n) n ∙ rw (lt-ltb n 10 h)

-- two digits at most, as the targets have
pub two_digits : (n : ℕ) → n < 100 → length (natural n) ≤ 2
unfolding natural width width_to
two_digits n h = omega (arith, digits-length (width n) n, go (ltb n 10))
  where
    go : (t : Bool) → cond t 1 (suc (width_to 9 (n / 10))) ≤ 2
    go true = omega arith
    go false = rw (lt-ltb (n / 10) 10 (omega arith)) (omega arith)

-- ---- A number of the full range

plain-read : (s : List ℕ) → 1 ≤ length s → Spans 48 57 s → number s ≡ positive s
unfolding number
plain-read [] l h = absurd (omega arith)
plain-read (b ∷ s) l h = let n : b ≡ 45 → ⊥ = λ e. omega (arith, h.0.0) in rw (ne_eqb b 45 n)

pub whole-read : (z : ℤ) → InRange z → number (whole z) ≡ got z
unfolding whole
whole-read (pos n) h = plain-read (natural n) (natural-some n) (natural-spans n) ∙ positive_ok (natural n) n (natural-read greatest_number n (omega arith) h)
whole-read (negsuc n) h = unfold number in negative_ok (natural (suc n)) (suc n) (from-one-ok least_number (suc n) (natural (suc n)) (natural-read least_number (suc n) (omega arith) (omega arith)) (omega arith))

pub whole-spans : (z : ℤ) → Spans 45 57 (whole z)
unfolding whole
whole-spans (pos n) = spans-wider 48 57 45 57 (omega arith) (omega arith) (natural n) (natural-spans n)
whole-spans (negsuc n) = ((omega arith, omega arith), spans-wider 48 57 45 57 (omega arith) (omega arith) (natural (suc n)) (natural-spans (suc n)))

pub whole_length : (z : ℤ) → length (whole z) ≤ 11
unfolding whole
whole_length (pos n) = omega (arith, natural-length n)
whole_length (negsuc n) = omega (arith, natural-length (suc n))
