-- How the sheets of Note 8 are read holds as it is told; antt computes the examples.
use Prim.Native.Nat.{ℕ, zero, suc, ◌≤◌}
use mathlib.Core.Path.{◌≡◌, refl, ap, subst, ◌∙◌}
use mathlib.Core.Logic.{◌≢◌, ◌⊎◌, inl, inr}
use mathlib.Core.Bool.{Bool, true, false, cond}
use mathlib.Core.List.{List, [], ◌∷◌}
use lib.Dec.{eqb, leb}
use borrow.Author.Tests.{eqb-true}
use native.Mathlib.Omega.{arith}
use Rattle.model.specs.Parsed.{Parsed, got, refused}
use Rattle.model.specs.{Limits.forms, Text.bytes, Number.up_to, Number.from_one, Head.sheet_line, Head.owner, Turns.letter_a, Turns.letter_b, Turns.letter_l, Turns.letter_h, Turns.letter}
use Rattle.model.specs.{Turns.second, Stored.level_of, Stored.side, Stored.with_side, Form.form_one, Form.form_two, Form.form_of}
use Rattle.model.specs.SheetA as SheetA
use Rattle.model.specs.SheetTwo as SheetTwo
use Rattle.model.specs.Owners.{FormsTold, OwnersTold, LettersTold, FieldsApart, short, times, wide, accepts, refuses, limits, AllHold}
use Rattle.model.specs.Data.{Form, Entry, Field, Owner, A, B, Level, Low, High}
use Rattle.model.proofs.{Opened.reading_opened, Accepted.GotOf, Accepted.from-one-bound, Accepted.either}
use Rattle.model.proofs.Refused.{Refuses, bind-refuses, need-refuses, up-to-refuses}

-- ---- What is read

-- by a test for one byte: the number is the byte, or the test goes on
by : {A : Type 0} (P : Parsed A → Type 0) (x y : ℕ) (r t : Parsed A) → (x ≡ y → P r) → P t → P (cond (eqb x y) r t)
by P x y r t h k = go (eqb x y) (eqb-true x y)
  where
    go : (b : Bool) → (b ≡ true → x ≡ y) → P (cond b r t)
    go true e = h (e refl)
    go false e = k

-- "if got, then so": from a fact of what a reading gives to one of a value that it gave, and likewise of a refusal
told : {A : Type 0} (P : A → Type 0) (r : Parsed A) (a : A) → GotOf P r → r ≡ got a → P a
told P r a h e = subst (GotOf P) e h

kept : {A : Type 0} (r : Parsed A) (n m : ℕ) → Refuses (λ x. x ≡ m) r → r ≡ refused n → n ≡ m
kept r n m h e = subst (Refuses (λ x. x ≡ m)) e h

pub forms-told : FormsTold
unfolding reading_opened
forms-told =
    record {
      one = refl;
      two = refl;
      only = λ s n e. one-or-two n (from-one-bound forms n s e);
      else = λ s r e. kept (from_one forms s) r 4 (bind-refuses _ (up_to forms s) _ (up-to-refuses _ refl forms s) (λ n. need-refuses _ (leb 1 n) 4 _ (λ f. refl) (λ f. tt))) e;
    }
  where
    one-or-two : (n : ℕ) → (1 ≤ n) × (n ≤ 2) → (n ≡ 1) ⊎ (n ≡ 2)
    one-or-two zero h = absurd (omega (arith, h.0))
    one-or-two (suc zero) h = inl refl
    one-or-two (suc (suc zero)) h = inr refl
    one-or-two (suc (suc (suc n))) h = absurd (omega (arith, h.1))

abbrev Named : List ℕ → Owner → Type 0
Named s o = ((s ≡ bytes "A") × (o ≡ A)) ⊎ ((s ≡ bytes "B") × (o ≡ B))

owner-named : (s : List ℕ) → GotOf (Named s) (owner s)
unfolding owner bytes
owner-named [] = tt
owner-named (b ∷ []) = by (GotOf (Named (b ∷ []))) b letter_a _ _ (λ e. inl (ap (λ (x : ℕ). x ∷ []) e, refl)) (by (GotOf (Named (b ∷ []))) b letter_b _ _ (λ e. inr (ap (λ (x : ℕ). x ∷ []) e, refl)) tt)
owner-named (b ∷ c ∷ s) = tt

owner-46 : (s : List ℕ) → Refuses (λ x. x ≡ 46) (owner s)
unfolding owner
owner-46 [] = refl
owner-46 (b ∷ []) = either (Refuses (λ x. x ≡ 46)) (eqb b letter_a) _ _ tt (either (Refuses (λ x. x ≡ 46)) (eqb b letter_b) _ _ tt refl)
owner-46 (b ∷ c ∷ s) = refl

pub owners-told : OwnersTold
unfolding reading_opened
owners-told = record { a = refl; b = refl; only = λ s o e. told (Named s) (owner s) o (owner-named s) e; else = λ s r e. kept (owner s) r 46 (owner-46 s) e }

letter-9 : (n x : ℕ) → Refuses (λ r. r ≡ 9) (letter (form_of n) x)
unfolding letter form_of
letter-9 n x = go (eqb n 2)
  where
    go : (b : Bool) → Refuses (λ r. r ≡ 9) (letter (cond b form_two form_one) x)
    go true = either (Refuses (λ r. r ≡ 9)) (eqb x letter_l) _ _ tt (either (Refuses (λ r. r ≡ 9)) (eqb x letter_a) _ _ tt (either (Refuses (λ r. r ≡ 9)) (eqb x letter_b) _ _ tt refl))
    go false = either (Refuses (λ r. r ≡ 9)) (eqb x letter_l) _ _ tt (either (Refuses (λ r. r ≡ 9)) (eqb x letter_h) _ _ tt refl)

letter-low : (n : ℕ) → letter (form_of n) 76 ≡ got Low
unfolding letter form_of
letter-low n = go (eqb n 2)
  where
    go : (b : Bool) → letter (cond b form_two form_one) 76 ≡ got Low
    go true = refl
    go false = refl

of_one-got : (x : ℕ) → GotOf (λ (l : Level). (x ≡ 76) ⊎ (x ≡ 72)) (letter form_one x)
unfolding letter
of_one-got x = by (GotOf _) x letter_l _ _ inl (by (GotOf _) x letter_h _ _ inr tt)

of_two-got : (x : ℕ) → GotOf (λ (l : Level). (x ≡ 76) ⊎ ((x ≡ 65) ⊎ (x ≡ 66))) (letter form_two x)
unfolding letter
of_two-got x = by (GotOf _) x letter_l _ _ inl (by (GotOf _) x letter_a _ _ (λ e. inr (inl e)) (by (GotOf _) x letter_b _ _ (λ e. inr (inr e)) tt))

stored-as : (n x : ℕ) → GotOf (λ (l : Level). level_of x ≡ l) (letter (form_of n) x)
unfolding letter form_of
stored-as n x = go (eqb n 2)
  where
    told-by : (y : ℕ) {l : Level} → level_of y ≡ l → x ≡ y → level_of x ≡ l
    told-by y is e = ap level_of e ∙ is

    go : (b : Bool) → GotOf (λ (l : Level). level_of x ≡ l) (letter (cond b form_two form_one) x)
    go true = by (GotOf _) x letter_l _ _ (told-by letter_l refl) (by (GotOf _) x letter_a _ _ (told-by letter_a refl) (by (GotOf _) x letter_b _ _ (told-by letter_b refl) tt))
    go false = by (GotOf _) x letter_l _ _ (told-by letter_l refl) (by (GotOf _) x letter_h _ _ (told-by letter_h refl) tt)

pub letters-told : LettersTold
unfolding reading_opened
letters-told =
    record {
      low = letter-low;
      high = refl;
      a = refl;
      b = refl;
      of_one = λ x l e. told (λ (m : Level). (x ≡ 76) ⊎ (x ≡ 72)) (letter form_one x) l (of_one-got x) e;
      of_two = λ x l e. told (λ (m : Level). (x ≡ 76) ⊎ ((x ≡ 65) ⊎ (x ≡ 66))) (letter form_two x) l (of_two-got x) e;
      else = λ n x r e. kept (letter (form_of n) x) r 9 (letter-9 n x) e;
      stored = λ n x l e. told (λ (m : Level). level_of x ≡ m) (letter (form_of n) x) l (stored-as n x) e;
    }

pub fields-apart : FieldsApart
fields-apart = record { own = own; others = others }
  where
    own : (l : Level) (e : Entry) (f : Field) → side l (with_side l e f) ≡ e
    own Low e f = refl
    own (High A) e f = refl
    own (High B) e f = refl

    others : (l m : Level) (e : Entry) (f : Field) → m ≢ l → side m (with_side l e f) ≡ side m f
    others Low Low e f n = absurd (n refl)
    others Low (High A) e f n = refl
    others Low (High B) e f n = refl
    others (High A) Low e f n = refl
    others (High A) (High A) e f n = absurd (n refl)
    others (High A) (High B) e f n = refl
    others (High B) Low e f n = refl
    others (High B) (High A) e f n = refl
    others (High B) (High B) e f n = absurd (n refl)

-- ---- The examples

pub reads : AllHold accepts
unfolding reading_opened SheetTwo.sheet_two SheetTwo.with_messages SheetTwo.with_secret short accepts
reads = (refl, (refl, (refl, (refl, (refl, (refl, (refl, (refl, (refl, tt)))))))))

pub gets : AllHold refuses
unfolding reading_opened SheetA.sheet_a SheetTwo.sheet_two SheetTwo.with_messages SheetTwo.with_secret short refuses
gets = (
  refl,
  (
    refl,
    (
      refl,
      (
        refl,
        (
          refl,
          (
            refl,
            (
              refl,
              (
                refl,
                (
                  refl,
                  (
                    refl,
                    (
                      refl,
                      (
                        refl,
                        (
                          refl,
                          (
                            refl,
                            (
                              refl,
                              (
                                refl,
                                (
                                  refl,
                                  (
                                    refl,
                                    (
                                      refl,
                                      (
                                        refl,
                                        (
                                          refl,
                                          (
                                            refl,
                                            (refl, (refl, (refl, (refl, (refl, (refl, (refl, (refl, (refl, tt))))))))),
                                          ),
                                        ),
                                      ),
                                    ),
                                  ),
                                ),
                              ),
                            ),
                          ),
                        ),
                      ),
                    ),
                  ),
                ),
              ),
            ),
          ),
        ),
      ),
    ),
  ),
)

pub at-limits : AllHold limits
unfolding reading_opened times wide limits
at-limits = (refl, (refl, (refl, (refl, (refl, (refl, (refl, (refl, (refl, tt)))))))))
