-- Laws of the letters of a form, and of numbers that are in range.
use Prim.Native.Nat.{ℕ, ◌+◌, ◌<◌}
use mathlib.Core.Path.{◌≡◌, refl, ap, ◌∙◌}
use mathlib.Core.Bool.{Bool, true, false, cond, ◌&&◌, ◌||◌}
use mathlib.Core.List.{List}
use native.Mathlib.{Numerals.add-one, Omega.arith}
use borrow.Author.Tests.{le-leb}
use mir.{Syntax.w32, Val.SFits}
use lib.{IntN.ℤ, Signed.mag, Dec.eqb, ListN.length, ListN.get_or, Seq.drop-cons}
use Rattle.model.specs.{Limits.greatest_number, Turns.letter_b, Form.third_of}
use Rattle.model.specs.declared.Form.{Form}
use Rattle.model_record.specs.Record.{in_range, letter_fits}
use Rattle.model_text.proofs.Tests.{Told, told_more}

-- a byte is one of the three letters exactly if it is one of the form's
again : (x y : Bool) → (x || y) || y ≡ x || (y || false)
again true y = refl
again false true = refl
again false false = refl

apart : (x y z : Bool) → (x || y) || z ≡ x || (y || (true && z))
apart true y z = refl
apart false y z = refl

pub letter-among : (f : Form) (b t : ℕ) → t ≡ third_of f → (eqb b f.low || eqb b f.high) || eqb b t ≡ letter_fits f b
unfolding letter_fits
letter-among f b t e = ap (λ (n : ℕ). (eqb b f.low || eqb b f.high) || eqb b n) e ∙ go f.owners
  where
    go : (two : Bool) → (eqb b f.low || eqb b f.high) || eqb b (cond two letter_b f.high) ≡ eqb b f.low || (eqb b f.high || (two && eqb b letter_b))
    go true = apart (eqb b f.low) (eqb b f.high) (eqb b letter_b)
    go false = again (eqb b f.low) (eqb b f.high)

-- ---- A test of every element of a list, one more of which is looked at

pub told-next : {A : Type 0} {p : A → Bool} {xs : List A} {i : ℕ} {fit : Bool} → Told p xs i fit → (d : A) → i < length xs → {q : Bool} → q ≡ p (get_or xs i d)
    → Told p xs (i + 1) (fit && q)
told-next {A} {p} {xs} {i} t d l h = told_more t (rw (add-one) (drop-cons xs i d l)) h

-- ---- A number of 32 bits with a sign, which is in range

pub in-range : {z : ℤ} → SFits w32 z → in_range z ≡ true
in-range {z} h = le-leb (mag z) greatest_number (omega (arith, h.sfits))
