-- A turn letter of a record and a level of a job: each gives the other back, in each form.
use mathlib.Core.Path.{◌≡◌, refl, sym, ap, ◌∙◌, subst}
use mathlib.Core.Bool.{Bool, true, false, cond, ◌||◌, ◌&&◌}
use Prim.Native.Nat.{ℕ}
use lib.Dec.{eqb}
use borrow.Author.Tests.{eqb-true}
use native.Mathlib.Omega.{arith}
use Rattle.model.specs.{Form.form_one, Form.form_two, Form.form_of, Turns.letter_b, Stored.level_of, Accepted.LevelBy}
use Rattle.model.specs.declared.{Form.Form, Level.Level}
use Rattle.model.specs.declared.Level.TheVariants.{Low, High}
use Rattle.model.specs.declared.Owner.TheVariants.{A, B}
use Rattle.model_text.proofs.TextLaws.{and_both}
use Rattle.model_sheet.specs.Sheet.{letter_of}
use Rattle.model_record.specs.Record.{letter_fits}

-- what is said of a letter and of a level, in a form
pub record Lettered (f : Form) : Type 0 where
  pub back : (b : ℕ) → letter_fits f b ≡ true → letter_of f (level_of b) ≡ b
  pub level : (b : ℕ) → letter_fits f b ≡ true → LevelBy f.owners (level_of b)
  pub again : (l : Level) → LevelBy f.owners l → level_of (letter_of f l) ≡ l
  pub fits : (l : Level) → LevelBy f.owners l → letter_fits f (letter_of f l) ≡ true

-- a letter that fits is one of three
among : (P : ℕ → Type 0) (f : Form) → P f.low → P f.high → (f.owners ≡ true → P letter_b) → (b : ℕ) → letter_fits f b ≡ true → P b
unfolding letter_fits
among P f low high second b h = first (eqb b f.low) refl h
  where
    third : (t : Bool) → eqb b f.high ≡ t → (t || (f.owners && eqb b letter_b)) ≡ true → P b
    third true q h = subst P (sym (eqb-true b f.high q)) high
    third false q h = let a = and_both f.owners _ h in subst P (sym (eqb-true b letter_b a.1)) (second a.0)

    first : (t : Bool) → eqb b f.low ≡ t → (t || (eqb b f.high || (f.owners && eqb b letter_b))) ≡ true → P b
    first true q h = subst P (sym (eqb-true b f.low q)) low
    first false q h = third (eqb b f.high) refl h

contrary : {X : Type 0} → false ≡ true → X
contrary e = absurd (let z : ◌≡◌ {A = ℕ} 0 1 = cc in omega arith)

one-lettered : Lettered form_one
unfolding letter_fits
one-lettered =
    record {
      back = among (λ b. letter_of form_one (level_of b) ≡ b) form_one refl refl contrary;
      level = among (λ b. LevelBy false (level_of b)) form_one tt tt contrary;
      again = again;
      fits = fits;
    }
  where
    again : (l : Level) → LevelBy false l → level_of (letter_of form_one l) ≡ l
    again Low h = refl
    again (High A) h = refl
    again (High B) h = contrary h

    fits : (l : Level) → LevelBy false l → letter_fits form_one (letter_of form_one l) ≡ true
    fits Low h = refl
    fits (High A) h = refl
    fits (High B) h = contrary h

two-lettered : Lettered form_two
unfolding letter_fits
two-lettered =
    record {
      back = among (λ b. letter_of form_two (level_of b) ≡ b) form_two refl refl (λ e. refl);
      level = among (λ b. LevelBy true (level_of b)) form_two tt tt (λ e. refl);
      again = again;
      fits = fits;
    }
  where
    again : (l : Level) → LevelBy true l → level_of (letter_of form_two l) ≡ l
    again Low h = refl
    again (High A) h = refl
    again (High B) h = refl

    fits : (l : Level) → LevelBy true l → letter_fits form_two (letter_of form_two l) ≡ true
    fits Low h = refl
    fits (High A) h = refl
    fits (High B) h = refl

pub lettered : (n : ℕ) → Lettered (form_of n)
unfolding form_of
lettered n = go (eqb n 2)
  where
    go : (b : Bool) → Lettered (cond b form_two form_one)
    go true = two-lettered
    go false = one-lettered
