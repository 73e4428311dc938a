-- A text is written whole or not at all.
use Prim.Native.Nat.{ℕ, ◌<◌, ◌≤◌}
use mathlib.Core.Path.{◌≡◌, refl, ap, ◌∙◌}
use mathlib.Core.Logic.{◌≢◌}
use mathlib.Core.List.{List}
use native.Mathlib.{Omega.arith, Decide.dec_le}
use lib.ListN.{length}
use borrow.Author.Tests.{le-leb, lt-leb}
use Rattle.model.specs.{Placed.front, Written.Draft, Written.text, Written.refused, Written.Written, Written.written, Written.untouched, Written.write}
use Rattle.model.specs.Written.{AlwaysWrites}
use Rattle.model.proofs.Placed.{front_length}

pub write-refused : (short : ℕ) (m : List ℕ) (n l : ℕ) → write short m (refused n l) ≡ untouched n l m
unfolding write
write-refused short m n l = refl

module _ (short : ℕ) (m s : List ℕ) where
  pub write-fits : length s ≤ length m → write short m (text s) ≡ written (record { number = 0; line = 0; bytes = length s }) (front m s)
  unfolding write
  write-fits h = rw (le-leb _ _ h)

  pub write-short : length m < length s → write short m (text s) ≡ untouched short 0 m
  unfolding write
  write-short h = rw (lt-leb _ _ h)

module _ (short : ℕ) (m : List ℕ) where
  refuses : (d : Draft) → (write short m d).answer.number ≢ 0 → ((write short m d).memory ≡ m) × ((write short m d).answer.bytes ≡ 0)
  unfolding write
  refuses (refused n l) h = (refl, refl)
  refuses (text s) h = go (dec_le (length s) (length m))
    where
      go : Dec (length s ≤ length m) → ((write short m (text s)).memory ≡ m) × ((write short m (text s)).answer.bytes ≡ 0)
      go (yes l) = absurd (h (ap (λ (w : Written). w.answer.number) (write-fits short m s l)))
      go (no l) = let e = write-short short m s (omega arith) in (ap (λ (w : Written). w.memory) e, ap (λ (w : Written). w.answer.bytes) e)

  size : (d : Draft) → length (write short m d).memory ≡ length m
  size (refused n l) = ap (λ (w : Written). length w.memory) (write-refused short m n l)
  size (text s) = go (dec_le (length s) (length m))
    where
      go : Dec (length s ≤ length m) → length (write short m (text s)).memory ≡ length m
      go (yes l) = ap (λ (w : Written). length w.memory) (write-fits short m s l) ∙ front_length m s l
      go (no l) = ap (λ (w : Written). length w.memory) (write-short short m s (omega arith))

pub always-writes : AlwaysWrites
always-writes short m d =
    record {
      refuses = refuses short m d;
      passes = λ n l e. ap (λ (x : Draft). (write short m x).answer) e ∙ ap (λ (w : Written). w.answer) (write-refused short m n l);
      fits = λ s e h. ap (write short m) e ∙ write-fits short m s h;
      lacks = λ s e h. ap (write short m) e ∙ write-short short m s h;
      size = size short m d;
    }
