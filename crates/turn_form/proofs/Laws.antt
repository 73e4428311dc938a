-- Which letters are not B's, how much of a stored job counts, and what the first form says.
use Prim.Native.Nat.{ℕ, ◌≤◌}
use mathlib.Core.Path.{◌≡◌, refl, sym, ap, ◌∙◌}
use mathlib.Core.Bool.{Bool, true, false, not, ◌&&◌}
use mathlib.Core.List.{List, [], ◌∷◌, map}
use Rattle.std.specs.List.{list_all}
use Rattle.std.proofs.lemmas.List.{take-map}
use native.Mathlib.Omega.{arith}
use lib.{Dec.eqb, ListN.length, ListN.take, ListN.length-map}
use lib.Seq.{length-take-le}
use borrow.Author.Tests.{eqb-true}
use Rattle.model.specs.{Job.Job, Turns.letter_l, Turns.letter_b, Accepted.Sound, Accepted.all}
use Rattle.model.specs.Stored.{key_capacity, letter_capacity, key_in, level_of, Stored, job_of}
use Rattle.model.specs.declared.StoredJob.{StoredJob}
use Rattle.model.proofs.Forms.{every-form-fits}
use Rattle.model_forms.specs.Forms.{key_a, turn_a, says}
use Rattle.model_forms.specs.declared.Asked.TheVariants.{One}

-- a letter is none of B's
pub letter-a : (b : ℕ) → not (eqb b letter_b) ≡ turn_a (level_of b)
letter-a b = go (eqb b letter_l) (eqb b letter_b) refl refl
  where
    go : (x y : Bool) → eqb b letter_l ≡ x → eqb b letter_b ≡ y → not y ≡ turn_a (level_of b)
    go true true p q = absurd (omega (arith, eqb-true b letter_l p, eqb-true b letter_b q))
    go true false p q = rw p
    go false true p q = rw (p, q)
    go false false p q = rw (p, q)

-- ---- The keys

-- tests of what f shows of each, as the library has them and as the model has them
pub all-shown : {S A : Type 0} (p : A → Bool) (f : S → A) (xs : List S) → list_all (λ (x : S). p (f x)) xs ≡ all p (map f xs)
unfolding all
all-shown p f [] = refl
all-shown p f (x ∷ xs) = ap (λ (b : Bool). p (f x) && b) (all-shown p f xs)

-- the keys of a job, shown before they are taken or after
pub keys-shown : (job : StoredJob) → all key_a (map key_in (take job.keys job.secrets)) ≡ all key_a (job_of job).keys
unfolding job_of
keys-shown job = ap (all key_a) (sym (take-map key_in job.keys job.secrets))

-- ---- The job

module _ (job : StoredJob) (sound : Sound (job_of job)) (stored : Stored job) where
  key-count : length (job_of job).keys ≡ job.keys
  unfolding job_of
  key-count = length-take-le job.keys (map key_in job.secrets) (omega (arith, stored.keys, length-map job.secrets key_in))

  turn-count : length (job_of job).turns ≡ job.turn_count
  unfolding job_of
  turn-count = length-map (take job.turn_count job.turns) level_of ∙ length-take-le job.turn_count job.turns stored.turns

  pub key-most : job.keys ≤ key_capacity
  unfolding job_of
  key-most = let s = sound.most_keys in omega (arith, key-count, (every-form-fits job.form).keys)

  pub turn-most : job.turn_count ≤ letter_capacity
  unfolding job_of
  turn-most = let s = sound.most_turns in omega (arith, turn-count, (every-form-fits job.form).letters)

-- what the first form says: the keys are looked at first
module _ (j : Job) where
  pub says-owners : all key_a j.keys ≡ false → says One j ≡ false
  says-owners h = rw h

  pub says-turns : all key_a j.keys ≡ true → says One j ≡ all turn_a j.turns
  says-turns h = rw h
