-- The laws of levels: all that depends on how many there are.
use mathlib.Core.Path.{◌≡◌, refl, subst}
use mathlib.Core.Logic.{◌≢◌}
use Prim.Native.Nat.{ℕ}
use native.Mathlib.Omega.{arith}
use Rattle.model_run.specs.Process.{Process}
use Rattle.model_run.specs.State.{leads, follows, role, leader, Processes, at, put, each}
use Rattle.model_run.specs.Data.{Owner, A, B, Level, Low, High}

pub leads-not-follows : leads ≡ follows → ⊥
leads-not-follows e = let z : ◌≡◌ {A = ℕ} 0 1 = cc in omega arith

abbrev is_low : Level → Type 0
is_low Low = Unit {0}
is_low (High o) = ⊥

pub low≢high : (o : Owner) → Low ≢ High o
low≢high o e = subst is_low e tt

abbrev is_first : Level → Type 0
is_first Low = ⊥
is_first (High A) = Unit {0}
is_first (High B) = ⊥

pub a≢b : High A ≢ High B
a≢b e = subst is_first e tt

-- the process of level m after a change of level l: the new one where they are one level, else as before
pub data Changed (l m : Level) : Type 0 where
  same : l ≡ m → ((p : Process) (ps : Processes) → at m (put l p ps) ≡ p) → Changed l m
  other : ((p : Process) (ps : Processes) → at m (put l p ps) ≡ at m ps) → Changed l m

pub changed : (l m : Level) → Changed l m
unfolding at put
changed Low Low = same refl (λ p ps. refl)
changed Low (High A) = other (λ p ps. refl)
changed Low (High B) = other (λ p ps. refl)
changed (High A) Low = other (λ p ps. refl)
changed (High A) (High A) = same refl (λ p ps. refl)
changed (High A) (High B) = other (λ p ps. refl)
changed (High B) Low = other (λ p ps. refl)
changed (High B) (High A) = other (λ p ps. refl)
changed (High B) (High B) = same refl (λ p ps. refl)

pub at_each : (f : Level → Process → Process) (l : Level) (ps : Processes) → at l (each f ps) ≡ f l (at l ps)
unfolding at each
at_each f Low ps = refl
at_each f (High A) ps = refl
at_each f (High B) ps = refl

-- the leader's process after a change of its own, and of a level that follows
pub put-leader : (p : Process) (ps : Processes) → at leader (put leader p ps) ≡ p
unfolding at put
put-leader p ps = refl

pub put-follower : (l : Level) → role l ≡ follows → (p : Process) (ps : Processes) → at leader (put l p ps) ≡ at leader ps
unfolding at put
put-follower Low f p ps = absurd (leads-not-follows f)
put-follower (High A) f p ps = refl
put-follower (High B) f p ps = refl

-- the process of a level that follows, after a change of the leader's
pub put-beside : (l : Level) → role l ≡ follows → (p : Process) (ps : Processes) → at l (put leader p ps) ≡ at l ps
unfolding at put
put-beside Low f p ps = absurd (leads-not-follows f)
put-beside (High A) f p ps = refl
put-beside (High B) f p ps = refl

-- a level's own process, put back
pub put-at : (l : Level) (ps : Processes) → put l (at l ps) ps ≡ ps
unfolding at put
put-at Low ps = refl
put-at (High A) ps = refl
put-at (High B) ps = refl
