-- The claims are not empty: antt computes what the two sheets leave, and cites demand 3 for the rest.
use Prim.Native.Nat.{ℕ, zero, suc, ◌<◌, ◌≤◌}
use mathlib.Core.Path.{◌≡◌, refl, ap, subst}
use mathlib.Core.List.{[]}
use lib.{ListN.get_or, Signed.mag}
use native.Mathlib.Omega.{arith}
use Rattle.model.specs.{Job.Job, Accepted.row_for, Accepted.has, Accepted.kept, SheetA.keys_a}
use Rattle.model_run.specs.{Step.presence, Whole.run_sheet, Secrecy.of, Secrecy.OwnedBy, Secrecy.Alike, Secrecy.Indistinguishable, Witness.sheet2, Witness.sheet3}
use Rattle.model_run.specs.{Witness.job2, Witness.job3, Witness.lent, Witness.HiddenAt, Witness.Telling, Witness.BoundsReached, Witness.StopHasNoTarget}
use Rattle.model_run.specs.Data.{Absent, Open, Command, A}
use Rattle.model_run.proofs.{Examples.opened, Secrecy.secrecy, Secrecy.sheet-secrecy}

alike : Alike (of A) job2 job3
alike = record { keys = refl; commands = refl; turns = refl; count = refl; entries = go }
  where
    go : (j k : ℕ) → k < 2 → ¬ OwnedBy (of A) (get_or keys_a k Open) → get_or (get_or job2.messages j []) k Absent ≡ get_or (get_or job3.messages j []) k Absent
    go zero zero b own = refl
    go zero (suc zero) b own = absurd (own refl)
    go zero (suc (suc k)) b own = absurd (omega arith)
    go (suc j) k b own = refl

sheets : Indistinguishable (of A) keys_a (run_sheet sheet2 lent) (run_sheet sheet3 lent)
unfolding opened
sheets = sheet-secrecy (of A) sheet2 sheet3 job2 job3 lent refl refl alike

clear : (p : ℕ) → HiddenAt p → (22 ≤ p) × (p ≤ 32)
unfolding opened
clear p h = go h.key refl
  where
    go : (k : ℕ) → h.key ≡ k → (22 ≤ p) × (p ≤ 32)
    go zero e = absurd (subst (λ (n : ℕ). OwnedBy (of A) (get_or keys_a n Open)) e h.owned)
    go (suc k) e = omega arith

pub telling : Telling
unfolding opened
telling =
    record {
      accepts2 = refl;
      accepts3 = refl;
      alike = alike;
      unequal = λ e. omega (arith, ap (λ (j : Job). mag (presence (get_or (get_or j.messages 0 []) 1 Absent))) e);
      jobs = secrecy (of A) job2 job3 lent alike;
      sheets = sheets;
      numbers = sheets.numbers;
      differs = λ e. omega arith;
      hidden = λ p least most. record { below = omega arith; key = 1; is_key = omega arith; owned = refl; from = omega arith; to = omega arith };
      clear = clear;
      apart = λ i. omega (arith, i.byte 20 (λ h. omega (arith, clear 20 h)));
    }

pub bounds-reached : BoundsReached
unfolding opened
bounds-reached = record { accepts1 = refl; accepts4 = refl; positions = refl; room = refl; taken = refl; clamped = refl; some = refl }

pub stop-has-no-target : StopHasNoTarget
unfolding opened row_for kept has
stop-has-no-target e = omega (arith, ap (λ (c : Command). c.t) e)
