-- antt computes what the two plain runs and the monitor do with each sheet.
use Prim.Native.Nat.{ℕ, zero, suc, ◌+◌, ◌<◌}
use mathlib.Core.Path.{◌≡◌, refl, sym, ◌∙◌, ap}
use mathlib.Core.Logic.{◌≢◌}
use mathlib.Core.List.{List, [], ◌∷◌, ◌++◌}
use lib.{IntN.ℤ, IntN.pos, ListN.length, ListN.get_or, ListN.replicate, Signed.mag}
use native.Mathlib.{Omega.arith, Nat.add-zero}
use Rattle.model.specs.{Text.bytes, Job.Job}
use Rattle.model_run.specs.{Step.number_of, Line.Sent, Line.bytes_of, Examples.lent_by_runsheet}
use Rattle.model_run.specs.Plain.{PlainJob, filled, next_fields, calling, call_now, plain_step, plain_at, call_at_step, entries_at_step}
use Rattle.model_run.specs.Honest.{times_lh, dummy_at, dummied, on_real, on_dummies, Honest, lines_from}
use Rattle.model_run.specs.HonestExamples.{steps_from, calls_of, Comparison, compared, Case, job, Shown, Spoilt, calls_honest, doubles, HonestExample, either_kind}
use Rattle.model_run.specs.HonestExamples.{order_only, OrderBefore, sends_only, calls_only, AllSpoilt}
use Rattle.model_run.specs.Data.{Entry, Absent, Number, Key, Open, Secret, A, Call, Neither, Receives, Sends}
use Rattle.model_run.proofs.{Examples.opened, Honest.honest-loses-nothing}

-- opens what the plain runs go through
unfoldable pub opened_plain : Unit {0}
unfolding opened filled next_fields calling call_now plain_step plain_at call_at_step entries_at_step times_lh dummy_at dummied lines_from steps_from compared
opened_plain = tt

-- ---- Steps

step-at : {A : Type 0} (f : ℕ → A) (d : A) (s n i : ℕ) → i < n → get_or (steps_from f s n) i d ≡ f (s + i)
unfolding steps_from
step-at f d s zero i h = absurd (omega arith)
step-at f d s (suc n) zero h = ap f (sym (add-zero s))
step-at f d s (suc n) (suc i) h = step-at f d (suc s) n i (omega arith) ∙ ap f (omega arith)

-- what is equal as lists is equal at each step
each_step : {A : Type 0} (f g : ℕ → A) (d : A) (N : ℕ) → steps_from f 0 N ≡ steps_from g 0 N → (s : ℕ) → s < N → f s ≡ g s
each_step f g d N e s h = ap f (omega arith) ∙ sym (step-at f d 0 N s h) ∙ ap (λ l. get_or l s d) e ∙ step-at g d 0 N s h ∙ ap g (omega arith)

-- 1 for a secret key, so that it is not open
abbrev secretly : Key → ℕ
secretly Open = 0
secretly (Secret o d) = 1

-- the entry at key 0, at a step
abbrev open_at : PlainJob → ℕ → Entry
open_at j s = get_or (entries_at_step j s) 0 Absent

-- A program with key 0 open and key 1 secret is honest for N steps, if both plain runs make these calls and have these open entries
honest-if : (j : Job) (N : ℕ) (d : ℤ) (calls : List Call) (opens : List Entry) → j.keys ≡ Open ∷ Secret A d ∷ []
    → calls_of (on_real j) N ≡ calls → calls_of (on_dummies j) N ≡ calls
    → steps_from (open_at (on_real j)) 0 N ≡ opens → steps_from (open_at (on_dummies j)) 0 N ≡ opens
    → Honest j N
honest-if j N d calls opens keys c₁ c₂ o₁ o₂ =
    record {
      calls = λ s below. each_step (call_at_step (on_real j)) (call_at_step (on_dummies j)) Neither N (c₁ ∙ sym c₂) s (omega arith);
      entries = λ s below sends k is_key is_open. go k s below is_key is_open;
    }
  where
    go : (k s : ℕ) → s < N → k < length j.keys → get_or j.keys k Open ≡ Open → get_or (entries_at_step (on_real j) s) k Absent ≡ get_or (entries_at_step (on_dummies j) s) k Absent
    go zero s below is_key is_open = each_step (open_at (on_real j)) (open_at (on_dummies j)) Absent N (o₁ ∙ sym o₂) s below
    go (suc zero) s below is_key is_open = absurd (omega (arith, ap secretly (ap (λ (ks : List Key). get_or ks 1 Open) (sym keys) ∙ is_open)))
    go (suc (suc k)) s below is_key is_open = absurd (omega (arith, ap length keys))

-- ---- The honest program

shown-honest : Shown doubles
unfolding opened_plain
shown-honest = record { accepts = refl; room = omega arith; compares = refl }

-- its open entry is that of the first message for six steps, and then that of the second
honest : Honest (job doubles) 12
unfolding opened_plain
honest =
    honest-if (job doubles) 12 (pos 300) calls_honest (replicate 6 (Number (pos 1)) ++ replicate 6 (Number (pos 2)))
    refl (ap (λ (c : Comparison). c.real) shown-honest.compares) (ap (λ (c : Comparison). c.dummies) shown-honest.compares) refl refl

-- the number of an entry, without its sign
abbrev amount : Entry → ℕ
amount e = mag (number_of e)

-- the byte at a place of the lines
abbrev byte_at : ℕ → List Sent → ℕ
byte_at n ls = get_or (bytes_of ls) n 0

pub honest-example : HonestExample
unfolding opened_plain
honest-example =
    record {
      shown = shown-honest;
      honest = honest;
      same = honest-loses-nothing (job doubles) 12 lent_by_runsheet (tt, (tt, tt)) refl honest shown-honest.room;
      first = λ e. omega (arith, ap amount e);
      second = λ e. omega (arith, ap amount e);
      enough = omega arith;
      short = λ e. omega (arith, ap (byte_at 34) e);
    }

-- ---- The spoilt ones

-- a number for each kind of call
abbrev kind : Call → ℕ
kind Neither = 0
kind Receives = 1
kind Sends = 2

-- the texts differ at a place, so the lines do
spoilt : (c : Case) → Shown c → ¬ Honest (job c) c.steps → (i : ℕ) → get_or (bytes c.monitor) i 0 ≢ get_or (bytes c.plain) i 0 → Spoilt c
unfolding compared
spoilt c h dishonest i differs =
    record {
      shown = h;
      hypothesis = dishonest;
      conclusion = λ e.
          differs
          (ap (λ (x : Comparison). get_or x.monitor i 0) (sym h.compares)
          ∙ ap (byte_at i) e
          ∙ ap (λ (x : Comparison). get_or x.plain i 0) h.compares);
    }

-- each has its step and its place
pub all-spoilt : AllSpoilt
unfolding opened_plain
all-spoilt = (
  spoilt either_kind (record { accepts = refl; room = omega arith; compares = refl }) (λ h. omega (arith, ap kind (h.calls 3 (omega arith)))) 0 (λ e. omega arith),
  (
    spoilt order_only (record { accepts = refl; room = omega arith; compares = refl }) (λ h. omega (arith, ap kind (h.calls 3 (omega arith)))) 8 (λ e. omega arith),
    (
      spoilt sends_only (record { accepts = refl; room = omega arith; compares = refl }) (λ h. omega (arith, ap kind (h.calls 3 (omega arith)))) 10 (λ e. omega arith),
      (
        spoilt calls_only (record { accepts = refl; room = omega arith; compares = refl })
            (λ h. omega (arith, ap amount (h.entries 3 (omega arith) refl 0 (omega arith) refl))) 20 (λ e. omega arith),
        tt,
      ),
    ),
  ),
)

-- before they differ, the calls of the second are the same
pub order-before : OrderBefore
unfolding opened_plain
order-before = honest-if (job order_only) 3 (pos 1) (Receives ∷ Neither ∷ Neither ∷ []) (replicate 3 Absent) refl refl refl refl refl
