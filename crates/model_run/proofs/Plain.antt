-- The laws of a plain run: of one step, and of every step.
use Prim.Native.Nat.{ℕ, zero, suc, ◌+◌}
use mathlib.Core.Path.{◌≡◌, refl, sym, ◌∙◌, ap, ap₂}
use mathlib.Core.Bool.{Bool, true, false, cond}
use mathlib.Core.List.{List, [], ◌∷◌}
use lib.{Dec.leb, ListN.length, ListN.get_or, ListN.drop, ListN.length-set, ListN.length-replicate}
use native.Mathlib.Nat.{add-zero}
use Rattle.model.specs.{Command.blank, Execution.calls_by}
use Rattle.model_run.specs.{Step.call_of, Process.Process, Process.fresh, Process.refill, Process.step, Process.command, Process.stopped}
use Rattle.model_run.specs.Plain.{PlainJob, PlainState, filled, next_fields, calling, call_now, call_made, plain_step, plain_at, call_at_step, entries_at_step}
use Rattle.model_run.specs.Data.{Entry, Absent, Set, Command, Call, Neither, Receives, Sends, Execution}
use Rattle.model_run.proofs.Turn.{calls}

-- ---- What depends on the record of an execution alone

pub stopped-of : (cs : List Command) (p q : Process) → p.execution ≡ q.execution → stopped cs p ≡ stopped cs q
unfolding stopped
stopped-of cs p q e = ap (λ (x : Execution). leb (length cs) x.place) e

pub command-of : (cs : List Command) (p q : Process) → p.execution ≡ q.execution → command cs p ≡ command cs q
unfolding command
command-of cs p q e = ap (λ (x : Execution). get_or cs x.place (blank Set)) e

-- and its calls leave that record
pub calling-execution : (k : Call) (n : ℕ) (a : PlainState) → (calling k n a).process.execution ≡ a.process.execution
unfolding calling refill
calling-execution Neither n a = refl
calling-execution Receives n a = refl
calling-execution Sends n a = refl

-- ---- One step

module _ (n : ℕ) (cs : List Command) (a : PlainState) where
  pub now-stopped : stopped cs a.process ≡ true → call_now cs a ≡ Neither
  unfolding call_now
  now-stopped e = rw e

  pub now-going : stopped cs a.process ≡ false → call_now cs a ≡ call_of (command cs a.process).op
  unfolding call_now
  now-going e = rw e

  -- what it is once it has moved on
  abbrev pub moved_on : PlainState
  moved_on = record { process = step (length cs) (command cs a.process) (call_made n cs a).process; rest = (call_made n cs a).rest }

  -- a fact of its next step: of itself, if it has stopped, and else of that
  pub by-step : (P : PlainState → Type 0) → (stopped cs a.process ≡ true → P a) → (stopped cs a.process ≡ false → P moved_on) → P (plain_step n cs a)
  unfolding plain_step
  by-step P rests goes = go (stopped cs a.process) refl
    where
      go : (b : Bool) → stopped cs a.process ≡ b → P (cond b a moved_on)
      go true e = rests e
      go false e = goes e

  pub step-stopped : stopped cs a.process ≡ true → plain_step n cs a ≡ a
  unfolding plain_step
  step-stopped e = rw e

  pub step-going : stopped cs a.process ≡ false → plain_step n cs a ≡ moved_on
  unfolding plain_step
  step-going e = rw e

  -- it counts the call that it makes
  pub step_counts : (plain_step n cs a).process.execution.calls ≡ a.process.execution.calls + calls_by (call_now cs a)
  unfolding calls
  step_counts =
      by-step (λ b. b.process.execution.calls ≡ a.process.execution.calls + calls_by (call_now cs a))
      (λ e. sym (add-zero _) ∙ ap (λ (k : Call). a.process.execution.calls + calls_by k) (sym (now-stopped e)))
      (λ e. calls.stepped (length cs) (command cs a.process) (call_made n cs a).process
      ∙ ap₂ (λ (x : Execution) (k : Call). x.calls + calls_by k) (calling-execution (call_now cs a) n a) (sym (now-going e)))

-- ---- It has as many fields as there are keys

filled-length : (n : ℕ) (es : List Entry) → length (filled n es) ≡ n
unfolding filled
filled-length zero es = refl
filled-length (suc n) es = ap suc (filled-length n (drop 1 es))

next-length : (n : ℕ) (ms : List (List Entry)) → length (next_fields n ms) ≡ n
unfolding next_fields
next-length n [] = length-replicate n Absent
next-length n (m ∷ ms) = filled-length n m

calling-length : (k : Call) (n : ℕ) (a : PlainState) → length a.process.fields ≡ n → length (calling k n a).process.fields ≡ n
unfolding calling refill
calling-length Neither n a h = h
calling-length Receives n a h = next-length n a.rest
calling-length Sends n a h = h

step-length : (n : ℕ) (cs : List Command) (a : PlainState) → length a.process.fields ≡ n → length (plain_step n cs a).process.fields ≡ n
unfolding step
step-length n cs a h =
    by-step n cs a (λ b. length b.process.fields ≡ n)
    (λ e. h)
    (λ e. length-set (call_made n cs a).process.fields (command cs a.process).k _ ∙ calling-length (call_now cs a) n a h)

pub plain-length : (j : PlainJob) (s : ℕ) → length (plain_at j s).process.fields ≡ j.keys
unfolding plain_at fresh
plain-length j zero = length-replicate j.keys Absent
plain-length j (suc s) = step-length j.keys j.commands (plain_at j s) (plain-length j s)

-- ---- A step that sends sends its fields

pub sends-fields : (j : PlainJob) (s : ℕ) → call_at_step j s ≡ Sends → entries_at_step j s ≡ (plain_at j s).process.fields
unfolding call_at_step entries_at_step calling
sends-fields j s e = ap (λ (k : Call). (calling k j.keys (plain_at j s)).process.fields) e
