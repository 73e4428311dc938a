-- The secrecy rule holds, for each owner and for both.
use Prim.Native.Nat.{ℕ, suc, ◌+◌}
use mathlib.Core.Path.{◌≡◌, sym, ◌∙◌, ap, ap₂, subst}
use mathlib.Core.List.{List, [], ◌∷◌}
use lib.ListN.{length, get_or, drop, length-append}
use native.Mathlib.{Omega.arith, Nat.suc_inj}
use Rattle.model.specs.{Job.Job, Placed.front, Answer.numbers_of}
use Rattle.model_run.specs.{Run.Outcome, Run.following, Run.run_job_by, Run.run_job, Message.source, Line.line_length, Line.bytes_of, Line.memory_after, Whole.left_by}
use Rattle.model_run.specs.{Whole.run_sheet, Secrecy.OwnedBy, Secrecy.Hidden, Secrecy.Indistinguishable, Secrecy.Whose, Secrecy.JobsSecret, Secrecy.SheetsSecret}
use Rattle.model_run.specs.Data.{Entry, Key, Open, Secret, Ending, Counts, Ended}
use Rattle.model_run.proofs.{Lockstep.Theirs, Lockstep.LineLike, Lockstep.RestLike, Lockstep.Same, Lockstep.same-rule, Lockstep.run-alike, Lockstep.initial-alike}
use Rattle.model_run.proofs.{Line.split, Line.same_size, Line.bytes-at, Counted.counts_of}

-- a key is a secret of these owners exactly where its column comes from one of their executions
owned-source : (o : Whose) (k : Key) → OwnedBy o k → Theirs o (source k)
unfolding source
owned-source o Open h = absurd h
owned-source o (Secret w d) h = h

pub source-owned : (o : Whose) (k : Key) → Theirs o (source k) → OwnedBy o k
unfolding source
source-owned o Open h = absurd h
source-owned o (Secret w d) h = h

-- the messages, from one by one to line by line
pub rest-alike : (o : Whose) (ks : List Key) (a b : List (List Entry)) → length a ≡ length b → ((j : ℕ) → LineLike o ks (get_or a j []) (get_or b j [])) → RestLike o ks a b
rest-alike o ks [] [] e h = tt
rest-alike o ks [] (b ∷ bs) e h = omega arith
rest-alike o ks (a ∷ xs) [] e h = omega arith
rest-alike o ks (a ∷ xs) (b ∷ bs) e h = (h 0, rest-alike o ks xs bs (suc_inj e) (λ j. h (suc j)))

-- an outcome has as many bytes in its lines as it counts
abbrev Exact : Outcome → Type 0
Exact x = length (bytes_of x.lines) ≡ x.counts.bytes

-- what two outcomes that are the same to all but these owners leave of one memory
module _ (o : Whose) (ks : List Key) (m : List ℕ) (x y : Outcome) (same : Same o ks x y) (ex : Exact x) where
  size : length (bytes_of y.lines) ≡ x.counts.bytes
  size = sym (same_size o same.lines) ∙ ex

  memory-size : length (memory_after m x.lines) ≡ length (memory_after m y.lines)
  unfolding memory_after front
  memory-size = length-append (bytes_of x.lines) _ ∙ ap (λ (n : ℕ). n + length (drop n m)) (ex ∙ sym size) ∙ sym (length-append (bytes_of y.lines) _)

  memory-byte : (p : ℕ) → ¬ Hidden o ks x.counts.bytes p → get_or (memory_after m x.lines) p 0 ≡ get_or (memory_after m y.lines) p 0
  unfolding memory_after front line_length
  memory-byte p clear =
      split (bytes_of x.lines) (bytes_of y.lines) _ _ x.counts.bytes ex size p
      (λ below. bytes-at o same.lines p (λ k is_key own from to.
      clear (record { below = omega arith; key = k; is_key = is_key; owned = source-owned o _ own; from = omega arith; to = omega arith })))
      (λ r eq. ap (λ (n : ℕ). get_or (drop n m) r 0) (ex ∙ sym size))

  pub indistinguishable : Indistinguishable o ks (left_by m x) (left_by m y)
  unfolding numbers_of
  indistinguishable = record { numbers = ap₂ (λ (e : Ending) (c : Counts). numbers_of (Ended e c)) same.ending same.counts; size = memory-size; byte = memory-byte }

-- a job with other messages, of any form
abbrev given : Job → ℕ → List (List Entry) → Job
given a n ms = record { form = n; keys = a.keys; commands = a.commands; messages = ms; turns = a.turns }

-- what the runs of two jobs leave of one memory
abbrev Hides : Whose → List ℕ → Job → Job → Type 0
Hides o m a b = Indistinguishable o a.keys (left_by m (run_job a (length m))) (left_by m (run_job b (length m)))

messages-alike : (o : Whose) → (a : Job) (n : ℕ) (ms : List (List Entry)) (m : List ℕ) → RestLike o a.keys a.messages ms → Hides o m a (given a n ms)
unfolding run_job_by
messages-alike o a n ms m r =
    indistinguishable o a.keys m _ _
    (run-alike o a.keys a.commands following following (same-rule o a.keys a.commands) (length m) a.turns _ _ (initial-alike o a.keys a.messages ms r))
    (counts_of a (length m)).sent

pub secrecy : JobsSecret
secrecy o a b m h =
    let path : given a b.form b.messages ≡ b = λ i. record { form = b.form; keys = h.keys i; commands = h.commands i; messages = b.messages; turns = h.turns i } in
    let rest = rest-alike o a.keys a.messages b.messages h.count (λ j k is_key own. h.entries j k is_key (λ mine. own (owned-source o _ mine))) in
    subst (Hides o m a) path (messages-alike o a b.form b.messages m rest)

pub sheet-secrecy : SheetsSecret
unfolding run_sheet
sheet-secrecy o s t a b m es et h = rw (es, et) (secrecy o a b m h)
