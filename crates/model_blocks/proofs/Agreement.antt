-- The plain run of the translation follows the dialect's own meaning, step by step.
use Prim.Native.Nat.{ℕ, zero, suc, ◌+◌}
use mathlib.Core.Path.{◌≡◌, refl, sym, ap, ◌∙◌, subst}
use mathlib.Core.Bool.{Bool, true, false, cond}
use mathlib.Core.List.{List}
use lib.{IntN.ℤ, IntN.pos, ListN.length, ListN.get_or, ListN.set, Seq.set-get_or}
use native.Mathlib.{Omega.arith, Nat.add-zero}
use borrow.Author.Tests.{le-leb, lt-leb}
use Rattle.model.specs.{Number.is_zero}
use Rattle.model_run.specs.{Step.call_of, Step.variable, Step.effect_by, Step.stepped_by, Step.does, Process.Process, Process.fresh, Process.entry, Process.refill}
use Rattle.model_run.specs.{Process.stored, Process.step, Process.command, Process.stopped, Plain.PlainState, Plain.calling, Plain.call_now, Plain.plain_step}
use Rattle.model_run.specs.{Plain.plain_at, Plain.call_at_step, Plain.entries_at_step}
use Rattle.model.specs.declared.{Entry.Entry, Entry.TheVariants.Absent, Command.Command, Execution.Execution, Call.Call, Call.TheVariants.Neither, Op.Op}
use Rattle.model.specs.declared.Call.TheVariants.{Receives, Sends}
use Rattle.model.specs.declared.Op.TheVariants.{Set, Add, Sub, Mul, Div, Read, Has, Put, Drop, IfNeg, IfZero, Jump, Receive, Send, Stop}
use Rattle.model_run.proofs.Plain.{calling-execution}
use Rattle.model_blocks.specs.Block.{way_of, allowed, test_to, jump_to, commands_of}
use Rattle.model_blocks.specs.Meaning.{ToDo, NextStep, stops, obeys, tests, jumps, next_step, left_behind, BlockState, placed_at, state_at, obeyed, step_by, block_step, BlockJob, block_at}
use Rattle.model_blocks.specs.Meaning.{no_step, call_in, block_stopped, block_call, block_entries}
use Rattle.model_blocks.specs.Agreement.{InDialect, translated, Agrees, StepByStep}
use Rattle.model_blocks.proofs.Translated.{StandsAt}
use Rattle.model_blocks.proofs.Left.{At, NextAt, at-start, lands, ready}

-- ---- One command of the model

-- But for its place, a process after a command depends neither on its place before nor on the count of commands
unplaced-by : (o : Op) (n : ℕ) (c : Command) (k : Call) (a b : ℤ) (p : Process) (e : Entry)
    → placed_at 0 (stored p c.k (stepped_by p.execution c.v k (effect_by o c p.execution.place a b e p.execution.clamped n)))
    ≡ placed_at 0 (stored (placed_at 0 p) c.k (stepped_by (placed_at 0 p).execution c.v k (effect_by o c 0 a b e p.execution.clamped 0)))
unfolding placed_at
unplaced-by Set n c k a b p e = refl
unplaced-by Add n c k a b p e = refl
unplaced-by Sub n c k a b p e = refl
unplaced-by Mul n c k a b p e = refl
unplaced-by Div n c k a b p e = refl
unplaced-by Read n c k a b p e = refl
unplaced-by Has n c k a b p e = refl
unplaced-by Put n c k a b p e = refl
unplaced-by Drop n c k a b p e = refl
unplaced-by IfNeg n c k a b p e = refl
unplaced-by IfZero n c k a b p e = refl
unplaced-by Jump n c k a b p e = refl
unplaced-by Receive n c k a b p e = refl
unplaced-by Send n c k a b p e = refl
unplaced-by Stop n c k a b p e = refl

step-unplaced : (n : ℕ) (c : Command) (p : Process) → placed_at 0 (step n c p) ≡ placed_at 0 (step 0 c (placed_at 0 p))
unfolding step entry does placed_at
step-unplaced n c p = unplaced-by c.op n c (call_of c.op) (variable p.execution c.v) (variable p.execution c.w) p (entry p c.k)

-- to go to a place, to give a variable and the entry at a key what they hold, and to make no call, is to go to that place
only-moves : (q v k : ℕ) (p : Process)
    → record {
      execution =
          record {
            place = q;
            vars = set p.execution.vars v (get_or p.execution.vars v (pos 0));
            calls = p.execution.calls + 0;
            clamped = p.execution.clamped;
          };
      fields = set p.fields k (get_or p.fields k Absent);
    }
    ≡ placed_at q p
unfolding placed_at
only-moves q v k p = rw (set-get_or p.execution.vars v (pos 0), set-get_or p.fields k Absent, add-zero p.execution.calls)

-- where a test goes
abbrev way : ℕ → ℕ → Process → ℕ
way t v p = cond (is_zero (variable p.execution v)) t (p.execution.place + 1)

step-test : (n t v : ℕ) (p : Process) → step n (test_to t v) p ≡ placed_at (way t v p) p
unfolding step entry does call_of
step-test n t v p = only-moves (way t v p) v 0 p

step-jump : (n t : ℕ) (p : Process) → step n (jump_to t) p ≡ placed_at t p
unfolding step entry does call_of
step-jump n t p = only-moves t 0 0 p

-- ---- One command of a plain run

abbrev where_at : PlainState → ℕ
where_at a = a.process.execution.place

abbrev having : List (List Entry) → Process → PlainState
having rest p = record { process = p; rest = rest }

by-process : {p q : Process} (rest : List (List Entry)) → p ≡ q → having rest p ≡ having rest q
by-process rest e = ap (having rest) e

-- the call comes to the same at any place
calling-unplaced : (k : Call) (n : ℕ) (a : PlainState) → state_at 0 (calling k n a) ≡ calling k n (state_at 0 a)
unfolding calling placed_at refill
calling-unplaced Neither n a = refl
calling-unplaced Receives n a = refl
calling-unplaced Sends n a = refl

obeyed-unplaced : (m n : ℕ) (c : Command) (a : PlainState) → state_at 0 (obeyed m n c a) ≡ state_at 0 (obeyed 0 n c (state_at 0 a))
unfolding obeyed
obeyed-unplaced m n c a =
    let b = calling (call_of c.op) n a in
    by-process b.rest (step-unplaced m c b.process)
    ∙ ap (λ (x : PlainState). record { process = placed_at 0 (step 0 c x.process); rest = x.rest }) (calling-unplaced (call_of c.op) n a)

obeyed-test : (m n t v : ℕ) (a : PlainState) → obeyed m n (test_to t v) a ≡ state_at (way t v a.process) a
unfolding obeyed calling call_of
obeyed-test m n t v a = by-process a.rest (step-test m t v a.process)

obeyed-jump : (m n t : ℕ) (a : PlainState) → obeyed m n (jump_to t) a ≡ state_at t a
unfolding obeyed calling call_of
obeyed-jump m n t a = by-process a.rest (step-jump m t a.process)

module _ (n : ℕ) (cs : List Command) where
  -- ---- One step of the plain run, by what stands at its place

  plain-at-end : (a : PlainState) → where_at a ≡ length cs → plain_step n cs a ≡ a
  unfolding plain_step stopped
  plain-at-end a e = rw (le-leb (length cs) (where_at a) (omega arith))

  now-at : (a : PlainState) (c : Command) → StandsAt cs (where_at a) c → call_now cs a ≡ call_of c.op
  unfolding call_now stopped command
  now-at a c h = rw (lt-leb (length cs) (where_at a) h.within, h.is)

  plain_at-is : (a : PlainState) (c : Command) → StandsAt cs (where_at a) c → plain_step n cs a ≡ obeyed (length cs) n c a
  unfolding plain_step obeyed stopped command
  plain_at-is a c h = rw (lt-leb (length cs) (where_at a) h.within, now-at a c h, h.is)

  -- ---- The relation, step by step

  -- A state of the plain run follows one of the dialect: at its place the program goes on with what is left to do, and all but the place is equal
  record Follows (a : PlainState) (g : BlockState) : Type 0 where
    place : At cs (where_at a) g.left
    state : state_at 0 a ≡ g.state

  obeyed-lands : (c : Command) (k : ToDo) (a : PlainState) → allowed (way_of c.op) ≡ true → At cs (where_at a + 1) k → At cs (where_at (obeyed (length cs) n c a)) (left_behind (way_of c.op) k)
  unfolding obeyed step does
  obeyed-lands c k a d h =
      lands cs c.op c _ _ _ _ _ k d (subst (λ (x : Execution). At cs (x.place + 1) k) (sym (calling-execution (call_of c.op) n a)) h)

  choose : (z : Bool) (p q : ℕ) (k l : ToDo) → At cs p k → At cs q l → At cs (cond z p q) (cond z k l)
  choose true p q k l h i = h
  choose false p q k l h i = i

  -- one clause for each kind of step
  follows_by : (a : PlainState) (x : NextStep) → NextAt cs (where_at a) x → Follows (plain_step n cs a) (step_by n x (state_at 0 a))
  unfolding placed_at
  follows_by a stops h = rw (plain-at-end a h) (record { place = h; state = refl })
  follows_by a (obeys c k) h = rw (plain_at-is a c h.0) (record { place = obeyed-lands c k a h.1 h.2; state = obeyed-unplaced (length cs) n c a })
  follows_by a (tests v k l) h =
      rw (plain_at-is a (test_to h.0 v) h.1, obeyed-test (length cs) n h.0 v a)
      (record { place = choose (is_zero (variable a.process.execution v)) _ _ k l h.2 h.3; state = refl })
  follows_by a (jumps k) h = rw (plain_at-is a (jump_to h.0) h.1, obeyed-jump (length cs) n h.0 a) (record { place = h.2; state = refl })

  follows-step : (a : PlainState) (g : BlockState) → Follows a g → Follows (plain_step n cs a) (block_step n g)
  unfolding block_step
  follows-step a g h =
      subst (λ (d : PlainState). Follows (plain_step n cs a) (step_by n (next_step g.left) d)) h.state
      (follows_by a (next_step g.left) (ready cs (where_at a) g.left h.place))

  -- ---- What is seen of it

  stopped-alike : (a : PlainState) (x : NextStep) → NextAt cs (where_at a) x → stopped cs a.process ≡ no_step x
  unfolding stopped
  stopped-alike a stops h = le-leb (length cs) (where_at a) (omega arith)
  stopped-alike a (obeys c k) h = lt-leb (length cs) (where_at a) h.0.within
  stopped-alike a (tests v k l) h = lt-leb (length cs) (where_at a) h.1.within
  stopped-alike a (jumps k) h = lt-leb (length cs) (where_at a) h.1.within

  call-alike : (a : PlainState) (x : NextStep) → NextAt cs (where_at a) x → call_now cs a ≡ call_in x
  unfolding call_now call_of
  call-alike a stops h = rw (stopped-alike a stops h)
  call-alike a (obeys c k) h = now-at a c h.0
  call-alike a (tests v k l) h = now-at a (test_to h.0 v) h.1
  call-alike a (jumps k) h = now-at a (jump_to h.0) h.1

-- the entries of a call are the same at any place
entries-unplaced : (k : Call) (n : ℕ) (a : PlainState) → (calling k n a).process.fields ≡ (calling k n (state_at 0 a)).process.fields
unfolding placed_at
entries-unplaced k n a = ap (λ (b : PlainState). b.process.fields) (calling-unplaced k n a)

module _ (j : BlockJob) where
  abbrev cs : List Command
  cs = commands_of j.program

  abbrev plainly : ℕ → PlainState
  plainly s = plain_at (translated j) s

  following : InDialect j.program → (s : ℕ) → Follows j.keys cs (plainly s) (block_at j s)
  unfolding plain_at block_at fresh placed_at
  following d zero = record { place = at-start j.program d; state = refl }
  following d (suc s) = follows-step j.keys cs (plainly s) (block_at j s) (following d s)

  pub agrees : InDialect j.program → (s : ℕ) → Agrees j s
  unfolding block_stopped block_call block_entries call_at_step entries_at_step placed_at
  agrees d s =
      let h = following d s in
      let r : NextAt cs (where_at (plainly s)) (next_step (block_at j s).left) = ready cs (where_at (plainly s)) (block_at j s).left h.place in
      let c = call-alike j.keys cs (plainly s) (next_step (block_at j s).left) r in
      record {
        variables = ap (λ (b : PlainState). b.process.execution.vars) h.state;
        fields = ap (λ (b : PlainState). b.process.fields) h.state;
        calls = ap (λ (b : PlainState). b.process.execution.calls) h.state;
        clamped = ap (λ (b : PlainState). b.process.execution.clamped) h.state;
        rest = ap (λ (b : PlainState). b.rest) h.state;
        stops = stopped-alike j.keys cs (plainly s) (next_step (block_at j s).left) r;
        call = c;
        entries =
            ap (λ (k : Call). (calling k j.keys (plainly s)).process.fields) c
            ∙ entries-unplaced (block_call j s) j.keys (plainly s)
            ∙ ap (λ (b : PlainState). (calling (block_call j s) j.keys b).process.fields) h.state;
      }

pub step-by-step : StepByStep
step-by-step j d s = agrees j d s
