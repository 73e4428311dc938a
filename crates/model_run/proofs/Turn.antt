-- The laws of one turn: what each kind of turn makes of a state, of any state and by the level whose turn it is.
use Prim.Native.Nat.{ℕ, ◌+◌, ◌≤◌, zero-le}
use mathlib.Core.Path.{◌≡◌, refl, sym, ap, ap₂, ◌∙◌}
use mathlib.Core.Bool.{Bool, true, false, cond}
use mathlib.Core.List.{List, [], ◌++◌, append-nil}
use native.Mathlib.{Nat.add-zero, Nat.le_refl, Omega.arith}
use lib.{IntN.ℤ, IntN.pos, ListN.length, ListN.get_or, Seq.set-get_or, Signed.quot_z}
use Rattle.model_run.specs.{Step.variable, Step.made, Step.effect_by, Step.stepped_by, Step.does, Step.call_of, Process.Process, Process.entry, Process.stored}
use Rattle.model_run.specs.{Process.step, Process.command, Process.stopped, Process.refill, State.Processes, State.Role, State.leads, State.follows, State.role}
use Rattle.model_run.specs.{State.leader, State.ticked, State.State, State.process, State.with_process, State.noted, Message.received, Message.receive}
use Rattle.model_run.specs.{Message.send, Verdict.idles, Run.waits_at, Run.share, Run.lead, Run.followed, Run.moved, Run.following, Run.counted, Run.turn_by}
use Rattle.model_run.specs.{Run.turn, Run.low_first, CallKinds.calls_in, Clamped.exact_of, Clamped.exactly, Clamped.none, Clamped.lay_outside}
use Rattle.model.specs.{Execution.called_of, Execution.kinds_by, Execution.calls_by, Execution.begun}
use Rattle.model_run.specs.Arith.{sum, difference, product, quotient, computed, clamps_by, by_zero}
use Rattle.model.specs.Number.{is_zero}
use Rattle.model_run.specs.Data.{Entry, Absent, Key, Op, Set, Add, Sub, Mul, Div, Read, Has, Put, Drop, IfNeg, IfZero, Jump, Receive, Send, Stop, Command, Call}
use Rattle.model_run.specs.Data.{Neither, Receives, Sends, Level, Low, High, Execution}
use Rattle.model_run.proofs.Levels.{leads-not-follows, at_each, put-leader, put-follower, put-at}

-- ---- Calls

-- a call only moves the execution on
call-effect : (o : Op) (c : Command) (p : ℕ) (a b : ℤ) (e : Entry) (m end : ℕ) → (call_of o ≡ Neither → ⊥) → effect_by o c p a b e m end ≡ made (p + 1) a e m
unfolding call_of
call-effect Set c p a b e m end h = absurd (h refl)
call-effect Add c p a b e m end h = absurd (h refl)
call-effect Sub c p a b e m end h = absurd (h refl)
call-effect Mul c p a b e m end h = absurd (h refl)
call-effect Div c p a b e m end h = absurd (h refl)
call-effect Read c p a b e m end h = absurd (h refl)
call-effect Has c p a b e m end h = absurd (h refl)
call-effect Put c p a b e m end h = absurd (h refl)
call-effect Drop c p a b e m end h = absurd (h refl)
call-effect IfNeg c p a b e m end h = absurd (h refl)
call-effect IfZero c p a b e m end h = absurd (h refl)
call-effect Jump c p a b e m end h = absurd (h refl)
call-effect Receive c p a b e m end h = refl
call-effect Send c p a b e m end h = refl
call-effect Stop c p a b e m end h = absurd (h refl)

pub call-does : (c : Command) (x : Execution) (e : Entry) (end : ℕ) (k : Call) → call_of c.op ≡ k → calls_by k ≡ 1 → does end c x e ≡ record { execution = called_of x; entry = e }
unfolding does
call-does c x e end k is call =
    let effect = call-effect c.op c x.place (variable x c.v) (variable x c.w) e x.clamped end (λ none. omega (arith, sym call ∙ ap calls_by (sym is ∙ none))) in
    ap₂ (stepped_by x c.v) is effect
    ∙ ap₂ (λ (vs : List ℤ) (n : ℕ). record { execution = record { place = x.place + 1; vars = vs; calls = x.calls + n; clamped = x.clamped }; entry = e }) (set-get_or x.vars c.v (pos 0)) call

-- a process after a call of its own: its fields are as they were
abbrev pub called : Process → Process
called p = record { execution = called_of p.execution; fields = p.fields }

call_step : (n : ℕ) (c : Command) (p : Process) (k : Call) → call_of c.op ≡ k → calls_by k ≡ 1 → step n c p ≡ called p
unfolding step entry
call_step n c p k is call =
    ap (stored p c.k) (call-does c p.execution (get_or p.fields c.k Absent) n k is call)
    ∙ ap (λ (l : List Entry). record { execution = called_of p.execution; fields = l }) (set-get_or p.fields c.k Absent)

-- ---- What a call of the leader leaves of each execution and of the kinds

module _ (ks : List Key) (s : State) where
  pub share-execution : (k : Call) (l : Level) → (process l (share k ks s)).execution ≡ (process l s).execution
  unfolding share receive refill send noted
  share-execution Neither l = refl
  share-execution Receives l = ap (λ (p : Process). p.execution) (at_each (λ m. refill (received ks s.incoming.rest m)) l s.processes)
  share-execution Sends l = refl

  pub share-kinds : (k : Call) → (share k ks s).kinds ≡ s.kinds ++ kinds_by k
  unfolding share receive send noted
  share-kinds Neither = sym (append-nil s.kinds)
  share-kinds Receives = refl
  share-kinds Sends = refl

-- ---- What a command says

-- one law over the word: of its exact result it says whether that lay outside the range
pub says : (o : Op) (c : Command) (p : ℕ) (a b : ℤ) (e : Entry) (m end : ℕ) → (effect_by o c p a b e m end).clamped ≡ m + clamps_by (lay_outside (exact_of o a b))
unfolding exact_of sum difference product quotient computed
says Set c p a b e m end = sym (add-zero m)
says Add c p a b e m end = refl
says Sub c p a b e m end = refl
says Mul c p a b e m end = refl
says Div c p a b e m end = go (is_zero b)
  where
    go : (t : Bool) → m + (cond t by_zero (computed (quot_z a b))).clamps ≡ m + clamps_by (lay_outside (cond t none (exactly (quot_z a b))))
    go true = refl
    go false = refl
says Read c p a b e m end = sym (add-zero m)
says Has c p a b e m end = sym (add-zero m)
says Put c p a b e m end = sym (add-zero m)
says Drop c p a b e m end = sym (add-zero m)
says IfNeg c p a b e m end = sym (add-zero m)
says IfZero c p a b e m end = sym (add-zero m)
says Jump c p a b e m end = sym (add-zero m)
says Receive c p a b e m end = sym (add-zero m)
says Send c p a b e m end = sym (add-zero m)
says Stop c p a b e m end = sym (add-zero m)

-- ---- Turns

module _ (ks : List Key) (cs : List Command) (s : State) where
  -- the kind of call at which a level's execution stands
  abbrev pub call_at : Level → Call
  call_at l = call_of (command cs (process l s)).op

  -- whether the turn of a level that follows passes idle
  abbrev pub idles_at : Level → Bool
  idles_at l = idles (stopped cs (process l s)) (waits_at cs s.kinds (process l s))

  -- a level's execution does its command and nothing else: where it leads, no call; where it follows, no idling
  abbrev pub Alone : Role → Level → Type 0
  Alone leads l = call_at l ≡ Neither
  Alone follows l = idles_at l ≡ false

  -- one command of it
  abbrev pub stepped : Level → Process
  stepped l = step (length cs) (command cs (process l s)) (process l s)

  -- a call of the leader, once it has changed the message and the output
  abbrev led : Call → State
  led k = let t = share k ks s in counted leader (with_process leader (step (length cs) (command cs (process leader s)) (process leader t)) t)

  leading : (k : Call) → call_at leader ≡ k → turn ks cs leader s ≡ led k
  unfolding turn_by lead
  leading k e = ap led e

  abbrev followed_by : Level → Bool → State
  followed_by l b = counted l (with_process l (cond b (process l s) (stepped l)) s)

  pub turn_alone : (l : Level) → Alone (role l) l → turn ks cs l s ≡ counted l (with_process l (stepped l) s)
  unfolding turn_by followed share
  turn_alone Low e = leading Neither e
  turn_alone (High o) e = ap (followed_by (High o)) e

  pub turn-idle : (l : Level) → role l ≡ follows → idles_at l ≡ true → turn ks cs l s ≡ counted l s
  unfolding turn_by followed
  turn-idle Low f e = absurd (leads-not-follows f)
  turn-idle (High o) f e =
      ap (followed_by (High o)) e
      ∙ ap (λ (ps : Processes). counted (High o) (record { processes = ps; kinds = s.kinds; incoming = s.incoming; outgoing = s.outgoing; clock = s.clock })) (put-at (High o) s.processes)

  pub turn-receive : call_at leader ≡ Receives → turn ks cs leader s ≡ counted leader (with_process leader (called (process leader (receive ks s))) (noted Receives (receive ks s)))
  unfolding share noted
  turn-receive e =
      leading Receives e
      ∙ ap (λ (p : Process). counted leader (with_process leader p (noted Receives (receive ks s)))) (call_step (length cs) (command cs (process leader s)) (process leader (receive ks s)) Receives e refl)

  pub turn-send : call_at leader ≡ Sends → turn ks cs leader s ≡ counted leader (with_process leader (called (process leader s)) (noted Sends (send ks s)))
  unfolding share send noted
  turn-send e =
      leading Sends e
      ∙ ap (λ (p : Process). counted leader (with_process leader p (noted Sends (send ks s)))) (call_step (length cs) (command cs (process leader s)) (process leader s) Sends e refl)

  -- every kind of turn moves the clock, and nothing else does
  pub clock-kept : (r : Role) (l : Level) → (moved following r ks cs l s).clock ≡ s.clock
  unfolding lead share receive send noted
  clock-kept leads l = go (call_at leader)
    where
      go : (k : Call) → (share k ks s).clock ≡ s.clock
      go Neither = refl
      go Receives = refl
      go Sends = refl
  clock-kept follows l = refl

  pub turn-clock : (l : Level) → (turn ks cs l s).clock ≡ ticked l s.clock
  unfolding turn_by
  turn-clock l = ap (ticked l) (clock-kept (role l) l)

-- ---- What is counted in a record

-- A count in the record of an execution, 0 at first, to which each command adds none or one
pub record Counter : Type 0 where
  pub of : Execution → ℕ
  pub by : Command → Execution → ℕ
  pub first : of begun ≡ 0
  pub stepped : (n : ℕ) (c : Command) (p : Process) → of (step n c p).execution ≡ of p.execution + by c p.execution
  pub most : (c : Command) (x : Execution) → by c x ≤ 1

-- the calls
unfoldable pub calls : Counter
unfolding step does
calls =
    record {
      of = λ x. x.calls;
      by = λ c x. calls_by (call_of c.op);
      first = refl;
      stepped = λ n c p. refl;
      most = λ c x. one-call (call_of c.op);
    }
  where
    one-call : (k : Call) → calls_by k ≤ 1
    one-call Neither = zero-le
    one-call Receives = le_refl 1
    one-call Sends = le_refl 1

pub one-result : (b : Bool) → clamps_by b ≤ 1
one-result true = le_refl 1
one-result false = zero-le

-- the clamped results
unfoldable pub clamped : Counter
unfolding step does
clamped =
    record {
      of = λ x. x.clamped;
      by = λ c x. clamps_by (lay_outside (exact_of c.op (variable x c.v) (variable x c.w)));
      first = refl;
      stepped = λ n c p.
          let x = p.execution in
          says c.op c x.place (variable x c.v) (variable x c.w) (entry p c.k) x.clamped n;
      most = λ c x. one-result (lay_outside (exact_of c.op (variable x c.v) (variable x c.w)));
    }

-- of a level's execution
abbrev pub count_at : Counter → Level → State → ℕ
count_at q l s = q.of (process l s).execution

-- ---- What the leader's turns add, and the kinds of its calls

module _ (ks : List Key) (cs : List Command) (s : State) where
  -- the leader, if the turn of a level is its own
  abbrev pub low_turn : Role → List Process
  low_turn r = low_first r (process leader s) []

  moved-kinds : (r : Role) (l : Level) → (moved following r ks cs l s).kinds ≡ s.kinds ++ calls_in cs (low_turn r)
  unfolding lead calls_in
  moved-kinds leads l = share-kinds ks s (call_at ks cs s leader) ∙ ap (λ (k : List Call). s.kinds ++ k) (sym (append-nil (kinds_by (call_at ks cs s leader))))
  moved-kinds follows l = sym (append-nil s.kinds)

  pub turn-kinds : (l : Level) → (turn ks cs l s).kinds ≡ s.kinds ++ calls_in cs (low_turn (role l))
  unfolding turn_by
  turn-kinds l = moved-kinds (role l) l

  -- what the turn of a level adds to a count of the leader
  abbrev pub added_by : Counter → Role → ℕ
  added_by q leads = q.by (command cs (process leader s)) (process leader s).execution
  added_by q follows = 0

  moved-count : (q : Counter) (r : Role) (l : Level) → role l ≡ r → count_at q leader (moved following r ks cs l s) ≡ count_at q leader s + added_by q r
  unfolding lead
  moved-count q leads l e =
      let c = command cs (process leader s) in
      let t = share (call_at ks cs s leader) ks s in
      ap (λ (p : Process). q.of p.execution) (put-leader _ t.processes)
      ∙ q.stepped (length cs) c (process leader t)
      ∙ ap (λ (x : Execution). q.of x + q.by c x) (share-execution ks s (call_at ks cs s leader) leader)
  moved-count q follows l e = ap (λ (p : Process). q.of p.execution) (put-follower l e (following cs l s) s.processes) ∙ sym (add-zero (count_at q leader s))

  pub turn-count : (q : Counter) (l : Level) → count_at q leader (turn ks cs l s) ≡ count_at q leader s + added_by q (role l)
  unfolding turn_by
  turn-count q l = moved-count q (role l) l refl
