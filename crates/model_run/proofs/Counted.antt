-- The counts of a run are those of its letters, its lines and its messages, and what it sends fits the memory.
use Prim.Native.Nat.{ℕ, suc, ◌+◌, ◌*◌, ◌-◌, ◌≤◌, zero-le, suc-le-suc}
use mathlib.Core.Path.{◌≡◌, refl, sym, ◌∙◌, ap, subst, subst⁻¹}
use mathlib.Core.Bool.{Bool, true, false, cond}
use mathlib.Core.List.{List, [], ◌∷◌, ◌++◌}
use lib.ListN.{length, take, length-append}
use borrow.Author.Tests.{ltb-false}
use native.Mathlib.{Omega.arith, Nat.zero-add, Nat.add-zero, Nat.le_refl, Nat.mul-suc, Numerals.add-one, Numerals.one-add}
use Rattle.model_run.specs.{Step.call_of, Process.Process, Process.step, Process.command, Process.stopped, Process.refill, Process.fresh, State.Processes}
use Rattle.model_run.specs.{State.Incoming, State.State, State.fields_of, State.Role, State.leads, State.follows, State.role, State.leader, State.at, State.put}
use Rattle.model_run.specs.{State.taken_of, State.takes, State.sends, State.steps_by, State.process, State.noted, Run.Outcome, Run.share, Run.lead, Run.followed}
use Rattle.model_run.specs.{Run.following, Run.moved, Run.turn_by, Run.turn, Run.after_turns, Run.ended, Run.settle, Run.run_by, Run.run, Run.initial, Run.run_job_by}
use Rattle.model_run.specs.{Run.run_job, Run.waits_at, Run.low_first, Run.low_turns, Run.low_turns_of, Message.receive, Message.line_now, Message.send}
use Rattle.model_run.specs.{Line.line_length, Verdict.short, Verdict.lacking, Verdict.no_room, Verdict.verdict_by, Verdict.verdict, Verdict.idles, Counted.lows_by}
use Rattle.model_run.specs.{Counted.lows, Counted.Counted, Clamped.clamped_in}
use Rattle.model.specs.{Job.Job}
use Rattle.model_run.specs.Data.{Entry, Key, Command, Call, Neither, Receives, Sends, Level, Low, High, A, B, Ending, Stopped, LettersUsed, NoRoom, Clock}
use Rattle.model.proofs.{Accepted.every-snoc}
use Rattle.model_run.proofs.{Levels.Changed, Levels.same, Levels.other, Levels.changed, Turn.Counter, Turn.clamped, Turn.count_at, Turn.added_by, Turn.turn-count}
use Rattle.model_run.proofs.{Turn.share-execution, Turn.clock-kept, Turn.turn-clock, Line.Lined, Line.bytes-length, Message.columns-length}

-- ---- What holds of a state on the way, with so many bytes lent, of all message lines

pub record Reached (ks : List Key) (lent all : ℕ) (s : State) : Type 0 where
  pub lined : Lined ks s.outgoing.sent
  pub bytes : s.outgoing.bytes ≡ line_length ks * length s.outgoing.sent
  pub room : s.outgoing.bytes ≤ lent
  pub taken : s.incoming.taken + length s.incoming.rest ≤ all
  pub sent : length s.outgoing.sent ≤ s.clock.positions
  pub steps : s.clock.steps ≤ s.clock.positions
  pub counts : (q : Counter) (l : Level) → count_at q l s ≤ s.clock.positions
  pub low : (q : Counter) → count_at q leader s ≤ s.clock.steps

module _ (ks : List Key) (lent all : ℕ) where
  -- what a turn makes of it before the clock goes on
  record Moved (s t : State) : Type 0 where
    lined : Lined ks t.outgoing.sent
    bytes : t.outgoing.bytes ≡ line_length ks * length t.outgoing.sent
    room : t.outgoing.bytes ≤ lent
    taken : t.incoming.taken + length t.incoming.rest ≤ all
    sent : length t.outgoing.sent ≤ length s.outgoing.sent + 1
    counts : (q : Counter) (l : Level) → count_at q l t ≤ count_at q l s + 1

  -- where nothing changed
  unmoved : (s : State) → Reached ks lent all s → Moved s s
  unmoved s h = record { lined = h.lined; bytes = h.bytes; room = h.room; taken = h.taken; sent = omega arith; counts = λ q l. omega arith }

  takes-lines : (i : Incoming) → (takes i).taken + length (takes i).rest ≡ i.taken + length i.rest
  unfolding takes
  takes-lines i = go i.rest i.taken
    where
      go : (xs : List (List Entry)) (n : ℕ) → (taken_of xs n).taken + length (taken_of xs n).rest ≡ n + length xs
      go [] n = refl
      go (x ∷ xs) n = omega arith

  -- a call of the leader: what it does to the message and the output counts nothing yet
  shared-count : (k : Call) (s : State) (q : Counter) (l : Level) → count_at q l (share k ks s) ≡ count_at q l s
  shared-count k s q l = ap q.of (share-execution ks s k l)

  shared : (k : Call) (s : State) → short k (lent - s.outgoing.bytes) (line_length ks) ≡ false → Reached ks lent all s → Moved s (share k ks s)
  unfolding share receive refill send noted sends short line_now
  shared Neither s e h = unmoved s h
  shared Receives s e h =
      record {
        lined = h.lined;
        bytes = h.bytes;
        room = h.room;
        taken = omega (arith, h.taken, takes-lines s.incoming);
        sent = omega arith;
        counts = λ q l. omega (arith, shared-count Receives s q l);
      }
  shared Sends s e h =
      let fits : line_length ks ≤ lent - s.outgoing.bytes = ltb-false _ _ e in
      let lines = s.outgoing.sent in
      let line = line_now ks s in
      let one_more : length (lines ++ (line ∷ [])) ≡ suc (length lines) = length-append lines (line ∷ []) ∙ add-one (length lines) in
      record {
        lined = every-snoc _ lines line h.lined (columns-length 0 ks (fields_of s));
        bytes = ap (λ (n : ℕ). n + line_length ks) h.bytes ∙ sym (mul-suc (line_length ks) (length lines)) ∙ ap (λ (n : ℕ). line_length ks * n) (sym one_more);
        room = omega (arith, h.room);
        taken = h.taken;
        sent = omega arith;
        counts = λ q l. omega arith;
      }

  step-most : (q : Counter) (n : ℕ) (c : Command) (p : Process) → q.of (step n c p).execution ≤ q.of p.execution + 1
  step-most q n c p = omega (arith, q.most c p.execution, q.stepped n c p)

  put_count : (q : Counter) {l m : Level} → Changed l m → (p : Process) (ps : Processes) (f : Level → ℕ) → q.of p.execution ≤ f l → q.of (at m ps).execution ≤ f m
      → q.of (at m (put l p ps)).execution ≤ f m
  put_count q {l} {m} (same e g) p ps f new old = subst⁻¹ (λ (r : Process). q.of r.execution ≤ f m) (g p ps) (subst (λ (k : Level). q.of p.execution ≤ f k) e new)
  put_count q {l} {m} (other g) p ps f new old = subst⁻¹ (λ (r : Process). q.of r.execution ≤ f m) (g p ps) old

  module _ (cs : List Command) where
    -- whether a level's turn finds room
    abbrev Roomy : Role → State → Type 0
    Roomy r s = lacking r (call_of (command cs (process leader s)).op) (lent - s.outgoing.bytes) (line_length ks) ≡ false

    followed-count : (q : Counter) (kinds : List Call) (p : Process) → q.of (followed cs kinds p).execution ≤ q.of p.execution + 1
    unfolding followed
    followed-count q kinds p = go (idles (stopped cs p) (waits_at cs kinds p))
      where
        go : (b : Bool) → q.of (cond b p (step (length cs) (command cs p) p)).execution ≤ q.of p.execution + 1
        go true = omega arith
        go false = step-most q (length cs) (command cs p) p

    after-move : (r : Role) (l : Level) (s : State) → Roomy r s → Reached ks lent all s → Moved s (moved following r ks cs l s)
    unfolding lead
    after-move leads l s e h =
        let c = command cs (process leader s) in
        let m = shared (call_of c.op) s e h in
        let t = share (call_of c.op) ks s in
        let own = process leader t in
        record {
          lined = m.lined;
          bytes = m.bytes;
          room = m.room;
          taken = m.taken;
          sent = m.sent;
          counts = λ q n.
              put_count q (changed leader n) (step (length cs) c own) t.processes (λ k. count_at q k s + 1)
              (omega (arith, step-most q (length cs) c own, shared-count (call_of c.op) s q leader)) (m.counts q n);
        }
    after-move follows l s e h =
        let p = process l s in
        record {
          lined = h.lined;
          bytes = h.bytes;
          room = h.room;
          taken = h.taken;
          sent = omega arith;
          counts = λ q n. put_count q (changed l n) (followed cs s.kinds p) s.processes (λ k. count_at q k s + 1) (followed-count q s.kinds p) (omega arith);
        }

    one-step : (r : Role) → steps_by r ≤ 1
    one-step leads = le_refl 1
    one-step follows = zero-le

    -- a turn adds to a count of the leader no more than to the low steps
    added-most : (q : Counter) (s : State) (r : Role) → added_by ks cs s q r ≤ steps_by r
    added-most q s leads = q.most (command cs (process leader s)) (process leader s).execution
    added-most q s follows = zero-le

    pub turn-reached : (l : Level) (s : State) → Roomy (role l) s → Reached ks lent all s → Reached ks lent all (turn ks cs l s)
    unfolding turn_by
    turn-reached l s e h =
        let m = after-move (role l) l s e h in
        let c = ap (λ (t : Clock). t.positions) (clock-kept ks cs s (role l) l) in
        let d = ap (λ (t : Clock). t.steps) (clock-kept ks cs s (role l) l) in
        record {
          lined = m.lined;
          bytes = m.bytes;
          room = m.room;
          taken = m.taken;
          sent = omega (arith, m.sent, h.sent, c);
          steps = omega (arith, h.steps, one-step (role l), c, d);
          counts = λ q n. omega (arith, m.counts q n, h.counts q n, c);
          low = λ q. omega (arith, turn-count ks cs s q l, added-most q s (role l), h.low q, d);
        }

pub reached-first : (ks : List Key) (lent : ℕ) (ms : List (List Entry)) → Reached ks lent (length ms) (initial ks ms)
unfolding initial fresh at
reached-first ks lent ms =
    record { lined = tt; bytes = omega arith; room = zero-le; taken = omega arith; sent = zero-le; steps = zero-le; counts = fresh-count; low = λ q. fresh-count q leader }
  where
    fresh-count : (q : Counter) (l : Level) → count_at q l (initial ks ms) ≤ 0
    fresh-count q Low = omega (arith, q.first)
    fresh-count q (High A) = omega (arith, q.first)
    fresh-count q (High B) = omega (arith, q.first)

-- ---- Whole runs

-- the low steps of a turn are the L letters that it uses
low-steps : (r : Role) (n : ℕ) → lows_by r n ≡ steps_by r + n
low-steps leads n = sym (one-add n)
low-steps follows n = sym (zero-add n)

-- What holds of an outcome that a run reaches from a state over the letters ls
pub record From (ks : List Key) (cs : List Command) (lent all : ℕ) (s : State) (ls : List Level) (x : Outcome) : Type 0 where
  pub used : ℕ
  pub within : used ≤ length ls
  pub ending : Ending
  pub outcome : x ≡ ended ending (after_turns ks cs (take used ls) s)
  pub positions : x.counts.positions ≡ s.clock.positions + used
  pub steps : x.counts.steps ≡ s.clock.steps + lows (take used ls)
  pub lined : Lined ks x.lines
  pub bytes : x.counts.bytes ≡ line_length ks * length x.lines
  pub room : x.counts.bytes ≤ lent
  pub taken : x.counts.taken ≤ all
  pub clamped : x.counts.clamped ≡ count_at clamped leader s + clamped_in cs (low_turns ks cs (take used ls) s)
  pub low : x.counts.clamped ≤ x.counts.steps

module _ (ks : List Key) (cs : List Command) (lent all : ℕ) where
  ended-from : (e : Ending) (s : State) (ls : List Level) → Reached ks lent all s → From ks cs lent all s ls (ended e s)
  unfolding ended lows after_turns low_turns clamped_in clamped
  ended-from e s ls h =
      record {
        used = 0;
        within = zero-le;
        ending = e;
        outcome = refl;
        positions = omega arith;
        steps = omega arith;
        lined = h.lined;
        bytes = h.bytes;
        room = h.room;
        taken = omega (arith, h.taken);
        clamped = sym (add-zero (count_at clamped leader s));
        low = h.low clamped;
      }

  -- what the leader's turn adds to its clamped results is what it says of its exact result
  low-clamped : (s : State) (r : Role) (ps : List Process) → clamped_in cs (low_first r (process leader s) ps) ≡ added_by ks cs s clamped r + clamped_in cs ps
  unfolding clamped_in clamped
  low-clamped s leads ps = refl
  low-clamped s follows ps = sym (zero-add (clamped_in cs ps))

  turn-from : (l : Level) (s : State) (ls : List Level) (x : Outcome) → From ks cs lent all (turn ks cs l s) ls x → From ks cs lent all s (l ∷ ls) x
  unfolding lows after_turns low_turns
  turn-from l s ls x h =
      let c = turn-clock ks cs s l in
      record {
        used = suc h.used;
        within = suc-le-suc h.within;
        ending = h.ending;
        outcome = h.outcome;
        positions = omega (arith, h.positions, ap (λ (t : Clock). t.positions) c);
        steps = omega (arith, h.steps, ap (λ (t : Clock). t.steps) c, low-steps (role l) (lows (take h.used ls)));
        lined = h.lined;
        bytes = h.bytes;
        room = h.room;
        taken = h.taken;
        clamped = omega (arith, h.clamped, turn-count ks cs s clamped l, low-clamped s (role l) (low_turns ks cs (take h.used ls) (turn ks cs l s)));
        low = h.low;
      }

  -- where the verdict is to go on, there is room
  settle-from : (a b c : Bool) (s : State) (ls : List Level) (x : Outcome) → Reached ks lent all s → (c ≡ false → From ks cs lent all s ls x)
      → From ks cs lent all s ls (settle (verdict_by a b c) s x)
  settle-from true b c s ls x h f = ended-from Stopped s ls h
  settle-from false true c s ls x h f = ended-from LettersUsed s ls h
  settle-from false false true s ls x h f = ended-from NoRoom s ls h
  settle-from false false false s ls x h f = f refl

  run-from : (s : State) (ls : List Level) → Reached ks lent all s → From ks cs lent all s ls (run ks cs lent s ls)
  unfolding run_by verdict no_room
  run-from s [] h = settle-from (stopped cs (process leader s)) true false s [] _ h (λ e. ended-from LettersUsed s [] h)
  run-from s (l ∷ ls) h =
      settle-from (stopped cs (process leader s)) false _ s (l ∷ ls) _ h
      (λ e. turn-from l s ls _ (run-from (turn ks cs l s) ls (turn-reached ks lent all cs l s e h)))

-- a run of a job, from the first state
pub run_of : (j : Job) (lent : ℕ) → From j.keys j.commands lent (length j.messages) (initial j.keys j.messages) j.turns (run_job j lent)
unfolding run_job_by
run_of j lent = run-from j.keys j.commands lent (length j.messages) (initial j.keys j.messages) j.turns (reached-first j.keys lent j.messages)

pub used_all : (j : Job) (lent : ℕ) → (run_of j lent).used ≡ (run_job j lent).counts.positions
unfolding initial
used_all j lent = let f = run_of j lent in sym (f.positions ∙ zero-add f.used)

pub counts_of : (j : Job) (lent : ℕ) → Counted j lent
unfolding line_length initial fresh at low_turns clamped_in clamped
counts_of j lent =
    let f = run_of j lent in
    let u = used_all j lent in
    record {
      positions = omega (arith, f.within, u);
      steps = f.steps ∙ zero-add _ ∙ ap (λ (n : ℕ). lows (take n j.turns)) u;
      bytes = f.bytes;
      sent = bytes-length j.keys (run_job j lent).lines f.lined ∙ sym f.bytes;
      room = f.room;
      taken = f.taken;
      clamped = f.clamped ∙ zero-add _ ∙ ap (λ (n : ℕ). clamped_in j.commands (low_turns_of j n)) u;
      clamped_steps = f.low;
    }
