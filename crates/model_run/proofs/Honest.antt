-- Honest programs lose nothing: after each pair of turns the low execution is where the plain run on the dummies is, and the high one where the plain run on the
-- real messages is.
use Prim.Native.Nat.{ℕ, zero, suc, ◌+◌, ◌*◌, ◌-◌, ◌<◌, ◌≤◌}
use mathlib.Core.Path.{◌≡◌, refl, sym, ◌∙◌, ap, ap₂, subst}
use mathlib.Core.Logic.{◌≢◌}
use mathlib.Core.Bool.{Bool, true, false, true≢false}
use mathlib.Core.List.{List, [], ◌∷◌, ◌++◌, map, append-nil, append_assoc}
use lib.{ListN.length, ListN.get_or, ListN.drop, ListN.length-append, Seq.ext_get_or, Seq.get_or-append-add}
use borrow.Author.Tests.{le-ltb}
use native.Mathlib.{Omega.arith, Nat.add-zero, Nat.mul-add, Nat.mul-suc}
use Rattle.model.specs.{Form.form_of, Sheet.accepted, Sheet.read_sheet, Accepted.Every, Accepted.KeyBy, Job.Job, Execution.kinds_by, Execution.calls_by, Placed.front}
use Rattle.model.specs.{Answer.numbers_of}
use Rattle.model_run.specs.{Step.call_of, Process.Process, Process.fresh, Process.refill, Process.step, Process.command, Process.stopped, Line.Sent}
use Rattle.model_run.specs.{Line.line_length, Line.bytes_of, Line.memory_after, State.State, State.Outgoing, State.fields_of, State.at, State.put, State.taken_of}
use Rattle.model_run.specs.{State.takes, State.sends, State.process, State.noted, Message.shown, Message.fill, Message.received, Message.receive, Message.source}
use Rattle.model_run.specs.{Message.columns, Message.line_now, Message.send, Verdict.short, Verdict.no_room, Verdict.verdict_by, Verdict.verdict, Verdict.kind_at}
use Rattle.model_run.specs.{Run.Outcome, Run.share, Run.lead, Run.followed, Run.turn_by, Run.turn, Run.ended, Run.settle, Run.run_by, Run.run, Run.initial}
use Rattle.model_run.specs.{Run.run_job_by, Whole.run_sheet}
use Rattle.model_run.specs.Plain.{PlainJob, PlainState, filled, next_fields, calling, call_now, call_made, plain_step, plain_at, call_at_step, entries_at_step}
use Rattle.model_run.specs.Honest.{times_lh, dummy_at, dummied, on_real, on_dummies, Honest, line_of_step, lines_from, HoldsLines, HonestLosesNothing}
use Rattle.model_run.specs.Honest.{HonestSheetLosesNothing, PairsWithin}
use Rattle.model_run.specs.Data.{Entry, Absent, Number, Key, Open, Secret, Command, Call, Neither, Receives, Sends, Level, Low, High, Owner, A, B, Execution}
use Rattle.model_run.specs.Data.{Clock, LettersUsed}
use Rattle.model.proofs.{Accepted.accepted-sound, Accepted.every-at, Forms.every-form-fits}
use Rattle.model_run.proofs.{Levels.low≢high, Levels.a≢b, Levels.at_each, Turn.calls, Turn.share-kinds, Turn.turn-clock, Message.columns-length, Message.columns-at}
use Rattle.model_run.proofs.{Counted.counts_of, CallKinds.Counts, CallKinds.rests, CallKinds.goes_on, CallKinds.turn-counts}
use Rattle.model_run.proofs.Plain.{stopped-of, command-of, calling-execution, now-stopped, now-going, moved_on, by-step, step-stopped, step-going, step_counts}
use Rattle.model_run.proofs.Plain.{plain-length, sends-fields}

-- ---- What a level is shown of the message lines

dummy-shown : (k : Key) (e : Entry) → dummy_at k e ≡ shown Low k e
unfolding dummy_at shown
dummy-shown Open e = refl
dummy-shown (Secret o d) Absent = refl
dummy-shown (Secret o d) (Number z) = refl

-- the line of which a level is shown all: the low one, that with the dummies
abbrev line_for : Level → List Key → List Entry → List Entry
line_for Low ks es = dummied ks es
line_for (High o) ks es = es

first-shown : (l : Level) → l ≢ High B → (k : Key) → KeyBy false k → (ks : List Key) (es : List Entry) → get_or (line_for l (k ∷ ks) es) 0 Absent ≡ shown l k (get_or es 0 Absent)
unfolding dummied shown
first-shown Low n k one ks es = dummy-shown k (get_or es 0 Absent)
first-shown (High A) n Open one ks es = refl
first-shown (High A) n (Secret A d) one ks es = refl
first-shown (High A) n (Secret B d) one ks es = absurd (true≢false (sym one))
first-shown (High B) n k one ks es = absurd (n refl)

rest-shown : (l : Level) (k : Key) (ks : List Key) (es : List Entry) → drop 1 (line_for l (k ∷ ks) es) ≡ line_for l ks (drop 1 es)
unfolding dummied
rest-shown Low k ks es = refl
rest-shown (High o) k ks es = refl

filled-shown : (l : Level) → l ≢ High B → (ks : List Key) → Every (KeyBy false) ks → (es : List Entry) → filled (length ks) (line_for l ks es) ≡ fill l ks es
unfolding filled fill
filled-shown l n [] one es = refl
filled-shown l n (k ∷ ks) one es = ap₂ ◌∷◌ (first-shown l n k one.0 ks es) (ap (filled (length ks)) (rest-shown l k ks es) ∙ filled-shown l n ks one.1 (drop 1 es))

module _ (ks : List Key) where
  -- and all lines that are left
  abbrev seen : Level → List (List Entry) → List (List Entry)
  seen Low ms = map (dummied ks) ms
  seen (High o) ms = ms

  next-shown : Every (KeyBy false) ks → (l : Level) → l ≢ High B → (ms : List (List Entry)) → next_fields (length ks) (seen l ms) ≡ received ks ms l
  unfolding next_fields received
  next-shown one Low n [] = refl
  next-shown one Low n (m ∷ ms) = filled-shown Low n ks one m
  next-shown one (High o) n [] = refl
  next-shown one (High o) n (m ∷ ms) = filled-shown (High o) n ks one m

  rest-seen : (l : Level) (ms : List (List Entry)) (n : ℕ) → drop 1 (seen l ms) ≡ seen l (taken_of ms n).rest
  rest-seen Low [] n = refl
  rest-seen Low (m ∷ ms) n = refl
  rest-seen (High o) [] n = refl
  rest-seen (High o) (m ∷ ms) n = refl

  -- a level's execution in a state of the paired run, as one that works alone
  abbrev alone : Level → State → PlainState
  alone l s = record { process = process l s; rest = seen l s.incoming.rest }

  -- what a call of the leader does to the message is, at each level, what a call of its own does to that of a plain run
  share-alone : Every (KeyBy false) ks → (k : Call) (l : Level) → l ≢ High B → (s : State) → calling k (length ks) (alone l s) ≡ alone l (share k ks s)
  unfolding calling share receive send noted takes
  share-alone one Neither l n s = refl
  share-alone one Receives l n s =
      let ms = s.incoming.rest in
      let rest = seen l (takes s.incoming).rest in
      ap₂ (λ (es : List Entry) (ls : List (List Entry)). record { process = refill es (process l s); rest = ls }) (next-shown one l n ms) (rest-seen l ms s.incoming.taken)
      ∙ ap (λ (p : Process). record { process = p; rest = rest }) (sym (at_each (λ m. refill (received ks ms m)) l s.processes))
  share-alone one Sends l n s = refl

-- ---- An execution that follows, once the leader has made the call that it makes itself

module _ (n : ℕ) (cs : List Command) (kinds : List Call) (a : PlainState) (agreed : kind_at kinds a.process.execution.calls ≡ call_now cs a) where
  abbrev own : PlainState
  own = call_made n cs a

  still : own.process.execution ≡ a.process.execution
  still = calling-execution (call_now cs a) n a

  abbrev follower : PlainState
  follower = record { process = followed cs kinds own.process; rest = own.rest }

  rested : stopped cs a.process ≡ true → follower ≡ a
  unfolding calling
  rested e =
      ap (λ (p : Process). record { process = p; rest = own.rest }) (rests cs kinds own.process (stopped-of cs own.process a.process still ∙ e))
      ∙ ap (λ (k : Call). calling k n a) (now-stopped n cs a e)

  gone-on : stopped cs a.process ≡ false → follower ≡ moved_on n cs a
  gone-on e =
      let same = command-of cs own.process a.process still in
      let going = stopped-of cs own.process a.process still ∙ e in
      let kind = ap (λ (x : Execution). kind_at kinds x.calls) still ∙ agreed ∙ now-going n cs a e ∙ ap (λ (c : Command). call_of c.op) (sym same) in
      ap (λ (p : Process). record { process = p; rest = own.rest }) (goes_on cs kinds own.process going kind ∙ ap (λ (c : Command). step (length cs) c own.process) same)

  -- it does what a plain run does
  follower-step : follower ≡ plain_step n cs a
  follower-step = by-step n cs a (λ b. follower ≡ b) rested gone-on

-- the kind behind the others is the call's; of a command that is no call there is none
last-kind : (k : Call) (kinds : List Call) → kind_at (kinds ++ kinds_by k) (length kinds) ≡ k
last-kind k kinds = ap (kind_at (kinds ++ kinds_by k)) (sym (add-zero (length kinds))) ∙ get_or-append-add kinds (kinds_by k) 0 Neither ∙ first k
  where
    first : (k : Call) → kind_at (kinds_by k) 0 ≡ k
    first Neither = refl
    first Receives = refl
    first Sends = refl

-- ---- A pair of turns

module _ (ks : List Key) (single : Every (KeyBy false) ks) (cs : List Command) (s : State) where
  -- the low call
  abbrev kind : Call
  kind = call_of (command cs (process Low s)).op

  -- the states after the low turn, and after the pair
  abbrev half : State
  half = turn ks cs Low s

  abbrev whole : State
  whole = turn ks cs (High A) half

  low_step : stopped cs (process Low s) ≡ false → plain_step (length ks) cs (alone ks Low s) ≡ alone ks Low half
  unfolding turn_by lead at put
  low_step e =
      step-going (length ks) cs (alone ks Low s) e
      ∙ ap (λ (b : PlainState). record { process = step (length cs) (command cs (process Low s)) b.process; rest = b.rest })
      (ap (λ (k : Call). calling k (length ks) (alone ks Low s)) (now-going (length ks) cs (alone ks Low s) e) ∙ share-alone ks single kind Low (low≢high B) s)

  module _ (same : call_now cs (alone ks (High A) s) ≡ kind) (even : (process (High A) s).execution.calls ≡ length s.kinds) where
    high-called : call_made (length ks) cs (alone ks (High A) s) ≡ alone ks (High A) half
    unfolding turn_by lead at put
    high-called = ap (λ (k : Call). calling k (length ks) (alone ks (High A) s)) same ∙ share-alone ks single kind (High A) a≢b s

    agreed : kind_at half.kinds (process (High A) s).execution.calls ≡ call_now cs (alone ks (High A) s)
    unfolding turn_by lead
    agreed = ap₂ kind_at (share-kinds ks s kind) even ∙ last-kind kind s.kinds ∙ sym same

    high-step : plain_step (length ks) cs (alone ks (High A) s) ≡ alone ks (High A) whole
    unfolding turn_by at put
    high-step =
        sym (follower-step (length ks) cs half.kinds (alone ks (High A) s) agreed)
        ∙ ap (λ (b : PlainState). record { process = followed cs half.kinds b.process; rest = b.rest }) high-called

  -- the high turn leaves the low execution and the output
  low-still : alone ks Low whole ≡ alone ks Low half
  unfolding turn_by at put
  low-still = refl

  output-still : whole.outgoing ≡ half.outgoing
  unfolding turn_by
  output-still = refl

-- ---- The line of a send

-- where the open fields of both levels are equal, its columns are the high fields
columns-high : (ks : List Key) → Every (KeyBy false) ks → (f : Level → List Entry) → length (f (High A)) ≡ length ks
    → ((k : ℕ) → k < length ks → get_or ks k Open ≡ Open → get_or (f (High A)) k Absent ≡ get_or (f Low) k Absent) → columns 0 ks f ≡ f (High A)
unfolding source
columns-high ks single f wide opens = ext_get_or Absent (columns 0 ks f) (f (High A)) (columns-length 0 ks f ∙ sym wide) (λ k below. column k (omega (arith, columns-length 0 ks f)))
  where
    by_key : (k : ℕ) → k < length ks → (x : Key) → get_or ks k Open ≡ x → get_or (f (source x)) k Absent ≡ get_or (f (High A)) k Absent
    by_key k below Open e = sym (opens k below e)
    by_key k below (Secret A d) e = refl
    by_key k below (Secret B d) e = absurd (true≢false (sym (subst (KeyBy false) e (every-at (KeyBy false) ks k Open single below))))

    column : (k : ℕ) → k < length ks → get_or (columns 0 ks f) k Absent ≡ get_or (f (High A)) k Absent
    column k below = columns-at 0 ks f k below ∙ ap (λ (n : ℕ). get_or (f (source (get_or ks k Open))) n Absent) (omega arith) ∙ by_key k below (get_or ks k Open) refl

module _ (ks : List Key) (s : State) (m : ℕ) (es : List Entry) where
  -- the output once step m has sent its line, if its call sends, and the bytes with it
  abbrev with_line : Call → Outgoing
  with_line k = record { sent = s.outgoing.sent ++ line_of_step k m es; bytes = s.outgoing.bytes + line_length ks * length (line_of_step k m es) }

  share-line : (k : Call) → s.clock.positions ≡ 2 * m → (k ≡ Sends → columns 0 ks (fields_of s) ≡ es) → (share k ks s).outgoing ≡ with_line k
  unfolding share receive send noted sends line_now
  share-line Neither p c = ap₂ (λ (ls : List Sent) (n : ℕ). record { sent = ls; bytes = n }) (sym (append-nil _)) (omega arith)
  share-line Receives p c = ap₂ (λ (ls : List Sent) (n : ℕ). record { sent = ls; bytes = n }) (sym (append-nil _)) (omega arith)
  share-line Sends p c =
      let line = ap₂ {C = Sent} (λ (n : ℕ) (fs : List Entry). record { position = n; columns = fs }) p (c refl) in
      let size : line_length ks ≡ line_length ks * 1 = omega arith in
      ap₂ (λ (l : Sent) (n : ℕ). record { sent = s.outgoing.sent ++ (l ∷ []); bytes = s.outgoing.bytes + n }) line size

  -- a memory that holds that line and more has room for it
  room_for : (k : Call) (lent : ℕ) (later : List Sent) → s.outgoing.bytes + line_length ks * length (line_of_step k m es ++ later) ≤ lent
      → short k (lent - s.outgoing.bytes) (line_length ks) ≡ false
  unfolding short
  room_for Neither lent later h = refl
  room_for Receives lent later h = refl
  room_for Sends lent later h = le-ltb (lent - s.outgoing.bytes) (line_length ks) (omega (arith, mul-suc (line_length ks) (length later)))

-- ---- The lines of a run, by what is found before its first turn

module _ (ks : List Key) (cs : List Command) (lent : ℕ) (s : State) where
  run-stopped : (ls : List Level) → stopped cs (process Low s) ≡ true → (run ks cs lent s ls).lines ≡ s.outgoing.sent
  unfolding run_by verdict ended
  run-stopped [] e = rw e
  run-stopped (l ∷ ls) e = rw e

  run-used : (run ks cs lent s []).lines ≡ s.outgoing.sent
  unfolding run_by verdict ended
  run-used = go (stopped cs (process Low s))
    where
      go : (b : Bool) → (settle (verdict_by b true false) s (ended LettersUsed s)).lines ≡ s.outgoing.sent
      go true = refl
      go false = refl

  run_on : (l : Level) (ls : List Level) → stopped cs (process Low s) ≡ false → no_room ks cs lent (l ∷ ls) s ≡ false
      → (run ks cs lent s (l ∷ ls)).lines ≡ (run ks cs lent (turn ks cs l s) ls).lines
  unfolding run_by verdict
  run_on l ls e f = rw (e, f)

-- ---- The induction over the pairs of turns

module _ (j : Job) (single : Every (KeyBy false) j.keys) (N lent : ℕ) (honest : Honest j N) where
  abbrev ks : List Key
  ks = j.keys

  abbrev cs : List Command
  cs = j.commands

  abbrev real : PlainJob
  real = on_real j

  abbrev dummies : PlainJob
  dummies = on_dummies j

  -- both plain runs have made as many calls
  as_many : (m : ℕ) → m < N → (plain_at real m).process.execution.calls ≡ (plain_at dummies m).process.execution.calls
  unfolding plain_at call_at_step
  as_many zero h = refl
  as_many (suc m) h =
      step_counts (length ks) cs (plain_at real m)
      ∙ ap₂ (λ (n : ℕ) (k : Call). n + calls_by k) (as_many m (omega arith)) (honest.calls m (omega arith))
      ∙ sym (step_counts (length ks) cs (plain_at dummies m))

  -- once the one on the dummies has stopped, nothing more is sent
  quiet : (n m : ℕ) → N ≡ m + n → stopped cs (plain_at dummies m).process ≡ true → lines_from real m n ≡ []
  unfolding plain_at call_at_step lines_from
  quiet zero m e h = refl
  quiet (suc n) m e h =
      let a = plain_at dummies m in
      ap₂ (λ (k : Call) (ls : List Sent). line_of_step k m (entries_at_step real m) ++ ls)
      (honest.calls m (omega arith) ∙ now-stopped (length ks) cs a h)
      (quiet n (suc m) (omega arith) (ap (λ (b : PlainState). stopped cs b.process) (step-stopped (length ks) cs a h) ∙ h))

  -- The paired run after m pairs of turns, with n to come
  record After (m n : ℕ) (s : State) : Type 0 where
    high : plain_at real m ≡ alone ks (High A) s
    low : plain_at dummies m ≡ alone ks Low s
    kinds : Counts ks cs s
    positions : s.clock.positions ≡ 2 * m
    room : s.outgoing.bytes + line_length ks * length (lines_from real m n) ≤ lent

  module _ (n m : ℕ) (s : State) (e : N ≡ m + suc n) (h : After m (suc n) s) (going : stopped cs (process Low s) ≡ false) where
    abbrev low-call : Call
    low-call = kind ks single cs s

    real-calls : call_at_step real m ≡ low-call
    unfolding call_at_step
    real-calls = honest.calls m (omega arith) ∙ ap (call_now cs) h.low ∙ now-going (length ks) cs (alone ks Low s) going

    high-calls : call_now cs (alone ks (High A) s) ≡ low-call
    unfolding call_at_step
    high-calls = ap (call_now cs) (sym h.high) ∙ real-calls

    even : (process (High A) s).execution.calls ≡ length s.kinds
    unfolding at calls
    even =
        let count : PlainState → ℕ = λ a. a.process.execution.calls in
        ap count (sym h.high) ∙ as_many m (omega arith) ∙ ap count h.low ∙ sym h.kinds

    -- the line that it sends, if it sends
    abbrev line : List Sent
    line = line_of_step low-call m (entries_at_step real m)

    lines_split : lines_from real m (suc n) ≡ line ++ lines_from real (suc m) n
    unfolding lines_from
    lines_split = ap (λ (k : Call). line_of_step k m (entries_at_step real m) ++ lines_from real (suc m) n) real-calls

    -- a send's columns are what the plain run sends
    columns-real : low-call ≡ Sends → columns 0 ks (fields_of s) ≡ entries_at_step real m
    columns-real c =
        let fields : PlainState → List Entry = λ a. a.process.fields in
        let here = sends-fields real m (real-calls ∙ c) in
        let there = sends-fields dummies m (sym (honest.calls m (omega arith)) ∙ real-calls ∙ c) in
        columns-high ks single (fields_of s) (ap (λ (a : PlainState). length (fields a)) (sym h.high) ∙ plain-length real m)
        (λ k is_key is_open.
        ap (λ (es : List Entry). get_or es k Absent) (ap fields (sym h.high) ∙ sym here)
        ∙ honest.entries m (omega arith) (real-calls ∙ c) k is_key is_open
        ∙ ap (λ (es : List Entry). get_or es k Absent) (there ∙ ap fields h.low))
        ∙ ap fields (sym h.high)
        ∙ sym here

    half-outgoing : (half ks single cs s).outgoing ≡ with_line ks s m (entries_at_step real m) low-call
    unfolding turn_by lead
    half-outgoing = share-line ks s m (entries_at_step real m) low-call h.positions columns-real

    half-sent : (half ks single cs s).outgoing.sent ≡ s.outgoing.sent ++ line
    half-sent = ap (λ (o : Outgoing). o.sent) half-outgoing

    half-low : plain_at dummies (suc m) ≡ alone ks Low (half ks single cs s)
    unfolding plain_at
    half-low = ap (plain_step (length ks) cs) h.low ∙ low_step ks single cs s going

    has_room : short low-call (lent - s.outgoing.bytes) (line_length ks) ≡ false
    has_room =
        room_for ks s m (entries_at_step real m) low-call lent (lines_from real (suc m) n)
        (subst (λ (ls : List Sent). s.outgoing.bytes + line_length ks * length ls ≤ lent) lines_split h.room)

    clock-after : (whole ks single cs s).clock.positions ≡ 2 * suc m
    clock-after =
        let second = ap (λ (c : Clock). c.positions) (turn-clock ks cs (half ks single cs s) (High A)) in
        let first = ap (λ (c : Clock). c.positions) (turn-clock ks cs s Low) in
        omega (arith, first, second, h.positions)

    room_after : (whole ks single cs s).outgoing.bytes + line_length ks * length (lines_from real (suc m) n) ≤ lent
    room_after =
        let later = lines_from real (suc m) n in
        let both = ap length lines_split ∙ length-append line later in
        let split = ap (λ (i : ℕ). line_length ks * i) both ∙ mul-add (line_length ks) (length line) (length later) in
        omega (arith, h.room, split, ap (λ (o : Outgoing). o.bytes) (output-still ks single cs s ∙ half-outgoing))

    next : After (suc m) n (whole ks single cs s)
    unfolding plain_at
    next =
        record {
          high = ap (plain_step (length ks) cs) h.high ∙ high-step ks single cs s high-calls even;
          low = half-low ∙ sym (low-still ks single cs s);
          kinds = turn-counts ks cs (High A) (half ks single cs s) (turn-counts ks cs Low s h.kinds);
          positions = clock-after;
          room = room_after;
        }

  -- what has been sent, and behind it what the plain run sends from here on
  abbrev Sending : ℕ → ℕ → State → Outcome → Type 0
  Sending m n s x = x.lines ≡ s.outgoing.sent ++ lines_from real m n

  nothing-more : (n m : ℕ) (sent : List Sent) → N ≡ m + n → stopped cs (plain_at dummies m).process ≡ true → sent ≡ sent ++ lines_from real m n
  nothing-more n m sent e h = sym (ap (λ (ls : List Sent). sent ++ ls) (quiet n m e h) ∙ append-nil sent)

  module _ (n m : ℕ) (s : State) (e : N ≡ m + suc n) (h : After m (suc n) s) where
    -- what is to be shown of the pairs that come after this one
    abbrev Later : Type 0
    Later = After (suc m) n (whole ks single cs s) → Sending (suc m) n (whole ks single cs s) (run ks cs lent (whole ks single cs s) (times_lh n))

    module _ (going : stopped cs (process Low s) ≡ false) where
      -- the low turn's line stands before what is sent later
      joined : (half ks single cs s).outgoing.sent ++ lines_from real (suc m) n ≡ s.outgoing.sent ++ lines_from real m (suc n)
      joined =
          ap (λ (ls : List Sent). ls ++ lines_from real (suc m) n) (half-sent n m s e h going)
          ∙ append_assoc s.outgoing.sent (line n m s e h going) (lines_from real (suc m) n)
          ∙ ap (λ (ls : List Sent). s.outgoing.sent ++ ls) (sym (lines_split n m s e h going))

      from-half : Later → (b : Bool) → stopped cs (process Low (half ks single cs s)) ≡ b → Sending m (suc n) s (run ks cs lent (half ks single cs s) ((High A) ∷ times_lh n))
      unfolding no_room
      from-half later true d =
          run-stopped ks cs lent (half ks single cs s) ((High A) ∷ times_lh n) d
          ∙ nothing-more n (suc m) (half ks single cs s).outgoing.sent (omega arith) (ap (λ (a : PlainState). stopped cs a.process) (half-low n m s e h going) ∙ d)
          ∙ joined
      from-half later false d =
          run_on ks cs lent (half ks single cs s) (High A) (times_lh n) d refl
          ∙ later (next n m s e h going)
          ∙ ap (λ (o : Outgoing). o.sent ++ lines_from real (suc m) n) (output-still ks single cs s)
          ∙ joined

    from-pair : Later → (b : Bool) → stopped cs (process Low s) ≡ b → Sending m (suc n) s (run ks cs lent s (Low ∷ (High A) ∷ times_lh n))
    unfolding no_room
    from-pair later true d =
        run-stopped ks cs lent s (Low ∷ (High A) ∷ times_lh n) d ∙ nothing-more (suc n) m s.outgoing.sent e (ap (λ (a : PlainState). stopped cs a.process) h.low ∙ d)
    from-pair later false d =
        run_on ks cs lent s Low ((High A) ∷ times_lh n) d (has_room n m s e h d) ∙ from-half d later (stopped cs (process Low (half ks single cs s))) refl

  sending : (n m : ℕ) (s : State) → N ≡ m + n → After m n s → Sending m n s (run ks cs lent s (times_lh n))
  unfolding times_lh lines_from
  sending zero m s e h = run-used ks cs lent s ∙ sym (append-nil s.outgoing.sent)
  sending (suc n) m s e h = from-pair n m s e h (sending n (suc m) (whole ks single cs s) (omega arith)) (stopped cs (process Low s)) refl

  at_first : HoldsLines j N lent → After 0 N (initial ks j.messages)
  unfolding plain_at initial fresh at calls
  at_first room = record { high = refl; low = refl; kinds = refl; positions = refl; room = omega (arith, room) }

pub honest-loses-nothing : HonestLosesNothing
unfolding run_job_by initial
honest-loses-nothing j N lent single turns honest room =
    ap (λ (ls : List Level). (run j.keys j.commands lent (initial j.keys j.messages) ls).lines) turns
    ∙ sending j single N lent honest N 0 (initial j.keys j.messages) (omega arith) (at_first j single N lent honest room)

-- a sheet of the first form has one owner
single-owner : (t : List ℕ) (j : Job) → read_sheet t ≡ accepted j → j.form ≡ 1 → Every (KeyBy false) j.keys
unfolding form_of
single-owner t j read e = subst (λ (n : ℕ). Every (KeyBy (form_of n).owners) j.keys) e (accepted-sound t j read).owners

pub honest-sheet-loses-nothing : HonestSheetLosesNothing
unfolding run_sheet numbers_of memory_after front
honest-sheet-loses-nothing t j N m read form turns honest room =
    let same = honest-loses-nothing j N (length m) (single-owner t j read form) turns honest room in
    rw read
    (record {
      written = sym (counts_of j (length m)).sent ∙ ap (λ (ls : List Sent). length (bytes_of ls)) same;
      memory = ap (λ (ls : List Sent). bytes_of ls ++ drop (length (bytes_of ls)) m) same;
    })

pairs-length : (N : ℕ) → length (times_lh N) ≡ 2 * N
unfolding times_lh
pairs-length zero = refl
pairs-length (suc N) = omega (arith, pairs-length N)

pub pairs-within : PairsWithin
pairs-within t j N read turns =
    let sound = accepted-sound t j read in
    let letters : length j.turns ≡ 2 * N = ap length turns ∙ pairs-length N in
    (omega (arith, sound.some_turns), omega (arith, sound.most_turns, (every-form-fits j.form).letters))
