-- What the loop over the letters keeps, over one stored job and what the run holds of its state: what the rest of the run comes to, the bounds, and the
-- output memory. A turn enters by what it leaves (`Turned`), of whatever kind it is.
use Prim.Native.Nat.{ℕ, ◌+◌, ◌-◌, ◌*◌, ◌<◌, ◌≤◌}
use mathlib.Core.Path.{◌≡◌, refl, sym, ap, ap₂, subst, ◌∙◌}
use mathlib.Core.Bool.{Bool, false, cond}
use mathlib.Core.List.{List, [], ◌∷◌, ◌++◌, append_assoc}
use native.Mathlib.{Omega.arith, Nat.zero-add, Nat.mul-le-mul}
use lib.{Dec.leb, Dec.ltb, ListN.length, ListN.get_or, ListN.drop, ListN.length-set, ListN.replicate}
use borrow.Author.Tests.{lt-leb, le-leb, lt-ltb, le-ltb}
use Rattle.model.specs.{Execution.begun, Stored.level_of, Stored.job_of, Stored.held, Stored.key_capacity, Stored.message_capacity, Stored.letter_capacity}
use Rattle.model_run.specs.{Step.call_of, Line.Sent, Line.line_length, Line.line_bytes, Line.bytes_of, Line.memory_after, Process.Process, Process.command, Process.stopped}
use Rattle.model_run.specs.{Process.fresh, Message.received, State.Role, State.follows, State.role, State.started, State.ticked, State.State, State.process, Verdict.GoesOn, Verdict.Ends, Verdict.Verdict}
use Rattle.model_run.specs.{Verdict.short, Verdict.all_used, Verdict.lacking, Verdict.no_room, Verdict.verdict_by, Verdict.verdict, Run.turn, Run.ended, Run.run_by}
use Rattle.model_run.specs.{Run.run, Run.initial, Run.run_job_by, Run.run_job, Whole.left, Whole.left_by}
use Rattle.model_run.specs.State as State
use Rattle.model.specs.declared.{Entry.TheVariants.Absent, Field.Field, Key.Key, Command.Command, Level.Level, Execution.Execution, Clock.Clock}
use Rattle.model.specs.declared.{Call.Call, Ended.Ended, Ending.Ending, StoredJob.StoredJob}
use Rattle.model.specs.declared.Ending.TheVariants.{Stopped, LettersUsed, NoRoom}
use Rattle.model.specs.declared.Call.TheVariants.{Neither, Receives, Sends}
use Rattle.model.specs.declared.Owner.{Owner}
use Rattle.model.specs.declared.Owner.TheVariants.{A, B}
use Rattle.model.specs.declared.Level.TheVariants.{Low, High}
use Rattle.model_run.proofs.{Line.bytes-length, Counted.Reached, Counted.reached-first, Counted.turn-reached, Turn.turn-clock, Turn.Counter, Turn.calls, Turn.clamped}
use Rattle.run_message.specs.Message.{Cleared}
use Rattle.run_message.proofs.Laws.{cleared-held}
use Rattle.run_verdict.specs.Verdict.{CountsFit, counts_as}
use Rattle.model.specs.{Answer.ended_as, Placed.placed}
use Rattle.model.proofs.Placed.{placed-nil, placed-append, placed-length, placed-front}
use Rattle.model.proofs.Ready.{Ready, few, keys-count, lines-count, program-count}
use Rattle.run_job.specs.{Held.Held, Held.record_of, Held.process_of, Held.state_of, Turn.Turned, Turn.letters_left, Turn.found_before}
use Rattle.run_job.proofs.Views.{letters-go-on, letters-end}
use Rattle.run_job.specs.Held.{with_taken, with_message, with_bytes}
use Rattle.run_job.specs.Command.{Moved, command_at, moved_by, followed_by}
use Rattle.run_job.proofs.Turn.{command_of, process-is, command-here, moved_on, called_by, follow-turn, receive-turn, send-turn, command-turn}
use Rattle.write_line.specs.Line.{columns_in, line_of}
use Rattle.model.specs.Execution.{called_of}

bytes-append : (xs ys : List Sent) → bytes_of (xs ++ ys) ≡ bytes_of xs ++ bytes_of ys
unfolding bytes_of
bytes-append [] ys = refl
bytes-append (x ∷ xs) ys = ap (λ (r : List ℕ). line_bytes x ++ r) (bytes-append xs ys) ∙ sym (append_assoc (line_bytes x) (bytes_of xs) (bytes_of ys))

module _ (ks : List Key) (cs : List Command) (room : ℕ) where
  settled : (s : State) (rest : List Level) (e : Ending) → verdict ks cs room rest s ≡ Ends e → run ks cs room s rest ≡ ended e s
  unfolding run_by
  settled s [] e v = rw v
  settled s (l ∷ rest) e v = rw v

  taken-on : (s : State) (l : Level) (rest : List Level) → verdict ks cs room (l ∷ rest) s ≡ GoesOn → run ks cs room s (l ∷ rest) ≡ run ks cs room (turn ks cs l s) rest
  unfolding run_by
  taken-on s l rest v = rw v

-- only a send needs room
pub short-neither : (left line : ℕ) → short Neither left line ≡ false
unfolding short
short-neither left line = refl

pub short-receives : (left line : ℕ) → short Receives left line ≡ false
unfolding short
short-receives left line = refl

pub short-sends : (left line : ℕ) → short Sends left line ≡ ltb left line
unfolding short
short-sends left line = refl

pub record Kept (j : StoredJob) (out₀ : List ℕ) (h : Held) (out : List ℕ) : Type 0 where
  pub sent : List Sent
  pub going : run (job_of j).keys (job_of j).commands (length out₀) (state_of j sent h) (letters_left j h) ≡ run_job (job_of j) (length out₀)
  pub used : h.clock.positions ≤ j.turn_count
  pub reached : Reached (job_of j).keys (length out₀) (length (job_of j).messages) (state_of j sent h)
  pub memory : out ≡ placed out₀ 0 (bytes_of sent)

module _ {j : StoredJob} (ok : Ready j) where
  abbrev ks : List Key
  ks = (job_of j).keys

  abbrev cs : List Command
  cs = (job_of j).commands

  pub begins : (out₀ : List ℕ) (low a b : Execution) (message : List Field) (kinds : List Call) (clock : Clock) → low ≡ begun → a ≡ begun → b ≡ begun → Cleared message → clock ≡ started
      → Kept j out₀ (record { low = low; a = a; b = b; message = message; kinds = kinds; taken = 0; bytes = 0; clock = clock }) out₀
  unfolding run_job_by bytes_of state_of initial fresh
  begins out₀ low a b message kinds clock el ea eb em ec =
      record {
        sent = [];
        going = ap₂ (λ (s : State) (n : ℕ). run ks cs (length out₀) s (drop n (job_of j).turns)) first at_first;
        used = omega (arith, at_first);
        reached = subst (Reached ks (length out₀) (length (job_of j).messages)) (sym first) (reached-first ks (length out₀) (job_of j).messages);
        memory = sym (placed-nil out₀ 0);
      }
    where
      at_first : clock.positions ≡ 0
      at_first = ap (λ (c : Clock). c.positions) ec

      fields : (l : Level) → held j.keys message l ≡ replicate (length ks) Absent
      fields l = cleared-held j.keys message (few ok).keys em l ∙ ap (λ (n : ℕ). replicate n Absent) (sym (keys-count ok))

      first : state_of j [] (record { low = low; a = a; b = b; message = message; kinds = kinds; taken = 0; bytes = 0; clock = clock }) ≡ initial ks (job_of j).messages
      first = rw (el, ea, eb, ec, fields Low, fields (High A), fields (High B))

  module _ {out₀ : List ℕ} {h : Held} {out : List ℕ} (k : Kept j out₀ h out) where
    abbrev here : State
    here = state_of j k.sent h

    -- the bytes written are those of the lines sent
    long : h.bytes ≡ length (bytes_of k.sent)
    unfolding state_of
    long = k.reached.bytes ∙ sym (bytes-length ks k.sent k.reached.lined)

    room : h.bytes ≤ length out₀
    unfolding state_of
    room = k.reached.room

    pub same_length : length out ≡ length out₀
    same_length = ap length k.memory ∙ placed-length out₀ 0 (bytes_of k.sent)

    -- what the code counts stays small
    pub record Small : Type 0 where
      pub positions : h.clock.positions ≤ letter_capacity
      pub steps : h.clock.steps ≤ letter_capacity
      pub counts : (q : Counter) (l : Level) → q.of (record_of l h) ≤ h.clock.positions
      pub taken : h.taken ≤ message_capacity
      pub bytes : h.bytes ≤ (10 + 12 * key_capacity) * letter_capacity
      pub room : h.bytes ≤ length out

    pub small : Small
    unfolding state_of line_length
    small =
        let r = k.reached in
        let at : h.clock.positions ≤ letter_capacity = omega (arith, k.used, (few ok).letters) in
        let line : line_length ks ≤ 10 + 12 * key_capacity = omega (arith, keys-count ok, (few ok).keys) in
        let lines : length k.sent ≤ letter_capacity = omega (arith, r.sent) in
        record {
          positions = at;
          steps = omega (arith, r.steps);
          counts = λ q l. omega (arith, r.counts q l, ap (λ (p : Process). q.of p.execution) (process-is ok k.sent h l));
          taken = omega (arith, r.taken, lines-count ok, (few ok).messages);
          bytes = subst (λ (n : ℕ). n ≤ (10 + 12 * key_capacity) * letter_capacity) (sym r.bytes) (mul-le-mul line lines);
          room = omega (arith, room, same_length);
        }

    -- each fits a count of the code
    pub counted-small : (q : Counter) (l : Level) → q.of (record_of l h) < 4294967296
    counted-small q l = let s = small in omega (arith, s.counts q l, s.positions)

    pub counts-fit : CountsFit h.clock h.bytes h.taken h.low.clamped
    unfolding clamped
    counts-fit =
        let s = small in
        record {
          positions-fit = omega (arith, s.positions);
          steps-fit = omega (arith, s.steps);
          bytes_fit = omega (arith, s.bytes);
          taken-fit = omega (arith, s.taken);
          clamped-fit = counted-small clamped Low;
        }

    -- ---- What is found before a turn

    abbrev found : Verdict
    found = found_before j (length out₀) k.sent h

    -- an ending
    pub ends : (e : Ending) → found ≡ Ends e → (r : Ended) → r ≡ record { ending = e; counts = counts_as h.clock h.bytes h.taken h.low.clamped }
        → left (ended_as r) out ≡ left_by out₀ (run_job (job_of j) (length out₀))
    unfolding ended state_of memory_after State.at
    ends e v r er =
        ap₂ left (ap ended_as er) (k.memory ∙ placed-front out₀ (bytes_of k.sent) (omega (arith, long, room)))
        ∙ ap (left_by out₀) (sym (settled ks cs (length out₀) here (letters_left j h) e v) ∙ k.going)

    low-is : process Low here ≡ process_of j.keys h Low
    low-is = process-is ok k.sent h Low

    -- the tests of the table, as the code makes them
    abbrev table : Bool → Verdict
    table b = verdict_by b (all_used (letters_left j h)) (no_room ks cs (length out₀) (letters_left j h) here)

    pub found-stopped : j.command_count ≤ h.low.place → found ≡ Ends Stopped
    unfolding verdict stopped
    found-stopped end = ap table (ap (λ (p : Process). leb (length cs) p.execution.place) low-is ∙ le-leb (length cs) h.low.place (omega (arith, program-count ok)))

    module _ (live : h.low.place < j.command_count) where
      going_on : stopped cs (process Low here) ≡ false
      unfolding stopped
      going_on = ap (λ (p : Process). leb (length cs) p.execution.place) low-is ∙ lt-leb (length cs) h.low.place (omega (arith, program-count ok))

      pub found-used : j.turn_count ≤ h.clock.positions → found ≡ Ends LettersUsed
      unfolding verdict
      found-used end =
          ap table going_on
          ∙ ap (λ (ls : List Level). verdict_by false (all_used ls) (no_room ks cs (length out₀) (letters_left j h) here)) (letters-end ok h.clock.positions end)

      -- the letter that is next, and its level
      module _ (more : h.clock.positions < j.turn_count) (l : Level) (is : level_of (get_or j.turns h.clock.positions 0) ≡ l) where
        letters : letters_left j h ≡ l ∷ drop (h.clock.positions + 1) (job_of j).turns
        letters = letters-go-on ok h.clock.positions more ∙ ap (λ (m : Level). m ∷ drop (h.clock.positions + 1) (job_of j).turns) is

        -- whether the turn lacks room for its line is all that is left to ask
        abbrev pub lacks : Bool
        lacks = lacking (role l) (call_of (command_of ok k.sent h Low).op) (length out - h.bytes) (10 + 12 * j.keys)

        lacks-is : lacking (role l) (call_of (command cs (process Low here)).op) (length out₀ - h.bytes) (line_length ks) ≡ lacks
        unfolding line_length
        lacks-is =
            ap₂ (λ (c : Command) (n : ℕ). lacking (role l) (call_of c.op) (length out₀ - h.bytes) (10 + 12 * n)) (command-here ok k.sent h Low live) (keys-count ok)
            ∙ ap (λ (n : ℕ). lacking (role l) (call_of (command_of ok k.sent h Low).op) (n - h.bytes) (10 + 12 * j.keys)) (sym same_length)

        pub found-by : found ≡ verdict_by false false lacks
        unfolding verdict no_room state_of
        found-by =
            ap table going_on
            ∙ ap (λ (ls : List Level). verdict_by false (all_used ls) (no_room ks cs (length out₀) ls here)) letters
            ∙ ap (verdict_by false false) lacks-is

        -- a turn of that level, where there is room, and what it leaves
        pub again : lacks ≡ false → {h' : Held} {out' : List ℕ} → Turned j l k.sent h h' out out' → Kept j out₀ h' out'
        unfolding state_of
        again roomy {h'} {out'} t =
            let clock : h'.clock ≡ ticked l h.clock = sym (ap (λ (s : State). s.clock) t.state) ∙ turn-clock ks cs here l in
            let at : h'.clock.positions ≡ h.clock.positions + 1 = ap (λ (c : Clock). c.positions) clock in
            let rest : letters_left j h ≡ l ∷ letters_left j h' = letters ∙ ap (λ (n : ℕ). l ∷ drop n (job_of j).turns) (sym at) in
            let goes : found ≡ GoesOn = found-by ∙ ap (verdict_by false false) roomy in
            record {
              sent = k.sent ++ t.new;
              going =
                  ap (λ (s : State). run ks cs (length out₀) s (letters_left j h')) (sym t.state)
                  ∙ sym (taken-on ks cs (length out₀) here l (letters_left j h') (ap (λ (ls : List Level). verdict ks cs (length out₀) ls here) (sym rest) ∙ goes))
                  ∙ ap (run ks cs (length out₀) here) (sym rest)
                  ∙ k.going;
              used = omega arith;
              reached =
                  subst (Reached ks (length out₀) (length (job_of j).messages)) t.state
                  (turn-reached ks (length out₀) (length (job_of j).messages) cs l here (lacks-is ∙ roomy) k.reached);
              memory =
                  t.memory
                  ∙ ap₂ (λ (m : List ℕ) (n : ℕ). placed m n (bytes_of t.new)) k.memory (long ∙ sym (zero-add (length (bytes_of k.sent))))
                  ∙ placed-append out₀ 0 (bytes_of k.sent) (bytes_of t.new)
                  ∙ ap (placed out₀ 0) (sym (bytes-append k.sent t.new));
            }

-- ---- What the loop keeps

-- besides, the arrays are as long as they were, the low execution has not stopped, which is tested after each of its turns,
-- and the positions used are those before the next
pub record Inv (j : StoredJob) (out₀ : List ℕ) (h : Held) (out : List ℕ) (at : ℕ) : Type 0 where
  pub kept : Kept j out₀ h out
  pub full : length h.message ≡ key_capacity
  pub noted : length h.kinds ≡ letter_capacity
  pub live : h.low.place < j.command_count
  pub here : h.clock.positions ≡ at

-- the record of a call, of which the place and the count are stored
pub stored-call : (x : Execution) {next : Execution} → next ≡ called_of x → record { place = next.place; vars = x.vars; calls = next.calls; clamped = x.clamped } ≡ called_of x
stored-call x e = ap (λ (y : Execution). record { place = y.place; vars = x.vars; calls = y.calls; clamped = x.clamped }) e

-- the same after a turn of the low level, of which it is not asked yet whether it stopped
pub record Led (j : StoredJob) (out₀ : List ℕ) (h : Held) (out : List ℕ) (at : ℕ) : Type 0 where
  pub kept : Kept j out₀ h out
  pub full : length h.message ≡ key_capacity
  pub noted : length h.kinds ≡ letter_capacity
  pub here : h.clock.positions ≡ at

module _ {j : StoredJob} (ok : Ready j) {out₀ : List ℕ} {h : Held} {out : List ℕ} {at : ℕ} where
  pub goes-on : Led j out₀ h out at → h.low.place < j.command_count → Inv j out₀ h out at
  goes-on i live = record { kept = i.kept; full = i.full; noted = i.noted; live = live; here = i.here }

  pub fits : Led j out₀ h out at → CountsFit h.clock h.bytes h.taken h.low.clamped
  fits i = counts-fit ok i.kept

  -- it stopped
  pub stops : Led j out₀ h out at → j.command_count ≤ h.low.place → (r : Ended) → r ≡ record { ending = Stopped; counts = counts_as h.clock h.bytes h.taken h.low.clamped }
      → left (ended_as r) out ≡ left_by out₀ (run_job (job_of j) (length out₀))
  stops i end = ends ok i.kept Stopped (found-stopped ok i.kept end)

  module _ (i : Inv j out₀ h out at) where
    pub led : Led j out₀ h out at
    led = record { kept = i.kept; full = i.full; noted = i.noted; here = i.here }

    abbrev bounds : Small ok i.kept
    bounds = small ok i.kept

    pub ticks : (h.clock.positions < 4294967296) × (h.clock.steps < 4294967296)
    ticks = (omega (arith, bounds.positions), omega (arith, bounds.steps))

    pub place-small : h.low.place < 4294967296
    place-small = omega (arith, i.live, (few ok).commands)

    pub calls-small : (l : Level) → (record_of l h).calls < 4294967296
    unfolding calls
    calls-small l = counted-small ok i.kept calls l

    pub clamped-small : (l : Level) → (record_of l h).clamped < 4294967296
    unfolding clamped
    clamped-small l = counted-small ok i.kept clamped l

    -- the letters are used
    pub runs-out : j.turn_count ≤ at → (r : Ended) → r ≡ record { ending = LettersUsed; counts = counts_as h.clock h.bytes h.taken h.low.clamped }
        → left (ended_as r) out ≡ left_by out₀ (run_job (job_of j) (length out₀))
    runs-out end = ends ok i.kept LettersUsed (found-used ok i.kept i.live (omega (arith, i.here)))

    -- ---- A turn of the level whose letter is next

    module _ (more : at < j.turn_count) where
      abbrev left-over : h.clock.positions < j.turn_count
      left-over = omega (arith, i.here)

      -- a call more has its place in the array of kinds
      pub kinds-inside : (l : Level) → (record_of l h).calls < length h.kinds
      unfolding calls
      kinds-inside l = omega (arith, bounds.counts calls l, left-over, (few ok).letters, i.noted)

      module _ {l : Level} (turn-is : level_of (get_or j.turns at 0) ≡ l) where
        level-is : level_of (get_or j.turns h.clock.positions 0) ≡ l
        level-is = ap (λ (n : ℕ). level_of (get_or j.turns n 0)) i.here ∙ turn-is

        next : (c : Clock) → c ≡ ticked l h.clock → c.positions ≡ at + 1
        next c ec = omega (arith, ap (λ (d : Clock). d.positions) ec, i.here)

        follows-on : role l ≡ follows → {t : Moved} → t ≡ followed_by j l (record_of l h) h.message h.low.calls h.kinds → {c : Clock} → c ≡ ticked l h.clock
            → Kept j out₀ (moved_on l t c h) out
        follows-on f {t} et {c} ec =
            again ok i.kept i.live left-over l level-is (ap (λ (r : Role). lacking r (call_of (command_of ok i.kept.sent h Low).op) (length out - h.bytes) (10 + 12 * j.keys)) f)
            (follow-turn ok i.kept.sent h l f t et c ec out)

      -- of an owner
      pub after-follow : (o : Owner) → level_of (get_or j.turns at 0) ≡ High o → {t : Moved} → t ≡ followed_by j (High o) (record_of (High o) h) h.message h.low.calls h.kinds
          → length t.message ≡ length h.message → {c : Clock} → c ≡ ticked (High o) h.clock → Inv j out₀ (moved_on (High o) t c h) out (at + 1)
      after-follow A turn-is et size {c} ec =
          record { kept = follows-on turn-is refl et ec; full = size ∙ i.full; noted = i.noted; live = i.live; here = next turn-is c ec }
      after-follow B turn-is et size {c} ec =
          record { kept = follows-on turn-is refl et ec; full = size ∙ i.full; noted = i.noted; live = i.live; here = next turn-is c ec }

      module _ (turn-is : level_of (get_or j.turns at 0) ≡ Low) where
        abbrev in_hand : Command
        in_hand = command_at j.commands h.low.place

        passes : {k : Call} → call_of in_hand.op ≡ k → short k (length out - h.bytes) (10 + 12 * j.keys) ≡ false
            → {h' : Held} {out' : List ℕ} → Turned j Low i.kept.sent h h' out out' → Kept j out₀ h' out'
        passes {k} call roomy t =
            again ok i.kept i.live left-over Low (level-is turn-is) (ap (λ (k : Call). short k (length out - h.bytes) (10 + 12 * j.keys)) call ∙ roomy) t

        pub after-receive : call_of in_hand.op ≡ Receives → {m : List Field} → ((l : Level) → held j.keys m l ≡ received (job_of j).keys (drop h.taken (job_of j).messages) l)
            → length m ≡ length h.message → {n : ℕ} → n ≡ cond (ltb h.taken j.message_count) (h.taken + 1) h.taken
            → {x : Execution} → x ≡ called_of h.low → {c : Clock} → c ≡ ticked Low h.clock
            → Led j out₀ (called_by Receives x c (with_taken n (with_message m h))) out (at + 1)
        after-receive call {m} em size {n} en {x} ex {c} ec =
            record {
              kept = passes call (short-receives _ _) (receive-turn ok i.kept.sent h i.live (kinds-inside Low) c ec x ex call m em n en out);
              full = size ∙ i.full;
              noted = simp length-set i.noted;
              here = next turn-is c ec;
            }

        -- there is no room for a send's line
        pub no-room : call_of in_hand.op ≡ Sends → length out - h.bytes < 10 + 12 * j.keys
            → (r : Ended) → r ≡ record { ending = NoRoom; counts = counts_as h.clock h.bytes h.taken h.low.clamped }
            → left (ended_as r) out ≡ left_by out₀ (run_job (job_of j) (length out₀))
        no-room call lacks =
            let full = ap (λ (k : Call). short k (length out - h.bytes) (10 + 12 * j.keys)) call ∙ short-sends _ _ ∙ lt-ltb _ _ lacks in
            ends ok i.kept NoRoom (found-by ok i.kept i.live left-over Low (level-is turn-is) ∙ ap (verdict_by false false) full)

        pub after-send : call_of in_hand.op ≡ Sends → 10 + 12 * j.keys ≤ length out - h.bytes
            → {out' : List ℕ} → out' ≡ placed out h.bytes (line_bytes (line_of at (columns_in j.keys j.secrets h.message)))
            → {x : Execution} → x ≡ called_of h.low → {c : Clock} → c ≡ ticked Low h.clock
            → Led j out₀ (called_by Sends x c (with_bytes (h.bytes + (10 + 12 * j.keys)) h)) out' (at + 1)
        after-send call room {out'} eo {x} ex {c} ec =
            record {
              kept =
                  passes call (short-sends _ _ ∙ le-ltb _ _ room)
                  (send-turn ok i.kept.sent h i.live (kinds-inside Low) c ec x ex call _ refl out out'
                  (eo ∙ ap (λ (n : ℕ). placed out h.bytes (line_bytes (line_of n (columns_in j.keys j.secrets h.message)))) (sym i.here)));
              full = i.full;
              noted = simp length-set i.noted;
              here = next turn-is c ec;
            }

        pub after-command : call_of in_hand.op ≡ Neither → {t : Moved} → t ≡ moved_by j.command_count in_hand Low h.low h.message → {c : Clock} → c ≡ ticked Low h.clock
            → Led j out₀ (moved_on Low t c h) out (at + 1)
        after-command call {t} et {c} ec =
            record {
              kept = passes call (short-neither _ _) (command-turn ok i.kept.sent h Low i.live call t et c ec out);
              full = ap (λ (u : Moved). length u.message) et ∙ simp length-set i.full;
              noted = i.noted;
              here = next turn-is c ec;
            }
