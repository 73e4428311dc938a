-- One turn on what a run holds: a law for a command at either level, one for an idle turn, one for each call. None speaks of the rest of the run.
use Prim.Native.Nat.{ℕ, suc, ◌+◌, ◌*◌, ◌<◌, ◌≤◌}
use mathlib.Core.Path.{◌≡◌, refl, sym, ap, ap₂, subst, ◌∙◌}
use mathlib.Core.Bool.{Bool, true, false, cond}
use mathlib.Core.List.{List, [], ◌∷◌, ◌++◌, append-nil}
use native.Mathlib.{Nat.add-zero, Numerals.add-one, Omega.arith, Decide.dec_lt}
use lib.{Dec.ltb, Dec.leb, ListN.length, ListN.get_or, ListN.drop, ListN.set, ListN.take, ListN.length-take, ListN.get_or-eq_default, ListN.drop_of_length-le, Seq.drop-cons, Seq.get_or-take, Seq.take-suc-set}
use borrow.Author.Tests.{lt-ltb, le-ltb, lt-leb, le-leb}
use Rattle.model_run.specs.{Step.Stepped, Step.does, Step.call_of, Line.Sent, Line.line_length, Line.line_bytes}
use Rattle.model_run.specs.{Line.bytes_of, Process.Process, Process.entry, Process.stored, Process.step, Process.command, Process.stopped, Process.refill, State.Role}
use Rattle.model_run.specs.{State.leads, State.follows, State.role, State.put, State.each, State.taken_of, State.takes, State.sends, State.ticked, State.State}
use Rattle.model_run.specs.{State.process, State.fields_of, State.with_process, Message.source, Message.received, Message.receive, Message.columns, Message.line_now}
use Rattle.model_run.specs.{Message.send, Verdict.kind_at, Verdict.waits, Verdict.idles, Run.waits_at, Run.counted, Run.turn}
use Rattle.model.specs.{Execution.called_of, Execution.calls_by, Stored.side, Stored.with_side, Stored.held}
use Rattle.model.specs.{Stored.absent_field, Stored.kinds_in, Stored.job_of}
use Rattle.model_run.specs.State as State
use Rattle.model.specs.declared.{Entry.Entry, Entry.TheVariants.Absent, Field.Field, Key.Key, Command.Command, Call.Call, Level.Level, Execution.Execution}
use Rattle.model.specs.declared.{Clock.Clock, StoredJob.StoredJob}
use Rattle.model.specs.declared.Call.TheVariants.{Neither, Receives, Sends}
use Rattle.model.specs.declared.Owner.TheVariants.{A, B}
use Rattle.model.specs.declared.Level.TheVariants.{Low, High}
use Rattle.model_run.proofs.{Levels.leads-not-follows}
use Rattle.model_run.proofs.Turn.{Alone, idles_at, call_at, turn_alone, turn-idle, turn-receive, turn-send}
use Rattle.run_message.proofs.Laws.{held-set, held_same}
use Rattle.model.specs.Placed.{placed}
use Rattle.write_line.specs.Line.{columns_in, line_of}
use Rattle.model.proofs.Placed.{placed-nil}
use Rattle.model.proofs.Ready.{Ready, keys-count, lines-count, program-count}
use Rattle.write_line.proofs.Laws.{held_at}
use Rattle.run_job.specs.{Held.Held, Held.record_of, Held.with_record, Held.with_message, Held.with_kinds, Held.with_taken, Held.with_bytes, Held.with_clock, Held.process_of}
use Rattle.run_job.specs.{Held.state_of, Turn.Turned}
use Rattle.run_job.specs.Command.{Moved, command_at, moved_by, made_before, followed_by}
use Rattle.run_job.proofs.Views.{command-is, operands-at}

columns-same : (i : ℕ) (ks : List Key) (f g : Level → List Entry) → ((l : Level) → f l ≡ g l) → columns i ks f ≡ columns i ks g
unfolding columns
columns-same i [] f g e = refl
columns-same i (k ∷ ks) f g e =
    ap₂ (λ (x : Entry) (xs : List Entry). x ∷ xs) (ap (λ (l : List Entry). get_or l i Absent) (e (source k))) (columns-same (suc i) ks f g e)

-- of the first n kinds the one at a place
take_at : (n : ℕ) (kinds : List Call) (i : ℕ) → get_or (take n kinds) i Neither ≡ made_before i n kinds
take_at n kinds i = go (dec_lt i n)
  where
    go : Dec (i < n) → get_or (take n kinds) i Neither ≡ made_before i n kinds
    go (yes b) = get_or-take n kinds i Neither b ∙ sym (rw (lt-ltb _ _ b))
    go (no b) =
        let end : n ≤ i = omega arith in
        get_or-eq_default (take n kinds) Neither (omega (arith, length-take n kinds)) ∙ sym (rw (le-ltb _ _ end))

-- what is held with another record of a level's execution, another message and another clock
abbrev pub moved_on : Level → Moved → Clock → Held → Held
moved_on l t c h = with_clock c (with_record l t.execution (with_message t.message h))

-- after a call of the leader of this kind, with its next record
abbrev pub called_by : Call → Execution → Clock → Held → Held
called_by k next c h = with_clock c (with_record Low next (with_kinds (set h.kinds h.low.calls k) h))

module _ {j : StoredJob} (ok : Ready j) (sent : List Sent) (h : Held) where
  abbrev ks : List Key
  ks = (job_of j).keys

  abbrev cs : List Command
  cs = (job_of j).commands

  abbrev here : State
  here = state_of j sent h

  pub process-is : (l : Level) → process l here ≡ process_of j.keys h l
  unfolding state_of State.at
  process-is Low = refl
  process-is (High A) = refl
  process-is (High B) = refl

  -- a turn that sends nothing
  still : (l : Level) (h' : Held) (m : List ℕ) → turn ks cs l here ≡ state_of j sent h' → Turned j l sent h h' m m
  unfolding bytes_of
  still l h' m e = record { new = []; state = e ∙ ap (λ (xs : List Sent). state_of j xs h') (sym (append-nil sent)); memory = sym (placed-nil m h.bytes) }

  -- the clock alone goes on
  clock-only : (l : Level) (c : Clock) → c ≡ ticked l h.clock → counted l here ≡ state_of j sent (with_clock c h)
  unfolding state_of
  clock-only Low c e = ap (λ (d : Clock). state_of j sent (with_clock d h)) (sym e)
  clock-only (High o) c e = ap (λ (d : Clock). state_of j sent (with_clock d h)) (sym e)

  -- the leader has made as many calls with another record of a level's execution
  abbrev SameCalls : Level → Execution → Type 0
  SameCalls l y = (with_record l y h).low.calls ≡ h.low.calls

  -- where a command of the leader is no call, and whatever another's is
  calls-kept : (l : Level) (k : Call) → (role l ≡ leads → k ≡ Neither) → (y : Execution) → y.calls ≡ (record_of l h).calls + calls_by k → SameCalls l y
  calls-kept Low k none y e = e ∙ ap (λ (i : Call). h.low.calls + calls_by i) (none refl) ∙ add-zero h.low.calls
  calls-kept (High A) k none y e = refl
  calls-kept (High B) k none y e = refl

  -- a level's own field at a key changed, and its record
  abbrev changed : Level → Execution → ℕ → Entry → State
  changed l y k e = counted l (with_process l (record { execution = y; fields = set (held j.keys h.message l) k e }) here)

  changed-is-held : (l : Level) (y : Execution) (k : ℕ) (f : Field) (c : Clock) (e : Entry) → k < j.keys → f ≡ with_side l e (get_or h.message k absent_field) → c ≡ ticked l h.clock
      → SameCalls l y → changed l y k e ≡ state_of j sent (moved_on l (record { execution = y; message = set h.message k f }) c h)
  unfolding state_of State.put
  changed-is-held Low y k f c e below ef ec same =
      let own = held-set j.keys h.message Low k f below ∙ ap (λ (g : Field). set (held j.keys h.message Low) k (side Low g)) ef in
      let first = held_same j.keys h.message (High A) k f absent_field (ap (side (High A)) ef) in
      let second = held_same j.keys h.message (High B) k f absent_field (ap (side (High B)) ef) in
      rw (own, first, second, ec, same)
  changed-is-held (High A) y k f c e below ef ec same =
      let own = held-set j.keys h.message (High A) k f below ∙ ap (λ (g : Field). set (held j.keys h.message (High A)) k (side (High A) g)) ef in
      let low = held_same j.keys h.message Low k f absent_field (ap (side Low) ef) in
      let other = held_same j.keys h.message (High B) k f absent_field (ap (side (High B)) ef) in
      rw (own, low, other, ec)
  changed-is-held (High B) y k f c e below ef ec same =
      let own = held-set j.keys h.message (High B) k f below ∙ ap (λ (g : Field). set (held j.keys h.message (High B)) k (side (High B) g)) ef in
      let low = held_same j.keys h.message Low k f absent_field (ap (side Low) ef) in
      let other = held_same j.keys h.message (High A) k f absent_field (ap (side (High A)) ef) in
      rw (own, low, other, ec)

  module _ (l : Level) where
    abbrev x : Execution
    x = record_of l h

    -- the command at which a level's execution stands
    abbrev pub command_of : Command
    command_of = command_at j.commands x.place

    -- ---- An idle turn

    pub idle-turn : role l ≡ follows → idles_at ks cs here l ≡ true → (c : Clock) → c ≡ ticked l h.clock → (m : List ℕ) → Turned j l sent h (with_clock c h) m m
    idle-turn f e c ec m = still l _ m (turn-idle ks cs here l f e ∙ clock-only l c ec)

    -- it idles at the end
    pub ends-idle : j.command_count ≤ x.place → idles_at ks cs here l ≡ true
    unfolding idles stopped
    ends-idle end =
        ap (λ (b : Bool). idles b (waits_at cs here.kinds (process l here)))
        (ap (λ (p : Process). leb (length cs) p.execution.place) (process-is l) ∙ le-leb (length cs) x.place (omega (arith, program-count ok)))

    module _ (live : x.place < j.command_count) where
      pub command-here : command cs (process l here) ≡ command_of
      unfolding command
      command-here = ap (λ (p : Process). command_at cs p.execution.place) (process-is l) ∙ command-is ok x.place live

      call-here : call_at ks cs here l ≡ call_of command_of.op
      call-here = ap (λ (c : Command). call_of c.op) command-here

      -- elsewhere, whether it waits is all that idling asks
      pub waits-here : idles_at ks cs here l ≡ waits (call_of command_of.op) (made_before x.calls h.low.calls h.kinds)
      unfolding idles stopped waits_at state_of
      waits-here =
          let going : stopped cs (process l here) ≡ false = ap (λ (p : Process). leb (length cs) p.execution.place) (process-is l) ∙ lt-leb (length cs) x.place (omega (arith, program-count ok)) in
          ap₂ (λ (b : Bool) (p : Process). idles b (waits (call_at ks cs here l) (kind_at here.kinds p.execution.calls))) going (process-is l)
          ∙ ap₂ waits call-here (take_at h.low.calls h.kinds x.calls)

      -- ---- A command

      -- as the code tests it: the leader's command is no call, and another does not wait at it
      abbrev pub Free : Role → Type 0
      Free leads = call_of command_of.op ≡ Neither
      Free follows = waits (call_of command_of.op) (made_before x.calls h.low.calls h.kinds) ≡ false

      alone : (r : Role) → Free r → Alone ks cs here r l
      alone leads e = call-here ∙ e
      alone follows e = waits-here ∙ e

      no_call : (r : Role) → role l ≡ r → Free r → role l ≡ leads → call_of command_of.op ≡ Neither
      no_call leads e f g = f
      no_call follows e f g = absurd (leads-not-follows (sym g ∙ e))

      key_below : command_of.k < j.keys
      key_below = (operands-at ok x.place live).k

      -- the model's step of it
      step-here : (e : Entry) → e ≡ side l (get_or h.message command_of.k absent_field) → (r : Stepped) → r ≡ does j.command_count command_of x e
          → step (length cs) (command cs (process l here)) (process l here) ≡ record { execution = r.execution; fields = set (held j.keys h.message l) command_of.k r.entry }
      unfolding step entry
      step-here e ee r er =
          let p = process_of j.keys h l in
          let found = held_at j.keys h.message l command_of.k key_below ∙ sym ee in
          ap₂ (λ (c : Command) (q : Process). step (length cs) c q) command-here (process-is l)
          ∙ ap₂ (λ (n : ℕ) (d : Entry). stored p command_of.k (does n command_of x d)) (program-count ok) found
          ∙ ap (stored p command_of.k) (sym er)

      pub command-turn : Free (role l) → (t : Moved) → t ≡ moved_by j.command_count command_of l x h.message → (c : Clock) → c ≡ ticked l h.clock → (m : List ℕ)
          → Turned j l sent h (moved_on l t c h) m m
      unfolding does
      command-turn free t et c ec m =
          let k = command_of.k in
          let f : Field = get_or h.message k absent_field in
          let s : Stepped = does j.command_count command_of x (side l f) in
          still l _ m
          (turn_alone ks cs here l (alone (role l) free)
          ∙ ap (λ (p : Process). counted l (with_process l p here)) (step-here (side l f) refl s refl)
          ∙ changed-is-held l s.execution k (with_side l s.entry f) c s.entry key_below refl ec (calls-kept l (call_of command_of.op) (no_call (role l) refl free) s.execution refl)
          ∙ ap (λ (u : Moved). state_of j sent (moved_on l u c h)) (sym et))

    -- ---- A turn of an execution that follows

    -- all is as it was
    stays : with_record l x (with_message h.message h) ≡ h
    stays = same l
      where
        same : (i : Level) → with_record i (record_of i h) (with_message h.message h) ≡ h
        same Low = refl
        same (High A) = refl
        same (High B) = refl

    abbrev same : Moved
    same = record { execution = x; message = h.message }

    abbrev moved : Moved
    moved = moved_by j.command_count command_of l x h.message

    pub follow-turn : role l ≡ follows → (t : Moved) → t ≡ followed_by j l x h.message h.low.calls h.kinds → (c : Clock) → c ≡ ticked l h.clock → (m : List ℕ)
        → Turned j l sent h (moved_on l t c h) m m
    follow-turn f t et c ec m = go (dec_lt x.place j.command_count)
      where
        idle : t ≡ same → idles_at ks cs here l ≡ true → Turned j l sent h (moved_on l t c h) m m
        idle e i =
            subst (λ (g : Held). Turned j l sent h g m m) (ap (with_clock c) (sym stays) ∙ ap (λ (u : Moved). moved_on l u c h) (sym e)) (idle-turn f i c ec m)

        free : (live : x.place < j.command_count) (r : Role) → r ≡ follows → waits (call_of command_of.op) (made_before x.calls h.low.calls h.kinds) ≡ false → Free live r
        free live leads e w = absurd (leads-not-follows e)
        free live follows e w = w

        go : Dec (x.place < j.command_count) → Turned j l sent h (moved_on l t c h) m m
        go (no b) =
            let end : j.command_count ≤ x.place = omega arith in
            idle (et ∙ (rw (le-leb _ _ end))) (ends-idle end)
        go (yes live) = waiting (waits (call_of command_of.op) (made_before x.calls h.low.calls h.kinds)) refl
          where
            going : t ≡ cond (waits (call_of command_of.op) (made_before x.calls h.low.calls h.kinds)) same moved
            going = et ∙ (rw (lt-leb _ _ live))

            waiting : (b : Bool) → waits (call_of command_of.op) (made_before x.calls h.low.calls h.kinds) ≡ b → Turned j l sent h (moved_on l t c h) m m
            waiting true w = idle (going ∙ ap (λ (b : Bool). cond b same moved) w) (waits-here live ∙ w)
            waiting false w = command-turn live (free live (role l) f w) t (going ∙ ap (λ (b : Bool). cond b same moved) w) c ec m

  -- ---- The leader's calls

  module _ (live : h.low.place < j.command_count) (inside : h.low.calls < length h.kinds)
      (c : Clock) (ec : c ≡ ticked Low h.clock) (next : Execution) (enext : next ≡ called_of h.low) where
    -- one kind more
    kind-more : (k : Call) → kinds_in next.calls (set h.kinds h.low.calls k) ≡ kinds_in h.low.calls h.kinds ++ (k ∷ [])
    kind-more k =
        ap (λ (y : Execution). kinds_in y.calls (set h.kinds h.low.calls k)) enext
        ∙ ap (λ (n : ℕ). take n (set h.kinds h.low.calls k)) (add-one h.low.calls)
        ∙ take-suc-set h.kinds h.low.calls k inside

    abbrev lines : ℕ
    lines = j.message_count

    -- the lines that are left once one more is taken, where there is one
    took : (n : ℕ) → n ≡ cond (ltb h.taken lines) (h.taken + 1) h.taken
        → taken_of (drop h.taken (job_of j).messages) h.taken ≡ record { rest = drop n (job_of j).messages; taken = n }
    took n en = go (dec_lt h.taken lines)
      where
        ms : List (List Entry)
        ms = (job_of j).messages

        go : Dec (h.taken < lines) → taken_of (drop h.taken ms) h.taken ≡ record { rest = drop n ms; taken = n }
        go (yes b) =
            let below : h.taken < length ms = omega (arith, lines-count ok) in
            let more : n ≡ h.taken + 1 = en ∙ (rw (lt-ltb _ _ b)) in
            rw (more, drop-cons ms h.taken [] below, add-one)
        go (no b) =
            let end : lines ≤ h.taken = omega arith in
            let none : n ≡ h.taken = en ∙ (rw (le-ltb _ _ end)) in
            let past : length ms ≤ h.taken = omega (arith, lines-count ok) in
            rw (none, drop_of_length-le ms past)

    pub receive-turn : call_of (command_of Low).op ≡ Receives → (m' : List Field) → ((l : Level) → held j.keys m' l ≡ received ks (drop h.taken (job_of j).messages) l)
        → (n : ℕ) → n ≡ cond (ltb h.taken lines) (h.taken + 1) h.taken → (m : List ℕ)
        → Turned j Low sent h (called_by Receives next c (with_taken n (with_message m' h))) m m
    unfolding state_of receive State.noted takes State.each State.put State.at refill
    receive-turn is m' em n en m =
        let fields : (l : Level) → received ks (drop h.taken (job_of j).messages) l ≡ held j.keys m' l = λ l. sym (em l) in
        still Low _ m (turn-receive ks cs here (call-here Low live ∙ is) ∙ rw (fields Low, fields (High A), fields (High B), took n en, ← kind-more Receives, ← ec, ← enext))

    pub send-turn : call_of (command_of Low).op ≡ Sends → (n : ℕ) → n ≡ 10 + 12 * j.keys
        → (m m' : List ℕ) → m' ≡ placed m h.bytes (line_bytes (line_of h.clock.positions (columns_in j.keys j.secrets h.message)))
        → Turned j Low sent h (called_by Sends next c (with_bytes (h.bytes + n) h)) m m'
    unfolding state_of send State.noted sends line_now bytes_of line_length State.put State.at job_of
    send-turn is n en m m' em =
        let line = line_of h.clock.positions (columns_in j.keys j.secrets h.message) in
        let now : line_now ks here ≡ line = ap (line_of h.clock.positions) (columns-same 0 ks (fields_of here) (held j.keys h.message) (λ l. ap (λ (p : Process). p.fields) (process-is l))) in
        let need : line_length ks ≡ n = ap (λ (i : ℕ). 10 + 12 * i) (keys-count ok) ∙ sym en in
        record {
          new = line ∷ [];
          state = turn-send ks cs here (call-here Low live ∙ is) ∙ rw (now, need, ← kind-more Sends, ← ec, ← enext);
          memory = em ∙ ap (placed m h.bytes) (sym (append-nil (line_bytes line)));
        }
