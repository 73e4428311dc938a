-- Two runs in lockstep: what all but the owners in question see stays equal, turn by turn, to the end.
use Prim.Native.Nat.{ℕ, suc, ◌+◌, ◌-◌, ◌<◌, zero-le, suc-le-suc}
use mathlib.Core.Path.{◌≡◌, refl, sym, ◌∙◌, ap, ap₂, subst}
use mathlib.Core.Logic.{◌≢◌}
use mathlib.Core.List.{List, [], ◌∷◌, ◌++◌}
use lib.{ListN.length, ListN.get_or, ListN.drop, Seq.get_or-drop}
use native.Mathlib.Numerals.{one-add}
use Rattle.model_run.specs.{Step.call_of, Line.Sent, Line.line_length, Process.Process, Process.refill, Process.step, Process.command, State.Incoming}
use Rattle.model_run.specs.{State.Outgoing, State.State, State.fields_of, State.Role, State.leads, State.follows, State.role, State.leader, State.taken_of}
use Rattle.model_run.specs.{State.takes, State.sends, State.ticked, State.process, State.with_process, State.noted, Run.Outcome, Run.share, Run.counted, Run.lead}
use Rattle.model_run.specs.{Run.followed, Run.Rule, Run.following, Run.moved, Run.turn_by, Run.ended, Run.settle, Run.run_by, Run.initial, Message.shown}
use Rattle.model_run.specs.{Message.source, Message.fill, Message.received, Message.receive, Message.columns, Message.line_now, Message.send, Verdict.Verdict}
use Rattle.model_run.specs.{Verdict.GoesOn, Verdict.Ends, Verdict.lacking, Verdict.no_room}
use Rattle.model_run.specs.Verdict.{verdict}
use Rattle.model_run.specs.Secrecy.{Whose, Among}
use Rattle.model_run.proofs.Levels.{Changed, same, other, changed, at_each}
use Rattle.model_run.specs.Data.{Entry, Absent, Key, Open, Secret, Command, Call, Neither, Receives, Sends, Level, Low, High, Owner, A, B, Ending, LettersUsed}
use Rattle.model_run.specs.Data.{Clock}

-- ---- The executions of the owners in question

abbrev pub Theirs : Whose → Level → Type 0
Theirs o Low = ⊥
Theirs o (High w) = Among o w

-- the low one is none of them
abbrev seen : ⊥ → ⊥
seen z = z

-- ---- What an execution is shown

-- any other execution is shown the same of two entries that are equal unless their key is a secret of these owners
shown-alike : (o : Whose) → (l : Level) → ¬ Theirs o l → (k : Key) {e f : Entry} → (¬ Theirs o (source k) → e ≡ f) → shown l k e ≡ shown l k f
unfolding shown source
shown-alike o l lo Open h = h seen
shown-alike o Low lo (Secret w d) h = refl
shown-alike o (High A) lo (Secret A d) h = h lo
shown-alike o (High A) lo (Secret B d) h = refl
shown-alike o (High B) lo (Secret A d) h = refl
shown-alike o (High B) lo (Secret B d) h = h lo

-- ---- The relation

-- two message lines agree at the keys that o does not own
abbrev pub LineLike : Whose → List Key → List Entry → List Entry → Type 0
LineLike o ks a b = (k : ℕ) → k < length ks → ¬ Theirs o (source (get_or ks k Open)) → get_or a k Absent ≡ get_or b k Absent

abbrev pub RestLike : Whose → List Key → List (List Entry) → List (List Entry) → Type 0
RestLike o ks [] [] = Unit {0}
RestLike o ks [] (b ∷ bs) = ⊥
RestLike o ks (a ∷ xs) [] = ⊥
RestLike o ks (a ∷ xs) (b ∷ bs) = LineLike o ks a b × RestLike o ks xs bs

-- the columns of two sent lines
pub data Agree (o : Whose) : List Key → List Entry → List Entry → Type 0 where
  done : Agree o [] [] []
  next : {k : Key} {ks : List Key} {e f : Entry} {es fs : List Entry} → (¬ Theirs o (source k) → e ≡ f) → Agree o ks es fs → Agree o (k ∷ ks) (e ∷ es) (f ∷ fs)

pub record LinesAgree (o : Whose) (ks : List Key) (x y : Sent) : Type 0 where
  pub position : x.position ≡ y.position
  pub columns : Agree o ks x.columns y.columns

pub data SentLike (o : Whose) (ks : List Key) : List Sent → List Sent → Type 0 where
  none : SentLike o ks [] []
  more : {x y : Sent} {xs ys : List Sent} → LinesAgree o ks x y → SentLike o ks xs ys → SentLike o ks (x ∷ xs) (y ∷ ys)

pub record IncomingLike (o : Whose) (ks : List Key) (a b : Incoming) : Type 0 where
  pub rest : RestLike o ks a.rest b.rest
  pub taken : a.taken ≡ b.taken

pub record OutgoingLike (o : Whose) (ks : List Key) (a b : Outgoing) : Type 0 where
  pub sent : SentLike o ks a.sent b.sent
  pub bytes : a.bytes ≡ b.bytes

pub record Like (o : Whose) (ks : List Key) (s t : State) : Type 0 where
  pub processes : (l : Level) → ¬ Theirs o l → process l s ≡ process l t
  pub kinds : s.kinds ≡ t.kinds
  pub incoming : IncomingLike o ks s.incoming t.incoming
  pub outgoing : OutgoingLike o ks s.outgoing t.outgoing
  pub clock : s.clock ≡ t.clock

pub record Same (o : Whose) (ks : List Key) (x y : Outcome) : Type 0 where
  pub ending : x.ending ≡ y.ending
  pub counts : x.counts ≡ y.counts
  pub lines : SentLike o ks x.lines y.lines

-- ---- Its parts

sent-snoc : (o : Whose) (ks : List Key) {xs ys : List Sent} {x y : Sent} → SentLike o ks xs ys → LinesAgree o ks x y → SentLike o ks (xs ++ (x ∷ [])) (ys ++ (y ∷ []))
sent-snoc o ks none h = more h none
sent-snoc o ks (more g r) h = more g (sent-snoc o ks r h)

-- the part of two lines from key 1 on
tail-alike : (o : Whose) (k : Key) (ks : List Key) (a b : List Entry) → LineLike o (k ∷ ks) a b → LineLike o ks (drop 1 a) (drop 1 b)
tail-alike o k ks a b h i below own = tail a ∙ h (suc i) (suc-le-suc below) own ∙ sym (tail b)
  where
    tail : (es : List Entry) → get_or (drop 1 es) i Absent ≡ get_or es (suc i) Absent
    tail es = get_or-drop 1 es i Absent ∙ ap (λ (n : ℕ). get_or es n Absent) (one-add i)

fill-alike : (o : Whose) → (l : Level) → ¬ Theirs o l → (ks : List Key) (a b : List Entry) → LineLike o ks a b → fill l ks a ≡ fill l ks b
unfolding fill
fill-alike o l lo [] a b h = refl
fill-alike o l lo (k ∷ ks) a b h = ap₂ ◌∷◌ (shown-alike o l lo k (h 0 (suc-le-suc zero-le))) (fill-alike o l lo ks (drop 1 a) (drop 1 b) (tail-alike o k ks a b h))

columns-alike : (o : Whose) (ks : List Key) (s t : State) → Like o ks s t → (i : ℕ) (js : List Key) → Agree o js (columns i js (fields_of s)) (columns i js (fields_of t))
unfolding columns
columns-alike o ks s t h i [] = done
columns-alike o ks s t h i (j ∷ js) = next (λ own. ap (λ (p : Process). get_or p.fields i Absent) (h.processes (source j) own)) (columns-alike o ks s t h (suc i) js)

module _ (o : Whose) (ks : List Key) where
  -- ---- The steps of a turn keep the relation

  received-alike : (xs ys : List (List Entry)) → RestLike o ks xs ys → (l : Level) → ¬ Theirs o l → received ks xs l ≡ received ks ys l
  unfolding received
  received-alike [] [] r l lo = refl
  received-alike [] (y ∷ ys) r l lo = absurd r
  received-alike (x ∷ xs) [] r l lo = absurd r
  received-alike (x ∷ xs) (y ∷ ys) r l lo = fill-alike o l lo ks x y r.0

  takes-alike : (a b : Incoming) → IncomingLike o ks a b → IncomingLike o ks (takes a) (takes b)
  unfolding takes
  takes-alike a b h = go a.rest b.rest h.rest
    where
      go : (xs ys : List (List Entry)) → RestLike o ks xs ys → IncomingLike o ks (taken_of xs a.taken) (taken_of ys b.taken)
      go [] [] r = record { rest = tt; taken = h.taken }
      go [] (y ∷ ys) r = absurd r
      go (x ∷ xs) [] r = absurd r
      go (x ∷ xs) (y ∷ ys) r = record { rest = r.1; taken = ap (λ (n : ℕ). n + 1) h.taken }

  receive-alike : (s t : State) → Like o ks s t → Like o ks (receive ks s) (receive ks t)
  unfolding receive
  receive-alike s t h =
      record {
        processes = λ l lo. at_each _ l s.processes ∙ ap₂ refill (received-alike _ _ h.incoming.rest l lo) (h.processes l lo) ∙ sym (at_each _ l t.processes);
        kinds = h.kinds;
        incoming = takes-alike _ _ h.incoming;
        outgoing = h.outgoing;
        clock = h.clock;
      }

  send-alike : (s t : State) → Like o ks s t → Like o ks (send ks s) (send ks t)
  unfolding send sends line_now
  send-alike s t h =
      let lines = sent-snoc o ks h.outgoing.sent (record { position = ap (λ (c : Clock). c.positions) h.clock; columns = columns-alike o ks s t h 0 ks }) in
      record { processes = h.processes; kinds = h.kinds; incoming = h.incoming; outgoing = record { sent = lines; bytes = cc h.outgoing.bytes }; clock = h.clock }

  noted-alike : (k : Call) (s t : State) → Like o ks s t → Like o ks (noted k s) (noted k t)
  unfolding noted
  noted-alike k s t h = record { processes = h.processes; kinds = ap (λ (m : List Call). m ++ (k ∷ [])) h.kinds; incoming = h.incoming; outgoing = h.outgoing; clock = h.clock }

  share-alike : (c : Call) (s t : State) → Like o ks s t → Like o ks (share c ks s) (share c ks t)
  unfolding share
  share-alike Neither s t h = h
  share-alike Receives s t h = noted-alike Receives _ _ (receive-alike s t h)
  share-alike Sends s t h = noted-alike Sends _ _ (send-alike s t h)

  counted-alike : (l : Level) (s t : State) → Like o ks s t → Like o ks (counted l s) (counted l t)
  counted-alike l s t h = record { processes = h.processes; kinds = h.kinds; incoming = h.incoming; outgoing = h.outgoing; clock = ap (ticked l) h.clock }

  put-alike : {l m : Level} → Changed l m → (p q : Process) (s t : State) → (¬ Theirs o l → p ≡ q) → ¬ Theirs o m → process m s ≡ process m t → process m (with_process l p s) ≡ process m (with_process l q t)
  put-alike (same e f) p q s t g mo h = f p s.processes ∙ g (λ lo. mo (subst (Theirs o) e lo)) ∙ sym (f q t.processes)
  put-alike (other f) p q s t g mo h = f p s.processes ∙ h ∙ sym (f q t.processes)

  with-alike : (l : Level) (p q : Process) (s t : State) → (¬ Theirs o l → p ≡ q) → Like o ks s t → Like o ks (with_process l p s) (with_process l q t)
  with-alike l p q s t e h = record { processes = λ m mo. put-alike (changed l m) p q s t e mo (h.processes m mo); kinds = h.kinds; incoming = h.incoming; outgoing = h.outgoing; clock = h.clock }

  -- At the low execution: equal low processes stay equal, and so does what all but o see of the message and the output
  lead-alike : (n : ℕ) (c : Command) (s t : State) → Like o ks s t → Like o ks (lead ks n c s) (lead ks n c t)
  unfolding lead
  lead-alike n c s t h = let g = share-alike (call_of c.op) s t h in with-alike leader _ _ _ _ (λ lo. ap (step n c) (g.processes leader seen)) g

  module _ (cs : List Command) where
    -- At any other execution: what two rules make of it is the same, unless it is o's own, which changes nothing that the others see
    abbrev pub RulesAgree : Rule → Rule → Type 0
    RulesAgree f g = (l : Level) → role l ≡ follows → ¬ Theirs o l → (s t : State) → Like o ks s t → f cs l s ≡ g cs l t

    -- two runs by one rule: the others' turns start from equal processes
    pub same-rule : RulesAgree following following
    same-rule l r lo s t h = ap₂ (followed cs) h.kinds (h.processes l lo)

    moved-alike : (f g : Rule) → RulesAgree f g → (r : Role) (l : Level) → role l ≡ r → (s t : State) → Like o ks s t → Like o ks (moved f r ks cs l s) (moved g r ks cs l t)
    moved-alike f g agree leads l e s t h =
        let led : Process → State → State = λ p. lead ks (length cs) (command cs p) in
        subst (λ (p : Process). Like o ks (led (process leader s) s) (led p t)) (h.processes leader seen) (lead-alike (length cs) _ s t h)
    moved-alike f g agree follows l e s t h = with-alike l _ _ s t (λ lo. agree l e lo s t h) h

    turn-alike : (f g : Rule) → RulesAgree f g → (l : Level) (s t : State) → Like o ks s t → Like o ks (turn_by f ks cs l s) (turn_by g ks cs l t)
    unfolding turn_by
    turn-alike f g agree l s t h = counted-alike l _ _ (moved-alike f g agree (role l) l refl s t h)

    -- ---- The endings

    ended-alike : (e : Ending) (s t : State) → Like o ks s t → Same o ks (ended e s) (ended e t)
    unfolding ended
    ended-alike e s t h = record { ending = refl; counts = cc (h.clock, h.outgoing.bytes, h.incoming.taken, h.processes leader seen); lines = h.outgoing.sent }

    no-room-alike : (room : ℕ) (ls : List Level) (s t : State) → Like o ks s t → no_room ks cs room ls s ≡ no_room ks cs room ls t
    unfolding no_room
    no-room-alike room [] s t h = refl
    no-room-alike room (l ∷ ls) s t h =
        ap₂ (λ (p : Process) (n : ℕ). lacking (role l) (call_of (command cs p).op) (room - n) (line_length ks)) (h.processes leader seen) h.outgoing.bytes

    verdict-alike : (room : ℕ) (ls : List Level) (s t : State) → Like o ks s t → verdict ks cs room ls s ≡ verdict ks cs room ls t
    unfolding verdict
    verdict-alike room ls s t h = cc (h.processes leader seen, no-room-alike room ls s t h)

    settle-same : (v : Verdict) (s t : State) (x y : Outcome) → Like o ks s t → Same o ks x y → Same o ks (settle v s x) (settle v t y)
    settle-same GoesOn s t x y h later = later
    settle-same (Ends e) s t x y h later = ended-alike e s t h

    settle-alike : {v w : Verdict} (s t : State) (x y : Outcome) → v ≡ w → Like o ks s t → Same o ks x y → Same o ks (settle v s x) (settle w t y)
    settle-alike {v} {w} s t x y e h later = subst (λ (u : Verdict). Same o ks (settle v s x) (settle u t y)) e (settle-same v s t x y h later)

    -- ---- The induction over the turns

    pub run-alike : (f g : Rule) → RulesAgree f g → (room : ℕ) (ls : List Level) (s t : State) → Like o ks s t → Same o ks (run_by f ks cs room s ls) (run_by g ks cs room t ls)
    unfolding run_by
    run-alike f g agree room [] s t h = settle-alike s t _ _ (verdict-alike room [] s t h) h (ended-alike LettersUsed s t h)
    run-alike f g agree room (l ∷ ls) s t h =
        settle-alike s t _ _ (verdict-alike room (l ∷ ls) s t h) h (run-alike f g agree room ls (turn_by f ks cs l s) (turn_by g ks cs l t) (turn-alike f g agree l s t h))

  pub initial-alike : (a b : List (List Entry)) → RestLike o ks a b → Like o ks (initial ks a) (initial ks b)
  unfolding initial
  initial-alike a b r = record { processes = λ l lo. refl; kinds = refl; incoming = record { rest = r; taken = refl }; outgoing = record { sent = none; bytes = refl }; clock = refl }
