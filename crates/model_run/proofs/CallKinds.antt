-- What is claimed of the kinds of calls holds.
use Prim.Native.Nat.{ℕ, ◌+◌, ◌-◌, ◌<◌}
use mathlib.Core.Path.{◌≡◌, refl, sym, ◌∙◌, ap, ap₂, subst}
use mathlib.Core.Logic.{◌≢◌}
use mathlib.Core.Bool.{Bool, true, false, cond, true≢false}
use mathlib.Core.List.{List, [], ◌∷◌, ◌++◌, append-nil, append_assoc}
use lib.{ListN.length, ListN.get_or, ListN.take, ListN.drop, ListN.length-append, ListN.get_or-append, ListN.get_or-eq_default, Seq.take-add}
use native.Mathlib.{Omega.arith, Decide.dec_lt}
use Rattle.model.specs.{Command.blank, Execution.kinds_by, Execution.calls_by}
use Rattle.model_run.specs.{Step.call_of, Process.Process, Process.step, Process.command, Process.stopped, Process.fresh, State.State, State.Role, State.leads}
use Rattle.model_run.specs.{State.follows, State.role, State.leader, State.at, State.process, Verdict.kind_at, Verdict.waits, Verdict.idles, Run.share, Run.lead}
use Rattle.model_run.specs.{Run.waits_at, Run.unless_idle, Run.followed, Run.following, Run.moved, Run.turn_by, Run.turn, Run.after_turns, Run.low_first, Run.low_turns}
use Rattle.model_run.specs.{Run.state_after, Run.ended, Run.initial, Run.Rule, Run.run_job_by, Run.run_job, Whole.run_sheet, Examples.AllHold}
use Rattle.model_run.specs.Data.{Key, Set, Command, Call, Neither, Receives, Sends, Level, Low, High, A, B, Execution}
use Rattle.model_run.specs.Secrecy.{Whose, of, both}
use Rattle.model_run.specs.CallKinds.{MovesOn, AlwaysMovesOn, OtherKind, calls_in, AlwaysKept, IdlesOn, AlwaysIdles, waits_before, following_before, only}
use Rattle.model_run.specs.CallKinds.{OnlyTheirs, OnlySecretColumns, OnlySecretColumnsOfSheets, sheet_with, MakersSheet, examples}
use Rattle.model_run.proofs.{Levels.Changed, Levels.same, Levels.other, Levels.changed, Levels.put-beside, Turn.call_at, Turn.calls, Turn.count_at, Turn.added_by}
use Rattle.model_run.proofs.{Turn.low_turn, Turn.share-execution, Levels.a≢b, Levels.leads-not-follows, Turn.turn-kinds, Turn.turn-count, Counted.run_of}
use Rattle.model_run.proofs.{Counted.used_all, Counted.counts_of, Examples.opened, Lockstep.Theirs, Lockstep.RulesAgree, Lockstep.same-rule, Lockstep.run-alike}
use Rattle.model_run.proofs.{Lockstep.initial-alike, Secrecy.rest-alike, Secrecy.indistinguishable}

-- ---- The rule

-- a call that does not wait is held to one of its kind
agree : (k j : Call) → k ≢ Neither → waits k j ≢ true → (j ≢ Neither) × (j ≡ k)
unfolding waits
agree Neither j n d = absurd (n refl)
agree Receives Neither n d = absurd (d refl)
agree Receives Receives n d = (n, refl)
agree Receives Sends n d = absurd (d refl)
agree Sends Neither n d = absurd (d refl)
agree Sends Receives n d = absurd (d refl)
agree Sends Sends n d = (n, refl)

-- one of its kind lets it go
alike : (k : Call) → waits k k ≡ false
unfolding waits
alike Neither = refl
alike Receives = refl
alike Sends = refl

waits-or-not : (b : Bool) → (b ≢ true → ⊥) → b ≡ true
waits-or-not true n = refl
waits-or-not false n = absurd (n (λ e. true≢false (sym e)))

-- one that waits idles, wherever it is
waits-idle : (b : Bool) → idles b true ≡ true
unfolding idles
waits-idle true = refl
waits-idle false = refl

module _ (cs : List Command) (kinds : List Call) (p : Process) where
  abbrev own : Call
  own = call_of (command cs p).op

  abbrev low : Call
  low = kind_at kinds p.execution.calls

  waiting : waits own low ≡ true → followed cs kinds p ≡ p
  unfolding followed waits_at
  waiting e = ap (λ (w : Bool). unless_idle cs w p) e ∙ ap (λ (b : Bool). cond b p (step (length cs) (command cs p) p)) (waits-idle (stopped cs p))

  made-if : low ≢ Neither → p.execution.calls < length kinds
  made-if n = go (dec_lt p.execution.calls (length kinds))
    where
      go : Dec (p.execution.calls < length kinds) → p.execution.calls < length kinds
      go (yes b) = b
      go (no b) = absurd (n (get_or-eq_default kinds Neither (omega arith)))

  -- one that has stopped rests
  pub rests : stopped cs p ≡ true → followed cs kinds p ≡ p
  unfolding followed idles
  rests e = rw e

  -- one whose command is of the kind of the low call of its number goes on; so does one that is no call, where that call has not been made
  pub goes_on : stopped cs p ≡ false → low ≡ own → followed cs kinds p ≡ step (length cs) (command cs p) p
  unfolding followed waits_at idles
  goes_on going e = rw (going, e, alike own)

  pub moves-on : MovesOn cs kinds p
  moves-on =
      record {
        only = λ call moves. let a = agree own low call (λ e. moves (waiting e)) in record { made = made-if a.0; kind = a.1 };
        moves = λ going k. goes_on going k.kind;
      }

  -- a call of the other kind waits
  pub idle : OtherKind cs kinds p → followed cs kinds p ≡ p
  idle h = waiting (waits-or-not (waits own low) (λ n. h.other (agree own low h.call n).1))

  -- it is one still where the execution's record is the same and kinds have come behind those that there were
  pub still : (q : Process) (more : List Call) → q.execution ≡ p.execution → OtherKind cs kinds p → OtherKind cs (kinds ++ more) q
  unfolding command
  still q more e h =
      let calls : q.execution.calls ≡ p.execution.calls = ap (λ (x : Execution). x.calls) e in
      let same-own : call_of (command cs q).op ≡ own = ap (λ (x : Execution). call_of (get_or cs x.place (blank Set)).op) e in
      let same_low : kind_at (kinds ++ more) q.execution.calls ≡ low = ap (kind_at (kinds ++ more)) calls ∙ get_or-append kinds more Neither _ h.made in
      record {
        call = λ n. h.call (sym same-own ∙ n);
        made = omega (arith, h.made, calls, length-append kinds more);
        other = λ n. h.other (sym same_low ∙ n ∙ same-own);
      }

pub always-moves-on : AlwaysMovesOn
always-moves-on = moves-on

-- ---- The turns of a list of letters

module _ (ks : List Key) (cs : List Command) where
  -- of two lists, one behind the other
  turns-append : (xs ys : List Level) (s : State) → after_turns ks cs (xs ++ ys) s ≡ after_turns ks cs ys (after_turns ks cs xs s)
  unfolding after_turns
  turns-append [] ys s = refl
  turns-append (x ∷ xs) ys s = turns-append xs ys (turn ks cs x s)

  -- the calls of the leader's next turn, if it is its own, and of those behind it
  first-calls : (r : Role) (p : Process) (ps : List Process) → calls_in cs (low_first r p []) ++ calls_in cs ps ≡ calls_in cs (low_first r p ps)
  unfolding calls_in
  first-calls leads p ps = ap (λ (k : List Call). k ++ calls_in cs ps) (append-nil (kinds_by (call_of (command cs p).op)))
  first-calls follows p ps = refl

  turns-kinds : (ls : List Level) (s : State) → (after_turns ks cs ls s).kinds ≡ s.kinds ++ calls_in cs (low_turns ks cs ls s)
  unfolding after_turns low_turns calls_in
  turns-kinds [] s = sym (append-nil s.kinds)
  turns-kinds (l ∷ ls) s =
      let later = low_turns ks cs ls (turn ks cs l s) in
      turns-kinds ls (turn ks cs l s)
      ∙ ap (λ (kinds : List Call). kinds ++ calls_in cs later) (turn-kinds ks cs s l)
      ∙ append_assoc s.kinds (calls_in cs (low_turn ks cs s (role l))) (calls_in cs later)
      ∙ ap (λ (k : List Call). s.kinds ++ k) (first-calls (role l) (process leader s) later)

  -- there are as many kinds as the leader counts calls
  abbrev pub Counts : State → Type 0
  Counts s = length s.kinds ≡ count_at calls leader s

  pub turn-counts : (l : Level) (s : State) → Counts s → Counts (turn ks cs l s)
  unfolding calls_in calls
  turn-counts l s h =
      ap length (turn-kinds ks cs s l)
      ∙ length-append s.kinds (calls_in cs (low_turn ks cs s (role l)))
      ∙ ap₂ ◌+◌ h (added (role l))
      ∙ sym (turn-count ks cs s calls l)
    where
      added : (r : Role) → length (calls_in cs (low_turn ks cs s r)) ≡ added_by ks cs s calls r
      added leads = ap length (append-nil (kinds_by (call_of (command cs (process leader s)).op)))
      added follows = refl

  turns-count : (ls : List Level) (s : State) → Counts s → Counts (after_turns ks cs ls s)
  unfolding after_turns
  turns-count [] s h = h
  turns-count (l ∷ ls) s h = turns-count ls (turn ks cs l s) (turn-counts l s h)

pub always-kept : AlwaysKept
unfolding initial fresh at calls
always-kept j n =
    let first = initial j.keys j.messages in
    record {
      kinds = turns-kinds j.keys j.commands (take n j.turns) first;
      count = turns-count j.keys j.commands (take n j.turns) first refl;
    }

-- ---- The rest of a run

module _ (ks : List Key) (cs : List Command) (l : Level) (follower : role l ≡ follows) where
  -- a level's execution is at a call of the other kind
  abbrev Wrong : State → Type 0
  Wrong s = OtherKind cs s.kinds (process l s)

  put-idle : {m : Level} → Changed m l → (s : State) → Wrong s → (process l (moved following follows ks cs m s)).execution ≡ (process l s).execution
  put-idle {m} (same e f) s h =
      let own : OtherKind cs s.kinds (process m s) = subst (λ (n : Level). OtherKind cs s.kinds (process n s)) (sym e) h in
      ap (λ (p : Process). p.execution) (f _ s.processes ∙ idle cs s.kinds (process m s) own ∙ ap (λ (n : Level). process n s) e)
  put-idle (other f) s h = ap (λ (p : Process). p.execution) (f _ s.processes)

  moved-idle : (r : Role) (m : Level) (s : State) → Wrong s → (process l (moved following r ks cs m s)).execution ≡ (process l s).execution
  unfolding lead
  moved-idle leads m s h =
      let k = call_at ks cs s leader in
      ap (λ (p : Process). p.execution) (put-beside l follower _ (share k ks s).processes) ∙ share-execution ks s k l
  moved-idle follows m s h = put-idle (changed m l) s h

  turn-idle : (m : Level) (s : State) → Wrong s → (process l (turn ks cs m s)).execution ≡ (process l s).execution
  unfolding turn_by
  turn-idle m s h = moved-idle (role m) m s h

  -- it stays at that call
  turn-wrong : (m : Level) (s : State) → Wrong s → Wrong (turn ks cs m s)
  turn-wrong m s h =
      let t = turn ks cs m s in
      subst (λ (kinds : List Call). OtherKind cs kinds (process l t)) (sym (turn-kinds ks cs s m)) (still cs s.kinds (process l s) (process l t) _ (turn-idle m s h) h)

  idles-for : (ls : List Level) (s : State) → Wrong s → (process l (after_turns ks cs ls s)).execution ≡ (process l s).execution
  unfolding after_turns
  idles-for [] s h = refl
  idles-for (m ∷ ls) s h = idles-for ls (turn ks cs m s) (turn-wrong m s h) ∙ turn-idle m s h

pub idles-on : IdlesOn
idles-on ks cs l follower s h ls = idles-for ks cs l follower ls s h

pub always-idles : AlwaysIdles
always-idles j lent =
    let f = run_of j lent in
    let end = (run_job j lent).counts.positions in
    let first = initial j.keys j.messages in
    record {
      ending = f.ending;
      outcome = f.outcome ∙ ap (λ (n : ℕ). ended f.ending (state_after j n)) (used_all j lent);
      idles = λ l follower n most h.
          let rest = take (end - n) (drop n j.turns) in
          let e : end ≡ n + (end - n) = omega arith in
          let split : take end j.turns ≡ take n j.turns ++ rest = ap (λ (m : ℕ). take m j.turns) e ∙ take-add n (end - n) j.turns in
          let there = ap (λ (ls : List Level). after_turns j.keys j.commands ls first) split ∙ turns-append j.keys j.commands (take n j.turns) rest first in
          ap (λ (s : State). (process l s).execution) there ∙ idles-for j.keys j.commands l follower rest (state_after j n) h;
    }

-- ---- Against any other rule

pub only-theirs : OnlyTheirs
unfolding only
only-theirs (of A) f cs A s = (λ h. refl, λ n. absurd (n refl))
only-theirs (of A) f cs B s = (λ h. absurd (a≢b (ap High h)), λ n. refl)
only-theirs (of B) f cs A s = (λ h. absurd (a≢b (ap High (sym h))), λ n. refl)
only-theirs (of B) f cs B s = (λ h. refl, λ n. absurd (n refl))
only-theirs both f cs w s = (λ h. refl, λ n. absurd (n tt))

-- an execution other than theirs goes by this rule
by-following : (o : Whose) (f : Rule) (cs : List Command) (l : Level) → role l ≡ follows → ¬ Theirs o l → (s : State) → only o f cs l s ≡ following cs l s
unfolding only
by-following o f cs Low r own s = absurd (leads-not-follows r)
by-following (of A) f cs (High A) r own s = absurd (own refl)
by-following (of A) f cs (High B) r own s = refl
by-following (of B) f cs (High A) r own s = refl
by-following (of B) f cs (High B) r own s = absurd (own refl)
by-following both f cs (High o) r own s = absurd (own tt)

rules-agree : (o : Whose) (ks : List Key) (cs : List Command) (f : Rule) → RulesAgree o ks cs following (only o f)
rules-agree o ks cs f l r beside s t h = same-rule o ks cs l r beside s t h ∙ sym (by-following o f cs l r beside t)

pub only-secret-columns : OnlySecretColumns
unfolding run_job_by
only-secret-columns o f j m =
    indistinguishable o j.keys m _ _
    (run-alike o j.keys j.commands following (only o f) (rules-agree o j.keys j.commands f) (length m) j.turns _ _
    (initial-alike o j.keys j.messages j.messages (rest-alike o j.keys j.messages j.messages refl (λ n k is_key o'. refl))))
    (counts_of j (length m)).sent

pub only-secret-columns-of-sheets : OnlySecretColumnsOfSheets
unfolding run_sheet
only-secret-columns-of-sheets o f s j m e = rw e (only-secret-columns o f j m)

-- ---- The maker's sheet

pub makers-sheet : MakersSheet
unfolding opened after_turns waits_before following_before sheet_with
makers-sheet =
    record {
      accepts = refl;
      before = refl;
      now = refl;
      ending = refl;
      counts = refl;
      other =
          record {
            call = λ e. omega (arith, ap calls_by e);
            made = omega arith;
            other = λ e. let z : ◌≡◌ {A = ℕ} 0 1 = ap (λ (k : Call). cond (waits Receives k) 1 0) e in omega arith;
          };
      place = refl;
    }

pub texts : AllHold examples
unfolding opened sheet_with examples
texts = (refl, (refl, (refl, (refl, (refl, tt)))))
