-- What is claimed of two owners holds.
use Prim.Native.Nat.{ℕ, zero, suc, ◌<◌, ◌≤◌}
use mathlib.Core.Path.{◌≡◌, refl, sym, ◌∙◌, ap, ap₂, subst}
use mathlib.Core.Logic.{◌≢◌, ◌⊎◌, inl, inr}
use mathlib.Core.Bool.{false, true≢false}
use mathlib.Core.List.{List, [], ◌∷◌}
use lib.{IntN.ℤ, IntN.pos, ListN.get_or, ListN.length, ListN.replicate}
use native.Mathlib.Omega.{arith}
use Rattle.model.specs.{Job.Job, Form.form_of, Sheet.accepted, Sheet.read_sheet, Accepted.Every, Accepted.KeyBy, SheetTwo.sheet_two, SheetTwo.with_messages, SheetTwo.keys_two}
use Rattle.model.specs.{SheetTwo.sheet_both, SheetTwo.sheet_less, SheetTwo.sheet_other, SheetTwo.job_both, SheetTwo.job_less, SheetTwo.job_other}
use Rattle.model_run.specs.{Line.Sent, Process.Process, Process.refill, State.State, State.fields_of, State.process, State.with_process, Message.shown, Message.received, Message.receive}
use Rattle.model_run.specs.{Message.source, Message.line_now, Run.Outcome, Run.following, Run.initial, Run.run_job_by, Whole.run_sheet, Secrecy.Whose, Secrecy.of, Secrecy.both}
use Rattle.model_run.specs.{Secrecy.OwnedBy, Secrecy.Alike, Secrecy.Indistinguishable, Examples.AllHold}
use Rattle.model_run.specs.Owners.{field_at, AlwaysSees, NoLineLeft, AlwaysShows, RunsAlike, NotLookedAt, OneOwner, sheet_apart, ahead, wrong_call, clamped_high, examples}
use Rattle.model_run.specs.Owners.{lent, HiddenOf, TellingB, TellingBoth}
use Rattle.model_run.specs.Data.{Entry, Absent, Number, Key, Open, Secret, Owner, A, B, Level, Low, High, Ending, Counts}
use Rattle.model.proofs.{Accepted.accepted-sound}
use Rattle.model_run.proofs.{Levels.a≢b, Levels.at_each, Levels.changed, Levels.Changed, Levels.same, Levels.other, Message.fill-at, Message.columns-at}
use Rattle.model_run.proofs.{Examples.opened, Secrecy.source-owned, Secrecy.rest-alike, Secrecy.sheet-secrecy}
use Rattle.model_run.proofs.Lockstep.{Theirs, Agree, done, next, LinesAgree, SentLike, none, more, Like, Same, same-rule, run-alike, initial-alike}

-- ---- What each execution sees, and what is sent of it

module _ (ks : List Key) (s : State) where
  -- the fields of a level after a `receive`
  refilled : (l : Level) (k : ℕ) → field_at l k (receive ks s) ≡ get_or (received ks s.incoming.rest l) k Absent
  unfolding receive refill
  refilled l k = ap (λ (p : Process). get_or p.fields k Absent) (at_each (λ m. refill (received ks s.incoming.rest m)) l s.processes)

  -- .. that takes a line
  filled : (es : List Entry) (rest : List (List Entry)) → s.incoming.rest ≡ es ∷ rest → (k : ℕ) → k < length ks → (l : Level) {x : Key} → get_or ks k Open ≡ x
      → field_at l k (receive ks s) ≡ shown l x (get_or es k Absent)
  unfolding received
  filled es rest e k below l is =
      refilled l k ∙ ap (λ (ms : List (List Entry)). get_or (received ks ms l) k Absent) e ∙ fill-at l ks es k below ∙ ap (λ (x : Key). shown l x (get_or es k Absent)) is

shown-open : (l : Level) (e : Entry) → shown l Open e ≡ e
unfolding shown
shown-open l e = refl

shown-own : (o : Owner) (d : ℤ) (e : Entry) → shown (High o) (Secret o d) e ≡ e
unfolding shown
shown-own A d e = refl
shown-own B d e = refl

shown-others : (l : Level) (o : Owner) (d : ℤ) (e : Entry) → l ≢ High o → shown l (Secret o d) e ≡ Number d
unfolding shown
shown-others Low o d e n = refl
shown-others (High A) A d e n = absurd (n refl)
shown-others (High A) B d e n = refl
shown-others (High B) A d e n = refl
shown-others (High B) B d e n = absurd (n refl)

pub always-sees : AlwaysSees
always-sees ks s es rest e k below =
    record {
      at_open = λ is l. filled ks s es rest e k below l is ∙ shown-open l _;
      at_own = λ o d is. filled ks s es rest e k below (High o) is ∙ shown-own o d _;
      at_others = λ o d is l n. filled ks s es rest e k below l is ∙ shown-others l o d _ n;
    }

none-at : (n k : ℕ) → get_or (replicate n Absent) k Absent ≡ Absent
none-at zero k = refl
none-at (suc n) zero = refl
none-at (suc n) (suc k) = none-at n k

pub no-line-left : NoLineLeft
unfolding received
no-line-left ks s e l k = refilled ks s l k ∙ ap (λ (ms : List (List Entry)). get_or (received ks ms l) k Absent) e ∙ none-at (length ks) k

pub always-shows : AlwaysShows
unfolding line_now source
always-shows ks s k below = record { at_open = λ is. from is; at_secret = λ o d is. from is }
  where
    from : {x : Key} → get_or ks k Open ≡ x → get_or (line_now ks s).columns k Absent ≡ get_or (fields_of s (source x)) k Absent
    from is = columns-at 0 ks (fields_of s) k below ∙ ap (λ (n : ℕ). get_or (fields_of s (source (get_or ks k Open))) n Absent) (omega arith) ∙ ap (λ (x : Key). get_or (fields_of s (source x)) k Absent) is

-- ---- The form

pub runs-alike : RunsAlike
unfolding run_job_by
runs-alike n j lent = refl

-- ---- An owner who has no key

module _ (o : Whose) where
  columns-equal : {ks : List Key} {es fs : List Entry} → Every (λ (k : Key). ¬ OwnedBy o k) ks → Agree o ks es fs → es ≡ fs
  columns-equal h done = refl
  columns-equal h (next {k = k} e r) = ap₂ ◌∷◌ (e (λ own. h.0 (source-owned o k own))) (columns-equal h.1 r)

  lines-equal : {ks : List Key} {xs ys : List Sent} → Every (λ (k : Key). ¬ OwnedBy o k) ks → SentLike o ks xs ys → xs ≡ ys
  lines-equal h none = refl
  lines-equal h (more l r) =
      ap₂ ◌∷◌ (ap₂ {C = Sent} (λ (n : ℕ) (es : List Entry). record { position = n; columns = es }) l.position (columns-equal h l.columns)) (lines-equal h r)

  outcome-equal : {ks : List Key} {x y : Outcome} → Every (λ (k : Key). ¬ OwnedBy o k) ks → Same o ks x y → x ≡ y
  outcome-equal h s i = record { ending = s.ending i; counts = s.counts i; lines = lines-equal h s.lines i }

put_other : (o : Owner) (p : Process) (s : State) {m : Level} → Changed (High o) m → ¬ Theirs (of o) m → process m (with_process (High o) p s) ≡ process m s
put_other o p s (same e f) mo = absurd (mo (subst (Theirs (of o)) e refl))
put_other o p s (other f) mo = f p s.processes

pub not-looked-at : NotLookedAt
unfolding run_job_by
not-looked-at o j lent p h =
    let first = initial j.keys j.messages in
    let like = initial-alike (of o) j.keys j.messages j.messages (rest-alike (of o) j.keys j.messages j.messages refl (λ n k is_key own. refl)) in
    outcome-equal (of o) h
    (run-alike (of o) j.keys j.commands following following (same-rule (of o) j.keys j.commands) lent j.turns (with_process (High o) p first) first
    (record { processes = λ m mo. put_other o p first (changed (High o) m) mo; kinds = refl; incoming = like.incoming; outgoing = like.outgoing; clock = refl }))

-- a sheet of the first form has one owner
ownerless : (k : Key) → KeyBy false k → ¬ OwnedBy (of B) k × (OwnedBy both k → OwnedBy (of A) k)
ownerless Open h = (λ z. z, λ z. z)
ownerless (Secret A d) h = (λ e. a≢b (ap High (sym e)), λ z. refl)
ownerless (Secret B d) h = absurd (true≢false (sym h))

all-ownerless : (ks : List Key) → Every (KeyBy false) ks → Every (λ (k : Key). ¬ OwnedBy (of B) k × (OwnedBy both k → OwnedBy (of A) k)) ks
all-ownerless [] h = tt
all-ownerless (k ∷ ks) h = (ownerless k h.0, all-ownerless ks h.1)

pub one-owner : OneOwner
unfolding form_of
one-owner s j e form = all-ownerless j.keys (subst (λ (n : ℕ). Every (KeyBy (form_of n).owners) j.keys) form (accepted-sound s j e).owners)

-- ---- The examples

pub texts : AllHold examples
unfolding opened sheet_two with_messages sheet_apart ahead wrong_call clamped_high examples
texts = (refl, (refl, (refl, (refl, (refl, (refl, (refl, (refl, (refl, (refl, (refl, (refl, tt))))))))))))

-- ---- B's entries

alike-b : Alike (of B) job_both job_less
alike-b = record { keys = refl; commands = refl; turns = refl; count = refl; entries = go }
  where
    go : (j k : ℕ) → k < 3 → ¬ OwnedBy (of B) (get_or keys_two k Open) → get_or (get_or job_both.messages j []) k Absent ≡ get_or (get_or job_less.messages j []) k Absent
    go zero zero b own = refl
    go zero (suc zero) b own = refl
    go zero (suc (suc zero)) b own = absurd (own refl)
    go zero (suc (suc (suc k))) b own = absurd (omega arith)
    go (suc j) k b own = refl

-- the columns of the keys that are theirs
clear_of : (o : Whose) (p : ℕ) → HiddenOf o p → (OwnedBy o (Secret A (pos 300)) × ((22 ≤ p) × (p ≤ 32))) ⊎ (OwnedBy o (Secret B (pos 400)) × ((34 ≤ p) × (p ≤ 44)))
unfolding opened sheet_two with_messages
clear_of o p h = go h.key refl
  where
    go : (k : ℕ) → h.key ≡ k → (OwnedBy o (Secret A (pos 300)) × ((22 ≤ p) × (p ≤ 32))) ⊎ (OwnedBy o (Secret B (pos 400)) × ((34 ≤ p) × (p ≤ 44)))
    go zero e = absurd (subst (λ (n : ℕ). OwnedBy o (get_or keys_two n Open)) e h.owned)
    go (suc zero) e = inl (subst (λ (n : ℕ). OwnedBy o (get_or keys_two n Open)) e h.owned, (omega arith, omega arith))
    go (suc (suc zero)) e = inr (subst (λ (n : ℕ). OwnedBy o (get_or keys_two n Open)) e h.owned, (omega arith, omega arith))
    go (suc (suc (suc k))) e = absurd (omega (arith, h.is_key))

clear-b : (p : ℕ) → HiddenOf (of B) p → (34 ≤ p) × (p ≤ 44)
clear-b p h = go (clear_of (of B) p h)
  where
    go : (OwnedBy (of B) (Secret A (pos 300)) × ((22 ≤ p) × (p ≤ 32))) ⊎ (OwnedBy (of B) (Secret B (pos 400)) × ((34 ≤ p) × (p ≤ 44))) → (34 ≤ p) × (p ≤ 44)
    go (inl x) = absurd (a≢b (ap High (sym x.0)))
    go (inr x) = x.1

pub clear-a : (p : ℕ) → HiddenOf (of A) p → (22 ≤ p) × (p ≤ 32)
clear-a p h = go (clear_of (of A) p h)
  where
    go : (OwnedBy (of A) (Secret A (pos 300)) × ((22 ≤ p) × (p ≤ 32))) ⊎ (OwnedBy (of A) (Secret B (pos 400)) × ((34 ≤ p) × (p ≤ 44))) → (22 ≤ p) × (p ≤ 32)
    go (inl x) = x.1
    go (inr x) = absurd (a≢b (ap High x.0))

pub telling-b : TellingB
unfolding opened sheet_two with_messages
telling-b =
    record {
      accepts_both = refl;
      accepts_less = refl;
      alike = alike-b;
      sheets = sheet-secrecy (of B) sheet_both sheet_less job_both job_less lent refl refl alike-b;
      differs = λ e. omega arith;
      hidden = λ p least most. record { below = omega arith; key = 2; is_key = omega arith; owned = refl; from = omega arith; to = omega arith };
      clear = clear-b;
      apart = λ i. omega (arith, i.byte 43 (λ h. omega (arith, clear-a 43 h)));
    }

-- ---- The entries of both

alike_both : Alike both job_both job_other
alike_both = record { keys = refl; commands = refl; turns = refl; count = refl; entries = go }
  where
    go : (j k : ℕ) → k < 3 → ¬ OwnedBy both (get_or keys_two k Open) → get_or (get_or job_both.messages j []) k Absent ≡ get_or (get_or job_other.messages j []) k Absent
    go zero zero b own = refl
    go zero (suc zero) b own = absurd (own tt)
    go zero (suc (suc zero)) b own = absurd (own tt)
    go zero (suc (suc (suc k))) b own = absurd (omega arith)
    go (suc j) k b own = refl

clear_both : (p : ℕ) → HiddenOf both p → ((22 ≤ p) × (p ≤ 32)) ⊎ ((34 ≤ p) × (p ≤ 44))
clear_both p h = go (clear_of both p h)
  where
    go : (OwnedBy both (Secret A (pos 300)) × ((22 ≤ p) × (p ≤ 32))) ⊎ (OwnedBy both (Secret B (pos 400)) × ((34 ≤ p) × (p ≤ 44))) → ((22 ≤ p) × (p ≤ 32)) ⊎ ((34 ≤ p) × (p ≤ 44))
    go (inl x) = inl x.1
    go (inr x) = inr x.1

pub telling-both : TellingBoth
unfolding opened sheet_two with_messages
telling-both =
    record {
      accepts_other = refl;
      alike = alike_both;
      sheets = sheet-secrecy both sheet_both sheet_other job_both job_other lent refl refl alike_both;
      differs_a = λ e. omega arith;
      differs_b = λ e. omega arith;
      hidden_a = λ p least most. record { below = omega arith; key = 1; is_key = omega arith; owned = tt; from = omega arith; to = omega arith };
      hidden_b = λ p least most. record { below = omega arith; key = 2; is_key = omega arith; owned = tt; from = omega arith; to = omega arith };
      clear = clear_both;
      not_a = λ i. omega (arith, i.byte 44 (λ h. omega (arith, clear-a 44 h)));
      not_b = λ i. omega (arith, i.byte 31 (λ h. omega (arith, clear-b 31 h)));
    }
