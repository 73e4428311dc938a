-- The claims of Note 9, over jobs.
use Prim.Native.Nat.{ℕ, ◌≤◌}
use mathlib.Core.Path.{◌≡◌, refl, sym, ap, subst, ◌∙◌}
use mathlib.Core.Logic.{◌⊎◌, inl, inr}
use mathlib.Core.Bool.{Bool, true, false, ◌&&◌, and-false}
use native.Mathlib.Omega.{arith}
use lib.{IntN.ℤ, Dec.eqb}
use borrow.Author.Tests.{eqb-true, eqb-false, eq-eqb, ne_eqb}
use Rattle.model.specs.{Job.Job, Form.form_of, Form.form_one, Form.form_two, Accepted.SoundBy, Accepted.Every, Accepted.KeyBy, Accepted.LevelBy, Accepted.Sound, Accepted.all, Limits.forms}
use Rattle.model.specs.declared.{Form.Form, Key.Key, Level.Level}
use Rattle.model.specs.declared.Key.TheVariants.{Open, Secret}
use Rattle.model.specs.declared.Level.TheVariants.{Low, High}
use Rattle.model.specs.declared.Owner.TheVariants.{A, B}
use Rattle.model_run.specs.{Run.run_job, Owners.of_form}
use Rattle.model_run.proofs.Owners.{runs-alike}
use Rattle.model_text.proofs.{Bytes.every-imply, TextLaws.and_both}
use Rattle.model_text.proofs.Tests.{Pass, and-made, all-every, every-all, fails-at, at-fails}
use Rattle.model_change.specs.Change.{gives, denies}
use Rattle.model_forms.specs.Forms.{number, key_a, turn_a, says, turn}
use Rattle.model_forms.specs.Claims.{other, AlwaysKeeps, JobsRunSame, JobsTurnBack, NamesB, TurnsB, AlwaysGets, AlwaysTurns, Unsayable}
use Rattle.model_forms.specs.declared.Asked.{Asked}
use Rattle.model_forms.specs.declared.Asked.TheVariants.{One, Two}

pub gives_same : {j k : Job} → gives j ≡ gives k → j ≡ k
gives_same e = cc

pub gives-not : {X : Type 0} {j : Job} {n : ℕ} → denies n ≡ gives j → X
gives-not e = absurd (let z : ◌≡◌ {A = ℕ} 0 1 = cc in omega arith)

pub denied-same : {n m : ℕ} → denies n ≡ denies m → n ≡ m
denied-same e = cc

never : {X : Type 0} → false ≡ true → X
never e = absurd (let z : ◌≡◌ {A = ℕ} 0 1 = cc in omega arith)

-- ---- The three ways that a job may go

module _ (a : Asked) (j : Job) where
  pub turn-same : j.form ≡ number a → turn a j ≡ denies 48
  unfolding turn
  turn-same e = rw (eq-eqb _ _ e)

  pub turn-cannot : (j.form ≡ number a → ⊥) → says a j ≡ false → turn a j ≡ denies 47
  unfolding turn
  turn-cannot e h = rw (ne_eqb _ _ e, h)

  pub turn-gives : (j.form ≡ number a → ⊥) → says a j ≡ true → turn a j ≡ gives (of_form (number a) j)
  unfolding turn
  turn-gives e h = rw (ne_eqb _ _ e, h)

  -- which of them it goes
  pub data Way : Type 0 where
    same : j.form ≡ number a → turn a j ≡ denies 48 → Way
    cannot : (j.form ≡ number a → ⊥) → says a j ≡ false → turn a j ≡ denies 47 → Way
    goes : (j.form ≡ number a → ⊥) → says a j ≡ true → turn a j ≡ gives (of_form (number a) j) → Way

  pub way : Way
  way = go (eqb j.form (number a)) (says a j) refl refl
    where
      go : (b c : Bool) → eqb j.form (number a) ≡ b → says a j ≡ c → Way
      go true c p q = let e = eqb-true _ _ p in same e (turn-same e)
      go false false p q = let e = eqb-false _ _ p in cannot e q (turn-cannot e q)
      go false true p q = let e = eqb-false _ _ p in goes e q (turn-gives e q)

pub record Went (a : Asked) (j k : Job) : Type 0 where
  pub other : j.form ≡ number a → ⊥
  pub said : says a j ≡ true
  pub is : k ≡ of_form (number a) j

pub went : (a : Asked) (j k : Job) → turn a j ≡ gives k → Went a j k
went a j k e = go (way a j)
  where
    go : Way a j → Went a j k
    go (same p q) = gives-not (sym q ∙ e)
    go (cannot p h q) = gives-not (sym q ∙ e)
    go (goes p h q) = record { other = p; said = h; is = gives_same (sym e ∙ q) }

pub jobs-run-same : JobsRunSame
jobs-run-same a j k room e = ap (λ (x : Job). run_job x room) (went a j k e).is ∙ runs-alike (number a) j room

-- ---- What a form says

key-a : (k : Key) → KeyBy false k → key_a k ≡ true
key-a Open h = refl
key-a (Secret A d) h = refl
key-a (Secret B d) h = never h

a_key : (k : Key) → key_a k ≡ true → KeyBy false k
a_key Open h = tt
a_key (Secret A d) h = tt
a_key (Secret B d) h = never h

turn-a : (l : Level) → LevelBy false l → turn_a l ≡ true
turn-a Low h = refl
turn-a (High A) h = refl
turn-a (High B) h = never h

a_turn : (l : Level) → turn_a l ≡ true → LevelBy false l
a_turn Low h = tt
a_turn (High A) h = tt
a_turn (High B) h = never h

wider-key : (k : Key) → KeyBy false k → KeyBy true k
wider-key Open h = tt
wider-key (Secret A d) h = tt
wider-key (Secret B d) h = never h

wider-turn : (l : Level) → LevelBy false l → LevelBy true l
wider-turn Low h = tt
wider-turn (High A) h = tt
wider-turn (High B) h = never h

-- a sound job is of one form or the other
two-forms : (a : Asked) (n : ℕ) → 1 ≤ n → n ≤ forms → (n ≡ number a → ⊥) → n ≡ number (other a)
two-forms One n l m h = go (eqb n 2) refl
  where
    go : (b : Bool) → eqb n 2 ≡ b → n ≡ 2
    go true e = eqb-true n 2 e
    go false e = absurd (h (omega (arith, eqb-false n 2 e)))
two-forms Two n l m h = go (eqb n 1) refl
  where
    go : (b : Bool) → eqb n 1 ≡ b → n ≡ 1
    go true e = eqb-true n 1 e
    go false e = absurd (h (omega (arith, eqb-false n 1 e)))

pub other-form : (a : Asked) (j : Job) → Sound j → (j.form ≡ number a → ⊥) → j.form ≡ number (other a)
other-form a j h = two-forms a j.form h.form.0 h.form.1

by_form : (j : Job) (n : ℕ) → j.form ≡ n → Sound j → SoundBy (form_of n) j
by_form j n e h = subst (λ (x : ℕ). SoundBy (form_of x) j) e h

-- the owners of a job's keys and turns are among those that a form has
pub record SaidBy (two : Bool) (j : Job) : Type 0 where
  pub owners : Every (KeyBy two) j.keys
  pub levels : Every (LevelBy two) j.turns

-- the job in another form, whose limits are the same
in-form : (f g : Form) (n : ℕ) (j : Job) → (1 ≤ n) × (n ≤ forms) → (f.keys ≤ g.keys) × (f.commands ≤ g.commands) × (f.messages ≤ g.messages) × (f.letters ≤ g.letters)
    → SoundBy f j → SaidBy g.owners j → SoundBy g (of_form n j)
in-form f g n j some l s o =
    record {
      form = some;
      some_keys = s.some_keys;
      most_keys = omega (arith, s.most_keys, l.0);
      keys = s.keys;
      owners = o.owners;
      some_commands = s.some_commands;
      most_commands = omega (arith, s.most_commands, l.1);
      commands = s.commands;
      bare = s.bare;
      most_messages = omega (arith, s.most_messages, l.2);
      messages = s.messages;
      some_turns = s.some_turns;
      most_turns = omega (arith, s.most_turns, l.3);
      levels = o.levels;
    }

-- the first form says what has nothing of B's
pub says-one : (j : Job) → says One j ≡ true → SaidBy false j
says-one j e =
    let b = and_both (all key_a j.keys) _ e in
    record {
      owners = every-imply (Pass key_a) (KeyBy false) a_key j.keys (all-every key_a j.keys b.0);
      levels = every-imply (Pass turn_a) (LevelBy false) a_turn j.turns (all-every turn_a j.turns b.1);
    }

one-says : (j : Job) → SaidBy false j → says One j ≡ true
one-says j s =
    and-made (every-all key_a j.keys (every-imply (KeyBy false) (Pass key_a) key-a j.keys s.owners))
    (every-all turn_a j.turns (every-imply (LevelBy false) (Pass turn_a) turn-a j.turns s.levels))

two-says : (j : Job) → SaidBy false j → SaidBy true j
two-says j s =
    record {
      owners = every-imply (KeyBy false) (KeyBy true) wider-key j.keys s.owners;
      levels = every-imply (LevelBy false) (LevelBy true) wider-turn j.turns s.levels;
    }

-- what is said in a form
said_in : (a : Asked) (j : Job) → Sound j → j.form ≡ number (other a) → says a j ≡ true → Sound (of_form (number a) j)
unfolding form_of
said_in One j h e q = in-form form_two form_one 1 j (omega arith, omega arith) (omega arith, omega arith, omega arith, omega arith) (by_form j 2 e h) (says-one j q)
said_in Two j h e q =
    let s : SoundBy form_one j = by_form j 1 e h in
    in-form form_one form_two 2 j (omega arith, omega arith) (omega arith, omega arith, omega arith, omega arith) s (two-says j (record { owners = s.owners; levels = s.levels }))

sound : (a : Asked) (j k : Job) → Sound j → turn a j ≡ gives k → Sound k
sound a j k h e = let w = went a j k e in subst Sound (sym w.is) (said_in a j h (other-form a j h w.other) w.said)

-- a job that has a form is said in it
says-own : (a : Asked) (j : Job) → Sound j → j.form ≡ number a → says a j ≡ true
unfolding form_of
says-own One j h e = let s : SoundBy form_one j = by_form j 1 e h in one-says j (record { owners = s.owners; levels = s.levels })
says-own Two j h e = refl

-- ---- Back

-- a job of a form is the job of that form
pub of-form : (j : Job) (n : ℕ) → j.form ≡ n → of_form n j ≡ j
of-form j n e = λ i. record { form = sym e i; keys = j.keys; commands = j.commands; messages = j.messages; turns = j.turns }

apart : (a : Asked) → number a ≡ number (other a) → ⊥
apart One e = omega arith
apart Two e = omega arith

says_of : (a : Asked) (n : ℕ) (j : Job) → says a j ≡ true → says a (of_form n j) ≡ true
says_of One n j e = e
says_of Two n j e = e

pub jobs-turn-back : JobsTurnBack
jobs-turn-back a j k h e =
    let w = went a j k e in
    let f = other-form a j h w.other in
    ap (turn (other a)) w.is
    ∙ turn-gives (other a) (of_form (number a) j) (apart a) (says_of (other a) (number a) j (says-own (other a) j h f))
    ∙ ap gives (of-form j (number (other a)) f)

-- ---- The refusals, by the job's own words

key-b : (k : Key) → key_a k ≡ false → (d : ℤ) × (k ≡ Secret B d)
key-b Open e = never (sym e)
key-b (Secret A d) e = never (sym e)
key-b (Secret B d) e = (d, refl)

turn-b : (l : Level) → turn_a l ≡ false → l ≡ High B
turn-b Low e = never (sym e)
turn-b (High A) e = never (sym e)
turn-b (High B) e = refl

-- the first form cannot say a job exactly if it has something of B's
cannot-b : (j : Job) → says One j ≡ false → NamesB j ⊎ TurnsB j
cannot-b j e = go (all key_a j.keys) refl
  where
    go : (b : Bool) → all key_a j.keys ≡ b → NamesB j ⊎ TurnsB j
    go false q = let r = fails-at key_a Open refl j.keys q in let k = key-b _ r.1 in inl (r.0, k.0, k.1)
    go true q =
        let r = fails-at turn_a Low refl j.turns (sym (ap (λ (b : Bool). b && all turn_a j.turns) q) ∙ e) in
        inr (r.0, turn-b _ r.1)

b-cannot : (j : Job) → NamesB j ⊎ TurnsB j → says One j ≡ false
b-cannot j (inl (k, d, e)) = rw (at-fails key_a Open refl j.keys k (ap key_a e))
b-cannot j (inr (p, e)) = rw (at-fails turn_a Low refl j.turns p (ap turn_a e)) (and-false (all key_a j.keys))

gets48 : (a : Asked) (j : Job) → turn a j ≡ denies 48 → j.form ≡ number a
gets48 a j e = go (way a j)
  where
    go : Way a j → j.form ≡ number a
    go (same p q) = p
    go (cannot p h q) = absurd (omega (arith, denied-same (sym q ∙ e)))
    go (goes p h q) = gives-not (sym e ∙ q)

only_one : (a : Asked) (j : Job) → says a j ≡ false → (a ≡ One) × (NamesB j ⊎ TurnsB j)
only_one One j e = (refl, cannot-b j e)
only_one Two j e = never (sym e)

gets47 : (a : Asked) (j : Job) → turn a j ≡ denies 47 → (j.form ≡ number a → ⊥) × (a ≡ One) × (NamesB j ⊎ TurnsB j)
gets47 a j e = go (way a j)
  where
    go : Way a j → (j.form ≡ number a → ⊥) × (a ≡ One) × (NamesB j ⊎ TurnsB j)
    go (same p q) = absurd (omega (arith, denied-same (sym q ∙ e)))
    go (cannot p h q) = let o = only_one a j h in (p, o.0, o.1)
    go (goes p h q) = gives-not (sym e ∙ q)

pub always-gets : AlwaysGets
always-gets a j =
    record {
      gets48 = (gets48 a j, turn-same a j);
      gets47 = (gets47 a j, λ h. turn-cannot a j h.0 (subst (λ (x : Asked). says x j ≡ false) (sym h.1) (b-cannot j h.2)));
      gets_other = λ n e. others n e (way a j);
      given = λ k e. (went a j k e).is;
    }
  where
    others : (n : ℕ) → turn a j ≡ denies n → Way a j → (n ≡ 48) ⊎ (n ≡ 47)
    others n e (same p q) = inl (denied-same (sym e ∙ q))
    others n e (cannot p h q) = inr (denied-same (sym e ∙ q))
    others n e (goes p h q) = gives-not (sym e ∙ q)

pub always-keeps : AlwaysKeeps
always-keeps a = record { sound = sound a; told = λ j n e z. told n z ((always-gets a j).gets_other n e) }
  where
    told : (n : ℕ) → n ≡ 0 → (n ≡ 48) ⊎ (n ≡ 47) → ⊥
    told n z (inl e) = omega arith
    told n z (inr e) = omega arith

pub always-turns : AlwaysTurns
always-turns j e = turn-gives Two j (λ q. omega (arith, e)) refl

-- 47, and what the first form says
pub unsayable : Unsayable
unfolding form_of
unsayable j h two = (
  ((λ e s. gives-not (sym e ∙ gave s)), λ d. go (says One j) refl d),
  ((λ e. sound One j (of_form 1 j) h e), gave),
)
  where
    second : j.form ≡ number One → ⊥
    second e = omega (arith, two)

    gave : Sound (of_form 1 j) → turn One j ≡ gives (of_form 1 j)
    gave s = turn-gives One j second (one-says j (record { owners = s.owners; levels = s.levels }))

    go : (b : Bool) → says One j ≡ b → ¬ Sound (of_form 1 j) → turn One j ≡ denies 47
    go true e d = absurd (d (said_in One j h two e))
    go false e d = turn-cannot One j second e
