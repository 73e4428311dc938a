-- The claims of Note 9, over sheets as texts, from the law of every change and the theorems about jobs.
use Prim.Native.Nat.{ℕ, suc, ◌+◌, ◌-◌, ◌*◌, ◌<◌, ◌≤◌}
use mathlib.Core.Path.{◌≡◌, refl, sym, ap, subst, ◌∙◌}
use mathlib.Core.Logic.{◌≢◌, ◌⊎◌, inl, inr}
use mathlib.Core.Bool.{true, false}
use mathlib.Core.List.{List, [], ◌∷◌, ◌++◌, map}
use native.Mathlib.{Omega.arith, Decide.dec_le}
use lib.{IntN.ℤ, ListN.length, ListN.length-append, ListN.length-map, Seq.take-append_seam}
use Rattle.model.specs.{Job.Job, Form.form_of, Form.form_one, Form.form_two, Accepted.SoundBy, Accepted.Every, Accepted.KeyBy, Placed.front, Text.bytes, Text.line_feed, Text.equals_sign}
use Rattle.model.specs.{Decimal.natural, Decimal.width, Decimal.width_to, Decimal.digits, Sheet.Reading, Sheet.accepted, Sheet.refused, Sheet.read_sheet}
use Rattle.model.specs.Written.{Written, written}
use Rattle.model.specs.declared.{Form.Form, Key.Key, Level.Level, Owner.Owner}
use Rattle.model.specs.declared.Key.TheVariants.{Open, Secret}
use Rattle.model.proofs.Accepted.{accepted-sound}
use Rattle.model_run.specs.{Owners.of_form}
use Rattle.model_text.specs.Text.{unlines, named, pair_text, command_lines, message_lines}
use Rattle.model_sheet.specs.Sheet.{owner_text, secret_text, secrets_from, secret_line, letter_of, head_lines, secret_lines, turns_lines, sheet_text}
use Rattle.model_sheet.proofs.Sheet.{writes-back}
use Rattle.model_change.specs.Change.{Change, gives, denies, change_sheet, text_in}
use Rattle.model_change.specs.Claims.{Made, Changes, OfReading}
use Rattle.model_change.proofs.{Change.always-changes, Change.always-runs-same, Told.refusals-told}
use Rattle.model_forms.specs.Forms.{number, says, turn, turn_sheet}
use Rattle.model_forms.specs.Claims.{other, NamesB, TurnsB, RunsSame, TurnsBack, secrets, bytes_in, AlwaysSized, AlwaysConverts, AlwaysAnswers, LineByLine}
use Rattle.model_forms.specs.declared.Asked.{Asked}
use Rattle.model_forms.specs.declared.Asked.TheVariants.{One, Two}
use Rattle.model_forms.proofs.Forms.{Way, same, cannot, goes, way, went, other-form, of-form, turn-same, always-keeps, jobs-run-same, jobs-turn-back, always-gets, always-turns, says-one}
use Rattle.model_forms.proofs.Lines.{line-by-line}

pub some : (n : ℕ) → n ≡ 49 → n ≢ 0
some n e z = omega arith

abbrev number_of : Written → ℕ
number_of w = w.answer.number

-- ---- The bytes

line-length : (v : List ℕ) (ls : List (List ℕ)) → length (unlines (secret_line v ∷ ls)) ≡ length v + 8 + length (unlines ls)
unfolding unlines named bytes
line-length v ls = omega (arith, length-append (bytes "secret" ++ (equals_sign ∷ v)) (line_feed ∷ unlines ls), length-append (bytes "secret") (equals_sign ∷ v))

-- an owner takes two bytes
secret-longer : (k : ℕ) (o : Owner) (d : ℤ) → length (secret_text true k o d) ≡ length (secret_text false k o d) + 2
unfolding secret_text
secret-longer k o d = omega (arith, length-append (pair_text (k, d)) (owner_text true o), length-append (pair_text (k, d)) (owner_text false o))

secrets-longer : (k : ℕ) (ks : List Key) → length (unlines (map secret_line (secrets_from true k ks))) ≡ length (unlines (map secret_line (secrets_from false k ks))) + 2 * secrets ks
unfolding secrets_from
secrets-longer k [] = omega arith
secrets-longer k (Open ∷ ks) = secrets-longer (suc k) ks
secrets-longer k (Secret o d ∷ ks) =
    omega (
      arith,
      line-length (secret_text true k o d) (map secret_line (secrets_from true (suc k) ks)),
      line-length (secret_text false k o d) (map secret_line (secrets_from false (suc k) ks)),
      secret-longer k o d,
      secrets-longer (suc k) ks,
    )

secret-lines-longer : (ks : List Key) → length (secret_lines true ks) ≡ length (secret_lines false ks) + 2 * secrets ks
unfolding secret_lines
secret-lines-longer ks = secrets-longer 0 ks

turns-length : (f g : Form) (ts : List Level) → length (turns_lines f ts) ≡ length (turns_lines g ts)
unfolding turns_lines unlines named
turns-length f g ts =
    omega (
      arith,
      length-append (bytes "turns" ++ (equals_sign ∷ map (letter_of f) ts)) (line_feed ∷ []),
      length-append (bytes "turns") (equals_sign ∷ map (letter_of f) ts),
      length-append (bytes "turns" ++ (equals_sign ∷ map (letter_of g) ts)) (line_feed ∷ []),
      length-append (bytes "turns") (equals_sign ∷ map (letter_of g) ts),
      length-map ts (letter_of f),
      length-map ts (letter_of g),
    )

head-length : (K : ℕ) → length (head_lines 2 K) ≡ length (head_lines 1 K)
unfolding head_lines unlines named bytes natural width width_to digits
head-length K = refl

text-longer : (j : Job) → length (sheet_text (of_form 2 j)) ≡ length (sheet_text (of_form 1 j)) + 2 * secrets j.keys
unfolding sheet_text form_of
text-longer j =
    let K = length j.keys in
    let c = command_lines j.commands in
    let d = message_lines j.messages in
    let a = head_lines 1 K in
    let b = secret_lines false j.keys in
    let t = turns_lines form_one j.turns in
    let a' = head_lines 2 K in
    let b' = secret_lines true j.keys in
    let t' = turns_lines form_two j.turns in
    omega (
      arith,
      length-append a (b ++ (c ++ (d ++ t))),
      length-append b (c ++ (d ++ t)),
      length-append c (d ++ t),
      length-append d t,
      length-append a' (b' ++ (c ++ (d ++ t'))),
      length-append b' (c ++ (d ++ t')),
      length-append c (d ++ t'),
      length-append d t',
      head-length K,
      secret-lines-longer j.keys,
      turns-length form_two form_one j.turns,
    )

-- ---- What a call for a form comes to

module _ (a : Asked) (s m : List ℕ) where
  law : Changes 49 (turn a) s m
  law = always-changes 49 (some 49 refl) (turn a) (always-keeps a) s m

  abbrev result : Written
  result = change_sheet 49 (turn a) s m

  data Came : Type 0 where
    faulty : (n : ℕ) → OfReading n → number_of result ≡ n → Came
    has : (j : Job) → read_sheet s ≡ accepted j → j.form ≡ number a → number_of result ≡ 48 → Came
    unsaid : (j : Job) → read_sheet s ≡ accepted j → (j.form ≡ number a → ⊥) → turn a j ≡ denies 47 → number_of result ≡ 47 → Came
    fits : (k : Job) → Made (turn a) s k → length (sheet_text k) ≤ length m → number_of result ≡ 0 → Came
    lacks : (k : Job) → Made (turn a) s k → length m < length (sheet_text k) → number_of result ≡ 49 → Came

  made : (k : Job) → Made (turn a) s k → Came
  made k h = go (dec_le (length (sheet_text k)) (length m))
    where
      go : Dec (length (sheet_text k) ≤ length m) → Came
      go (yes b) = fits k h b (ap number_of (law.writes k h b))
      go (no b) = lacks k h (omega arith) (ap number_of (law.lacks k h (omega arith)))

  came : Came
  came = go (read_sheet s) refl
    where
      by_way : (j : Job) → read_sheet s ≡ accepted j → Way a j → Came
      by_way j e (same p q) = has j e p (ap number_of (law.denied j 48 e q))
      by_way j e (cannot p h q) = unsaid j e p q (ap number_of (law.denied j 47 e q))
      by_way j e (goes p h q) = made (of_form (number a) j) (record { job = j; reads = e; makes = q })

      go : (x : Reading) → read_sheet s ≡ x → Came
      go (refused n l) e = faulty n (refusals-told s n l e) (ap number_of (law.reads n l e))
      go (accepted j) e = by_way j e (way a j)

  -- none of the request's own numbers is one of reading
  own : (n : ℕ) → 47 ≤ n → OfReading n → ⊥
  own n b (inl h) = omega (arith, h.1)
  own n b (inr h) = omega arith

  -- an answer of 0 says that there was room, and the text is what was written
  text : (k : Job) → Made (turn a) s k → number_of result ≡ 0 → text_in result ≡ sheet_text k
  unfolding front
  text k h z = go (dec_le (length (sheet_text k)) (length m))
    where
      go : Dec (length (sheet_text k) ≤ length m) → text_in result ≡ sheet_text k
      go (yes b) = ap text_in (law.writes k h b) ∙ take-append_seam (sheet_text k) _
      go (no b) = absurd (some 49 refl (sym (ap number_of (law.lacks k h (omega arith))) ∙ z))

pub runs_same : RunsSame
unfolding turn_sheet
runs_same a = always-runs-same 49 (some 49 refl) (turn a) (always-keeps a) (jobs-run-same a)

pub turns-back : TurnsBack
unfolding turn_sheet
turns-back a s m z o b =
    let q = (law a s m).succeeds z in
    let k = q.0 in
    let h = q.1 in
    let t = text_in (change_sheet 49 (turn a) s m) in
    let e : sheet_text h.job ≡ s = writes-back s h.job h.reads in
    let r : Made (turn (other a)) t h.job =
    record { job = k; reads = ((law a s m).says k h z).reads; makes = jobs-turn-back a h.job k (accepted-sound s h.job h.reads) h.makes } in
    (law (other a) t o).writes h.job r (omega (arith, ap length e))
    ∙ ap (λ (t : List ℕ). written (record { number = 0; line = 0; bytes = length t }) (front o t)) e

-- an accepted sheet that is turned has the other form
from-other : (a : Asked) (s : List ℕ) (j k : Job) → read_sheet s ≡ accepted j → turn a j ≡ gives k → of_form (number (other a)) j ≡ j
from-other a s j k e q = of-form j (number (other a)) (other-form a j (accepted-sound s j e) (went a j k q).other)

bytes-in : (a : Asked) (s : List ℕ) (j k : Job) → read_sheet s ≡ accepted j → turn a j ≡ gives k → length (sheet_text k) ≡ bytes_in a s j
bytes-in One s j k e q =
    let l : length (sheet_text (of_form 2 j)) ≡ length s = ap length (ap sheet_text (from-other One s j k e q) ∙ writes-back s j e) in
    let n : length (sheet_text k) ≡ length (sheet_text (of_form 1 j)) = ap (λ (x : Job). length (sheet_text x)) (went One j k q).is in
    omega (arith, n, l, text-longer j)
bytes-in Two s j k e q =
    let l : length (sheet_text (of_form 1 j)) ≡ length s = ap length (ap sheet_text (from-other Two s j k e q) ∙ writes-back s j e) in
    let n : length (sheet_text k) ≡ length (sheet_text (of_form 2 j)) = ap (λ (x : Job). length (sheet_text x)) (went Two j k q).is in
    omega (arith, n, l, text-longer j)

pub always-sized : AlwaysSized
unfolding turn_sheet
always-sized a s m j k e q =
    let h : Made (turn a) s k = record { job = j; reads = e; makes = q } in
    let n = bytes-in a s j k e q in
    record {
      fits = λ b.
          (law a s m).writes k h (subst (λ (x : ℕ). x ≤ length m) (sym n) b)
          ∙ ap (λ (x : ℕ). written (record { number = 0; line = 0; bytes = x }) (front m (sheet_text k))) n;
      lacks = λ b. (law a s m).lacks k h (subst (λ (x : ℕ). length m < x) (sym n) b);
    }

pub always-converts : AlwaysConverts
always-converts s m j e one b = (always-sized Two s m j (of_form 2 j) e (always-turns j one)).fits b

-- ---- Which sheets get which number

accepted-same : {j k : Job} → accepted j ≡ accepted k → j ≡ k
accepted-same e = cc

module _ (a : Asked) (s m : List ℕ) where
  abbrev told : ℕ
  told = number_of (change_sheet 49 (turn a) s m)

  abbrev Has : Type 0
  Has = (j : Job) × (read_sheet s ≡ accepted j) × (j.form ≡ number a)

  abbrev Unsaid : Type 0
  Unsaid = (j : Job) × (read_sheet s ≡ accepted j) × (j.form ≡ 2) × (a ≡ One) × (NamesB j ⊎ TurnsB j)

  abbrev Lacks : Type 0
  Lacks = (k : Job) × Made (turn a) s k × (length m < length (sheet_text k))

  gets48 : told ≡ 48 → Came a s m → Has
  gets48 z (faulty n o e) = absurd (own a s m n (omega (arith, z, e)) o)
  gets48 z (has j r f e) = (j, r, f)
  gets48 z (unsaid j r f q e) = absurd (omega (arith, z, e))
  gets48 z (fits k h b e) = absurd (omega (arith, z, e))
  gets48 z (lacks k h b e) = absurd (omega (arith, z, e))

  gets47 : told ≡ 47 → Came a s m → Unsaid
  gets47 z (faulty n o e) = absurd (own a s m n (omega (arith, z, e)) o)
  gets47 z (has j r f e) = absurd (omega (arith, z, e))
  gets47 z (unsaid j r f q e) =
      let g = (always-gets a j).gets47.0 q in
      let one : j.form ≡ number (other One) = other-form One j (accepted-sound s j r) (λ x. f (subst (λ (y : Asked). j.form ≡ number y) (sym g.1) x)) in
      (j, r, one, g.1, g.2)
  gets47 z (fits k h b e) = absurd (omega (arith, z, e))
  gets47 z (lacks k h b e) = absurd (omega (arith, z, e))

  gets49 : told ≡ 49 → Came a s m → Lacks
  gets49 z (faulty n o e) = absurd (own a s m n (omega (arith, z, e)) o)
  gets49 z (has j r f e) = absurd (omega (arith, z, e))
  gets49 z (unsaid j r f q e) = absurd (omega (arith, z, e))
  gets49 z (fits k h b e) = absurd (omega (arith, z, e))
  gets49 z (lacks k h b e) = (k, h, b)

  is47 : Unsaid → told ≡ 47
  is47 u =
      let j = u.0 in
      let other : j.form ≡ number a → ⊥ = λ e. let f : j.form ≡ 1 = subst (λ (x : Asked). j.form ≡ number x) u.3 e in omega (arith, f, u.2) in
      ap number_of ((law a s m).denied j 47 u.1 ((always-gets a j).gets47.1 (other, u.3, u.4)))

pub always-answers : AlwaysAnswers
unfolding turn_sheet
always-answers a s m =
    record {
      gets48 = ((λ z. gets48 a s m z (came a s m)), λ h. ap number_of ((law a s m).denied h.0 48 h.1 (turn-same a h.0 h.2)));
      gets47 = ((λ z. gets47 a s m z (came a s m)), is47 a s m);
      gets49 = ((λ z. gets49 a s m z (came a s m)), λ h. ap number_of ((law a s m).lacks h.0 h.1 h.2));
    }

-- ---- Line by line

-- where a sheet is turned, its secrets are all A's
all-a : (a : Asked) (s : List ℕ) (j k : Job) → read_sheet s ≡ accepted j → turn a j ≡ gives k → Every (KeyBy false) j.keys
unfolding form_of
all-a One s j k e q = (says-one j (went One j k q).said).owners
all-a Two s j k e q =
    let h = accepted-sound s j e in
    let one : j.form ≡ 1 = other-form Two j h (went Two j k q).other in
    let b : SoundBy form_one j = subst (λ (n : ℕ). SoundBy (form_of n) j) one h in
    b.owners

pub by_lines : LineByLine
unfolding turn_sheet
by_lines a s m z =
    let q = (law a s m).succeeds z in
    let k = q.0 in
    let h = q.1 in
    let j = h.job in
    text a s m k h z
    ∙ ap sheet_text (went a j k h.makes).is
    ∙ line-by-line a s j h.reads (from-other a s j k h.reads h.makes) (all-a a s j k h.reads h.makes)
