-- The claims of Note 9, from those of every change and the theorems about its definitions.
use Prim.Native.Nat.{ℕ, ◌+◌, ◌*◌, ◌≤◌}
use mathlib.Core.Path.{◌≡◌, refl, sym, ap, ◌∙◌}
use mathlib.Core.List.{List, ◌++◌, map}
use lib.{ListN.length, ListN.take, ListN.drop, Seq.take-append_seam}
use Rattle.model.specs.{Job.Job, Placed.front, Sheet.accepted, Sheet.read_sheet, Text.lines, Written.Written}
use Rattle.model_text.specs.Text.{unlines}
use Rattle.model_sheet.specs.Sheet.{sheet_text}
use Rattle.model_change.specs.{Change.text_in, Claims.Made}
use Rattle.model_forms.specs.Forms.{turn, turn_sheet, turn_entry}
use Rattle.model_forms.specs.Claims.{other, secrets, line_in}
use Rattle.model_forms.specs.Examples.{Came, to, old, new, new_a}
use Rattle.model_forms.specs.declared.Asked.{Asked}
use Rattle.model_forms.specs.declared.Asked.TheVariants.{One, Two}
use Rattle.model_forms.proofs.{Forms.always-keeps, Forms.jobs-run-same, Sheets.turns-back, Sheets.always-sized, Sheets.always-converts, Sheets.always-answers, Sheets.by_lines, Sheets.some, Examples.examples}
use Rattle.model_entry.specs.{Texts.ThreeNumbers}
use Rattle.claims.specs.{Change.ChangeCalled, Change.RunAlike, Forms.FormCalled, Forms.Turned, Forms.FormTurnedHolds, Forms.FormRefusedAlone, Forms.CalledOn, Forms.returned_on, Forms.FormsTelling}
use Rattle.claims.proofs.Change.{answers, memory, returns, room, text, sheet-changed, refused-alone, changed-runs}

-- a call for a form is one for its change
called : {x : Asked} {s o a : List ℕ} {r : ℕ} {o' a' : List ℕ} → FormCalled x s o a r o' a' → ChangeCalled 49 (turn x) s o a r o' a'
unfolding turn_entry turn_sheet
called c = record { sized = c.sized; met = c.met }

module _ (x : Asked) {s o a : List ℕ} {r : ℕ} {o' a' : List ℕ} (c : FormCalled x s o a r o' a') where
  number_is : r ≡ (turn_sheet x s o).answer.number
  unfolding turn_sheet
  number_is = returns 49 (some 49 refl) (turn x) (always-keeps x) (called c)

  numbers : {w : Written} → turn_sheet x s o ≡ w → ThreeNumbers w.answer.number w.answer.line w.answer.bytes r a'
  unfolding turn_sheet
  numbers e = answers 49 (some 49 refl) (turn x) (always-keeps x) (called c) e

  left : {w : Written} → turn_sheet x s o ≡ w → o' ≡ w.memory
  unfolding turn_sheet
  left e = memory 49 (some 49 refl) (turn x) (always-keeps x) (called c) e

  module _ (z : r ≡ 0) (k : Job) (h : Made (turn x) s k) where
    abbrev size : ℕ
    size = length (sheet_text k)

    written-text : take size o' ≡ text_in (turn_sheet x s o)
    unfolding turn_sheet
    written-text = text 49 (some 49 refl) (turn x) (always-keeps x) (called c) z k h

    wrote : ThreeNumbers 0 0 size r a' × (o' ≡ sheet_text k ++ drop size o)
    wrote = (sheet-changed 49 (some 49 refl) (turn x) (always-keeps x) s o a r o' a' (called c)).writes k h (room 49 (some 49 refl) (turn x) (always-keeps x) (called c) z k h)

    taken : take size o' ≡ sheet_text k
    taken = ap (take size) wrote.1 ∙ take-append_seam (sheet_text k) _

    zero : (turn_sheet x s o).answer.number ≡ 0
    zero = sym number_is ∙ z

    lines-of : sheet_text k ≡ unlines (map (line_in x) (lines s))
    lines-of = sym taken ∙ written-text ∙ by_lines x s o zero

    runs : RunAlike s (take size o')
    runs = changed-runs 49 (some 49 refl) (turn x) (always-keeps x) (jobs-run-same x) s o a r o' a' (called c) z k h

pub turned-back : (x : Asked) {s o a : List ℕ} {r : ℕ} {o' a' : List ℕ} (c : FormCalled x s o a r o' a') (z : r ≡ 0) (k : Job) (h : Made (turn x) s k)
    → (p b : List ℕ) (q : ℕ) (p' b' : List ℕ) → FormCalled (other x) (take (length (sheet_text k)) o') p b q p' b' → length s ≤ length p
    → ThreeNumbers 0 0 (length s) q b' × (p' ≡ s ++ drop (length s) p)
unfolding front
turned-back x {s} {o} c z k h p b q p' b' d l =
    let e = ap (λ (t : List ℕ). turn_sheet (other x) t p) (written-text x c z k h) ∙ turns-back x s o (zero x c z k h) p l in
    (numbers (other x) d e, left (other x) d e)

turned : (x : Asked) {s o a : List ℕ} {r : ℕ} {o' a' : List ℕ} (c : FormCalled x s o a r o' a') → r ≡ 0 → (n : ℕ) × Turned x s o r o' a' n
turned x {s} {o} {a} {r} {o'} {a'} c z =
    let q = (sheet-changed 49 (some 49 refl) (turn x) (always-keeps x) s o a r o' a' (called c)).says z in
    let k = q.0 in
    let h = q.1 in (
      length (sheet_text k),
      record {
        numbers = (wrote x c z k h).0;
        lines = (wrote x c z k h).1 ∙ ap (λ (t : List ℕ). t ++ drop (length (sheet_text k)) o) (lines-of x c z k h);
        counts = ap length (taken x c z k h);
        runs = runs x c z k h;
        back = turned-back x c z k h;
      },
    )

converts : (x : Asked) {s o a : List ℕ} {r : ℕ} {o' a' : List ℕ} → FormCalled x s o a r o' a'
    → (j : Job) → x ≡ Two → read_sheet s ≡ accepted j → j.form ≡ 1 → length s + 2 * secrets j.keys ≤ length o
    → ThreeNumbers 0 0 (length s + 2 * secrets j.keys) r a'
converts x {s} {o} c j two e one b = numbers x c (ap (λ (y : Asked). turn_sheet y s o) two ∙ always-converts s o j e one b)

pub form-turned : FormTurnedHolds
form-turned x s o a r o' a' c =
    let g = always-answers x s o in
    let e = number_is x c in
    record {
      changed = sheet-changed 49 (some 49 refl) (turn x) (always-keeps x) s o a r o' a' (called c);
      gets48 = ((λ z. g.gets48.0 (sym e ∙ z)), λ h. e ∙ g.gets48.1 h);
      gets47 = ((λ z. g.gets47.0 (sym e ∙ z)), λ h. e ∙ g.gets47.1 h);
      gets49 = ((λ z. g.gets49.0 (sym e ∙ z)), λ h. e ∙ g.gets49.1 h);
      fits = λ j k p q b. numbers x c ((always-sized x s o j k p q).fits b);
      lacks = λ j k p q b. (numbers x c ((always-sized x s o j k p q).lacks b)).0;
      converts = converts x c;
      turned = turned x c;
    }

pub form-refused-alone : FormRefusedAlone
form-refused-alone x s o a r o' a' c nonzero other p b q p' b' d =
    refused-alone 49 (some 49 refl) (turn x) (always-keeps x) s o a r o' a' (called c) nonzero other p b q p' b' (called d)

-- ---- Calls of which it speaks

called_on : (x : Asked) (s : List ℕ) (lent : ℕ) → CalledOn x s lent
called_on x s lent = record { sized = refl; met = record { returns = refl; outputs = refl; answers = refl } }

-- what is returned is the example's number
on : (x : Asked) (s : List ℕ) (lent : ℕ) {y : Came} → to x s lent ≡ y → returned_on x s lent ≡ y.number
on x s lent e = number_is x (called_on x s lent) ∙ ap (λ (y : Came). y.number) e

pub forms-telling : FormsTelling
forms-telling =
    record {
      called = called_on;
      writes = on Two old 115 examples.there;
      goes_back = on One new_a 113 examples.back;
      lacks = on Two old 114 examples.less;
      has = on Two new_a 0 examples.has2;
      cannot = on One (new "B" "LALALALALA") 0 examples.owned_b;
    }
