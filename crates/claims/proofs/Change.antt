-- The claims of every change of a sheet, from the entry's contract and the law of changes.
use Prim.Native.Nat.{ℕ, ◌≤◌}
use mathlib.Core.Path.{◌≡◌, refl, sym, ap, subst, ◌∙◌}
use mathlib.Core.Logic.{◌≢◌}
use mathlib.Core.List.{List, ◌++◌}
use native.Mathlib.{Omega.arith, Decide.dec_le}
use lib.ListN.{length, get_or, take, drop}
use Rattle.model.specs.{Job.Job, Answer.numbers_of, Placed.front, Answer.all_le32, Written.Written, Written.text_numbers}
use Rattle.model.specs.declared.TextAnswer.{TextAnswer}
use Rattle.model_run.specs.Whole.{Left, run_sheet}
use Rattle.model_sheet.specs.Sheet.{sheet_text}
use Rattle.model_change.specs.Change.{Change, change_sheet, text_in}
use Rattle.model_change.specs.Claims.{Keeps, Made, Says, Changes}
use Rattle.model_change.proofs.Change.{always-changes, always-runs-same}
use Rattle.model_entry.specs.{Texts.ThreeNumbers}
use Rattle.model_entry.proofs.Texts.{text-answers, text-memory}
use Rattle.claims.specs.Change.{ChangeCalled, SheetChangedHolds, RefusedAlone, RunAlike, ChangedRuns}
use Rattle.claims.proofs.{Demands.demand-2}

module _ (little : ℕ) (some : little ≢ 0) (f : Job → Change) (keeps : Keeps f) {s o a : List ℕ} {r : ℕ} {o' a' : List ℕ} (c : ChangeCalled little f s o a r o' a') where
  pub law : Changes little f s o
  law = always-changes little some f keeps s o

  pub answers : {w : Written} → change_sheet little f s o ≡ w → ThreeNumbers w.answer.number w.answer.line w.answer.bytes r a'
  answers e = text-answers o a (change_sheet little f s o) c.sized c.met e

  pub memory : {w : Written} → change_sheet little f s o ≡ w → o' ≡ w.memory
  memory e = text-memory o a (change_sheet little f s o) c.sized c.met e

  writes : (k : Job) → Made f s k → length (sheet_text k) ≤ length o → ThreeNumbers 0 0 (length (sheet_text k)) r a' × (o' ≡ sheet_text k ++ drop (length (sheet_text k)) o)
  unfolding front
  writes k h b = let w = law.writes k h b in (answers w, memory w)

  -- what is returned is the number
  pub returns : r ≡ (change_sheet little f s o).answer.number
  returns = (answers refl).0

  -- 0 is returned: there was room, and this was written
  module _ (z : r ≡ 0) (k : Job) (h : Made f s k) where
    pub room : length (sheet_text k) ≤ length o
    room = go (dec_le (length (sheet_text k)) (length o))
      where
        go : Dec (length (sheet_text k) ≤ length o) → length (sheet_text k) ≤ length o
        go (yes b) = b
        go (no b) = absurd (some (sym (ap (λ (w : Written). w.answer.number) (law.lacks k h (omega arith))) ∙ sym returns ∙ z))

    pub text : take (length (sheet_text k)) o' ≡ text_in (change_sheet little f s o)
    text = let w = law.writes k h room in ap (take (length (sheet_text k))) (memory w) ∙ sym (ap text_in w)

  says : r ≡ 0 → (k : Job) × Made f s k × Says (take (length (sheet_text k)) o') k
  says z =
      let q = law.succeeds (sym returns ∙ z) in
      let k = q.0 in
      let h = q.1 in
      (k, h, subst (λ (t : List ℕ). Says t k) (sym (text z k h)) (law.says k h (sym returns ∙ z)))

pub sheet-changed : SheetChangedHolds
sheet-changed little some f keeps s o a r o' a' c =
    let l = law little some f keeps c in
    record {
      refuses = λ n l' e. let w = l.reads n l' e in (answers little some f keeps c w, memory little some f keeps c w);
      denied = λ j n e q. let w = l.denied j n e q in (answers little some f keeps c w, memory little some f keeps c w);
      lacks = λ k h b. let w = l.lacks k h b in (answers little some f keeps c w, memory little some f keeps c w);
      writes = writes little some f keeps c;
      enough = λ k h b. returns little some f keeps c ∙ l.enough k h b;
      says = says little some f keeps c;
      size = ap length (memory little some f keeps c refl) ∙ l.size;
    }

pub refused-alone : RefusedAlone
refused-alone little some f keeps s o a r o' a' c nonzero other p b q p' b' d =
    let e : (change_sheet little f s p).answer ≡ (change_sheet little f s o).answer =
    (law little some f keeps c).alone p (λ z. nonzero (returns little some f keeps c ∙ z)) (λ z. other (returns little some f keeps c ∙ z)) in (
      returns little some f keeps d ∙ ap (λ (x : TextAnswer). x.number) e ∙ sym (returns little some f keeps c),
      (answers little some f keeps d refl).1 ∙ ap (λ (x : TextAnswer). all_le32 (text_numbers x)) e ∙ sym (answers little some f keeps c refl).1,
    )

-- sheets that come to the same run alike
pub run-alike : (s t : List ℕ) → ((o : List ℕ) → run_sheet t o ≡ run_sheet s o) → RunAlike s t
run-alike s t e o a b r q o' p' a' b' c d =
    let x = demand-2 s o a r o' a' c in
    let y = demand-2 t o b q p' b' d in (
      y.first ∙ ap (λ (w : Left). get_or (numbers_of w.answer) 0 0) (e o) ∙ sym x.first,
      y.memory ∙ ap (λ (w : Left). w.memory) (e o) ∙ sym x.memory,
      y.numbers ∙ ap (λ (w : Left). all_le32 (numbers_of w.answer)) (e o) ∙ sym x.numbers,
    )

pub changed-runs : ChangedRuns
changed-runs little some f keeps runs s o a r o' a' c z k h =
    run-alike s (take (length (sheet_text k)) o') (λ m.
    ap (λ (t : List ℕ). run_sheet t m) (text little some f keeps c z k h)
    ∙ always-runs-same little some f keeps runs s o (sym (returns little some f keeps c) ∙ z) m)
