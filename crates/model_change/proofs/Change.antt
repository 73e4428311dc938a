-- The law of every change of a sheet, from that of every text in lent memory and from reading and writing being
-- inverse.
use Prim.Native.Nat.{ℕ, ◌≤◌, ◌<◌}
use mathlib.Core.Path.{◌≡◌, refl, sym, ap, subst, ◌∙◌}
use mathlib.Core.Logic.{◌≢◌, inl, inr}
use mathlib.Core.List.{List}
use native.Mathlib.{Omega.arith, Decide.dec_le}
use lib.{ListN.length, Seq.take-append_seam}
use Rattle.model.specs.{Job.Job, Placed.front, Sheet.Reading, Sheet.accepted, Sheet.refused, Sheet.read_sheet, Accepted.Sound}
use Rattle.model_run.specs.{Whole.leave, Whole.left_by, Whole.run_sheet}
use Rattle.model.specs.Written.{Draft, Written, written, untouched, write}
use Rattle.model.specs.Written as Written
use Rattle.model.proofs.{Accepted.accepted-sound, Written.write-refused, Written.write-fits, Written.write-short, Written.always-writes}
use Rattle.model_sheet.specs.{Sheet.sheet_text, Claims.longest_sheet}
use Rattle.model_sheet.proofs.{Sheet.reads-back, Short.short}
use Rattle.model_change.specs.Change.{Change, gives, denies, drafted, change_sheet, text_in}
use Rattle.model_change.specs.Claims.{OfReading, Keeps, Made, Says, AlwaysChanges, AlwaysRunsSame}
use Rattle.model_change.proofs.Told.{refusals-told}

some-reading : (n : ℕ) → OfReading n → n ≢ 0
some-reading n (inl h) e = omega (arith, h.0)
some-reading n (inr h) e = omega arith

-- the sheet of a sound job says it
pub says-sound : (k : Job) → Sound k → Says (sheet_text k) k
unfolding run_sheet
says-sound k h = let e = reads-back k h in record { reads = e; runs = λ o. ap (leave o) e }

module _ (little : ℕ) (some : little ≢ 0) (f : Job → Change) (keeps : Keeps f) (s m : List ℕ) where
  abbrev result : Written
  result = change_sheet little f s m

  abbrev Zero : Written → Type 0
  Zero w = w.answer.number ≡ 0

  reads : (n l : ℕ) → read_sheet s ≡ refused n l → result ≡ untouched n l m
  unfolding change_sheet
  reads n l e = ap (λ (x : Reading). write little m (drafted f x)) e ∙ write-refused little m n l

  denied : (j : Job) (n : ℕ) → read_sheet s ≡ accepted j → f j ≡ denies n → result ≡ untouched n 0 m
  unfolding change_sheet
  denied j n e q = rw (e, q) (write-refused little m n 0)

  made-sound : (k : Job) → Made f s k → Sound k
  made-sound k h = keeps.sound h.job k (accepted-sound s h.job h.reads) h.makes

  module _ (k : Job) (h : Made f s k) where
    drafts : drafted f (read_sheet s) ≡ Written.text (sheet_text k)
    drafts = rw (h.reads, h.makes)

    lacks : length m < length (sheet_text k) → result ≡ untouched little 0 m
    unfolding change_sheet
    lacks b = ap (write little m) drafts ∙ write-short little m (sheet_text k) b

    writes : length (sheet_text k) ≤ length m → result ≡ written (record { number = 0; line = 0; bytes = length (sheet_text k) }) (front m (sheet_text k))
    unfolding change_sheet
    writes b = ap (write little m) drafts ∙ write-fits little m (sheet_text k) b

    enough : longest_sheet k.form ≤ length m → Zero result
    enough b = let q = short k (made-sound k h) in ap (λ (w : Written). w.answer.number) (writes (omega arith))

    says : Zero result → Says (text_in result) k
    unfolding front
    says z = go (dec_le (length (sheet_text k)) (length m))
      where
        go : Dec (length (sheet_text k) ≤ length m) → Says (text_in result) k
        go (yes b) =
            subst (λ (t : List ℕ). Says t k)
            (sym (ap text_in (writes b) ∙ take-append_seam (sheet_text k) _))
            (says-sound k (made-sound k h))
        go (no b) = absurd (some (sym (ap (λ (w : Written). w.answer.number) (lacks (omega arith))) ∙ z))

  succeeds : Zero result → (k : Job) × Made f s k
  succeeds z = go (read_sheet s) refl
    where
      made : (j : Job) → read_sheet s ≡ accepted j → (c : Change) → f j ≡ c → (k : Job) × Made f s k
      made j e (gives k) q = (k, record { job = j; reads = e; makes = q })
      made j e (denies n) q = absurd (keeps.told j n q (sym (ap (λ (w : Written). w.answer.number) (denied j n e q)) ∙ z))

      go : (x : Reading) → read_sheet s ≡ x → (k : Job) × Made f s k
      go (refused n l) e = absurd (some-reading n (refusals-told s n l e) (sym (ap (λ (w : Written). w.answer.number) (reads n l e)) ∙ z))
      go (accepted j) e = made j e (f j) refl

-- but for too little memory, a refusal is the sheet's alone
module _ (little : ℕ) (f : Job → Change) (s m m' : List ℕ) where
  abbrev number_on : List ℕ → ℕ
  number_on o = (change_sheet little f s o).answer.number

  alone : number_on m ≢ 0 → number_on m ≢ little → (change_sheet little f s m').answer ≡ (change_sheet little f s m).answer
  unfolding change_sheet
  alone a b = go (drafted f (read_sheet s)) refl
    where
      number : {d : Draft} → drafted f (read_sheet s) ≡ d → (write little m d).answer.number ≡ number_on m
      number e = ap (λ (x : Draft). (write little m x).answer.number) (sym e)

      go : (d : Draft) → drafted f (read_sheet s) ≡ d → (write little m' (drafted f (read_sheet s))).answer ≡ (write little m (drafted f (read_sheet s))).answer
      go (Written.refused n l) e =
          ap (λ (x : Draft). (write little m' x).answer) e
          ∙ ap (λ (w : Written). w.answer) (write-refused little m' n l ∙ refl)
          ∙ sym (ap (λ (x : Draft). (write little m x).answer) e ∙ ap (λ (w : Written). w.answer) (write-refused little m n l))
      go (Written.text t) e = absurd (room (dec_le (length t) (length m)))
        where
          room : Dec (length t ≤ length m) → ⊥
          room (yes q) = a (sym (number e) ∙ ap (λ (w : Written). w.answer.number) (write-fits little m t q))
          room (no q) = b (sym (number e) ∙ ap (λ (w : Written). w.answer.number) (write-short little m t (omega arith)))

pub always-changes : AlwaysChanges
unfolding change_sheet
always-changes little some f keeps s m =
    let w = always-writes little m (drafted f (read_sheet s)) in
    record {
      reads = reads little some f keeps s m;
      denied = denied little some f keeps s m;
      lacks = lacks little some f keeps s m;
      writes = writes little some f keeps s m;
      enough = enough little some f keeps s m;
      refuses = w.refuses;
      alone = alone little f s m;
      says = says little some f keeps s m;
      succeeds = succeeds little some f keeps s m;
      size = w.size;
    }

pub always-runs-same : AlwaysRunsSame
unfolding run_sheet
always-runs-same little some f keeps runs s m z o =
    let q = (always-changes little some f keeps s m).succeeds z in
    let k = q.0 in
    let h = q.1 in
    ((always-changes little some f keeps s m).says k h z).runs o ∙ ap (left_by o) (runs h.job k (length o) h.makes) ∙ sym (ap (leave o) h.reads)
