-- The claims of Note 7, from the entries' contracts and the theorems about records.
use Prim.Native.Nat.{ℕ, ◌≤◌, ◌<◌}
use mathlib.Core.Path.{◌≡◌, refl, sym, ap, subst, ◌∙◌}
use mathlib.Core.Logic.{◌≢◌, ◌↔◌}
use mathlib.Core.Bool.{Bool, true, false}
use mathlib.Core.List.{List, ◌++◌}
use native.Mathlib.{Omega.arith, Decide.dec_le}
use lib.{ListN.length, ListN.take, ListN.drop, Seq.take-append_seam}
use Rattle.model.specs.{Placed.front, Answer.After, Answer.answered, Answer.entered, Job.Job, Sheet.accepted, Sheet.read_sheet, Written.Written}
use Rattle.model_run.specs.{Whole.run_sheet}
use Rattle.model.specs.Sheet as Sheet
use Rattle.model.proofs.{Accepted.accepted-sound, Written.always-writes}
use Rattle.model_sheet.specs.Claims.{longest_sheet}
use Rattle.model_record.specs.declared.JobRecord.{JobRecord}
use Rattle.model_record.specs.{Record.said, Record.passes, Record.job_in, Record.text_of, Record.record_over, Claims.Shaped, Claims.HasSheet}
use Rattle.model_record.specs.Entry.{record_number_count, saved, draft, write_record, write_entry, AfterRead, opening, read_entry}
use Rattle.model_record.proofs.Examples.{shown, worked}
use Rattle.model_record.proofs.{Places.shaped-over, Record.written-then-read, Record.read-then-written, Record.refused-exactly, Record.short, Record.runs-alike}
use Rattle.whole_record.proofs.Laws.{record-refused, record-lacks, record-fits}
use Rattle.claims.specs.Record.{TwoNumbers, WriteCalled, SheetWrittenHolds, ReadCalled, RecordReadHolds, SavedThenOpened, OpenedThenSaved, SavedRuns}
use Rattle.claims.specs.Record.{RecordTelling}
use Rattle.model_entry.proofs.{Laws.entered-sized, Laws.read-sized}
use Rattle.claims.proofs.{Demands.demand-2}

-- ---- Saving

module _ {job : JobRecord} {o a : List ℕ} {r : ℕ} {o' a' : List ℕ} (c : WriteCalled job o a r o' a') where
  -- what the call comes to, once it is known what is written
  module _ {w : Written} (e : write_record job o ≡ w) where
    entry : write_entry job o a ≡ answered (saved w) w.memory
    unfolding write_entry
    entry = entered-sized record_number_count o a _ c.sized ∙ ap (λ (x : Written). answered (saved x) x.memory) e

    answers : TwoNumbers w.answer.number w.answer.bytes r a'
    answers = (c.met.returns ∙ ap (λ (x : After). x.returned) entry, c.met.answers ∙ ap (λ (x : After). x.answer) entry)

    memory : o' ≡ w.memory
    memory = c.met.outputs ∙ ap (λ (x : After). x.output) entry

  refuses : passes job ≡ false → TwoNumbers 54 0 r a' × (o' ≡ o)
  refuses h = let e = record-refused job o h in (answers e, memory e)

  module _ (h : passes job ≡ true) where
    writes : length (text_of job) ≤ length o → TwoNumbers 0 (length (text_of job)) r a' × (o' ≡ text_of job ++ drop (length (text_of job)) o)
    unfolding front
    writes f = let e = record-fits job o h f in (answers e, memory e)

    lacks : length o < length (text_of job) → TwoNumbers 55 0 r a' × (o' ≡ o)
    lacks l = let e = record-lacks job o h l in (answers e, memory e)

    -- a record that passes is written, or lacks memory
    passing-not-54 : r ≢ 54
    passing-not-54 is = go (dec_le (length (text_of job)) (length o))
      where
        go : Dec (length (text_of job) ≤ length o) → ⊥
        go (yes f) = omega (arith, (writes f).0.0)
        go (no f) = omega (arith, (lacks (omega arith)).0.0)

  -- the record passes or not
  passes-or : {R : Type 0} → (passes job ≡ true → R) → (passes job ≡ false → R) → R
  passes-or {R} yes-case no-case = go (passes job) refl
    where
      go : (b : Bool) → passes job ≡ b → R
      go true e = yes-case e
      go false e = no-case e

  enough : longest_sheet job.form ≤ length o → r ≢ 55
  enough h is = passes-or (λ p. omega (arith, (writes p (omega (arith, short job c.shaped p))).0.0)) (λ p. omega (arith, (refuses p).0.0))

  exactly : (r ≡ 54) ↔ ¬ HasSheet job
  exactly = (
    λ is. (refused-exactly job c.shaped).0 (passes-or (λ p. absurd (passing-not-54 p is)) (λ p. p)),
    λ none. (refuses ((refused-exactly job c.shaped).1 none)).0.0,
  )

  size : length o' ≡ length o
  unfolding write_record
  size = ap length (memory refl) ∙ (always-writes 55 o (draft job)).size

pub sheet-written : SheetWrittenHolds
sheet-written job o a r o' a' c = record { refuses = refuses c; writes = writes c; lacks = lacks c; enough = enough c; exactly = exactly c; size = size c }

-- ---- Opening

module _ {s : List ℕ} {job : JobRecord} {a : List ℕ} {r : ℕ} {job' : JobRecord} {a' : List ℕ} (c : ReadCalled s job a r job' a') where
  module _ {x : Sheet.Reading} (e : read_sheet s ≡ x) where
    opened : read_entry s job a ≡ opening job x
    opened = read-sized s job a c.sized ∙ ap (opening job) e

    told : (r ≡ (opening job x).returned) × (a' ≡ (opening job x).answer) × (job' ≡ (opening job x).job)
    told = (c.met.returns ∙ ap (λ (y : AfterRead). y.returned) opened, c.met.answers ∙ ap (λ (y : AfterRead). y.answer) opened, c.met.jobs ∙ ap (λ (y : AfterRead). y.job) opened)

  read-refused : (n l : ℕ) → read_sheet s ≡ Sheet.refused n l → TwoNumbers n l r a' × (job' ≡ job)
  read-refused n l e = let t = told e in ((t.0, t.1), t.2)

  read-accepted : (j : Job) → read_sheet s ≡ accepted j → TwoNumbers 0 0 r a' × (job' ≡ record_over j job)
  read-accepted j e = let t = told e in ((t.0, t.1), t.2)

  kept : Shaped job'
  kept = go (read_sheet s) refl
    where
      go : (x : Sheet.Reading) → read_sheet s ≡ x → Shaped job'
      go (Sheet.refused n l) e = subst Shaped (sym (read-refused n l e).1) c.shaped
      go (Sheet.accepted j) e = subst Shaped (sym (read-accepted j e).1) (shaped-over j job (accepted-sound s j e) c.shaped)

pub record-read : RecordReadHolds
record-read s job a r job' a' c = record { refuses = read-refused c; reads = read-accepted c; shaped = kept c }

-- ---- Both, one after the other

-- a call that returns 0 has written the whole sheet
saved-whole : {job : JobRecord} {o a o' a' : List ℕ} → WriteCalled job o a 0 o' a' → (passes job ≡ true) × (take (length (text_of job)) o' ≡ text_of job)
saved-whole {job} {o} {a} {o'} {a'} c = passes-or c pass (λ p. absurd (omega (arith, (refuses c p).0.0)))
  where
    pass : passes job ≡ true → (passes job ≡ true) × (take (length (text_of job)) o' ≡ text_of job)
    pass p = (p, go (dec_le (length (text_of job)) (length o)))
      where
        go : Dec (length (text_of job) ≤ length o) → take (length (text_of job)) o' ≡ text_of job
        go (yes f) = ap (take (length (text_of job))) (writes c p f).1 ∙ take-append_seam (text_of job) (drop (length (text_of job)) o)
        go (no f) = absurd (omega (arith, (lacks c p (omega arith)).0.0))

pub saved-then-opened : SavedThenOpened
saved-then-opened job o a o' a' c old b r job' b' d =
    let w = saved-whole c in
    let k = written-then-read job old c.shaped d.shaped w.0 in
    let t = read-accepted d (job_in job) (ap read_sheet w.1 ∙ k.reads) in
    (t.0, ap said t.1 ∙ k.same)

pub opened-then-saved : OpenedThenSaved
opened-then-saved s j old a r job' a' e c o b t o' b' fits d =
    let k = read-then-written s j old c.shaped e in
    let q = (read-accepted c j e).1 in
    let p = ap passes q ∙ k.passing in
    let text = ap text_of q ∙ k.bytes in
    let w = writes d p (rw text fits) in
    ((w.0.0, w.0.1 ∙ rw text), w.1 ∙ rw text)

pub saved-runs : SavedRuns
saved-runs job m b m' b' w o a r o' a' c =
    let k = saved-whole w in
    let d = demand-2 (take (length (text_of job)) m') o a r o' a' c in
    let e = ap (λ (s : List ℕ). run_sheet s o) k.1 ∙ runs-alike job o w.shaped k.0 in
    record { returns = d.first ∙ rw e; outputs = d.memory ∙ rw e; answers = d.numbers ∙ rw e }

-- ---- The claims speak of something

pub record-telling : RecordTelling
unfolding shown entered write_entry
record-telling =
    record {
      called = λ lent. record { sized = refl; shaped = worked.held; met = record { returns = refl; outputs = refl; answers = refl } };
      opened = λ s. record { sized = refl; shaped = worked.places; met = record { returns = refl; jobs = refl; answers = refl } };
      exact = refl;
      lacks = refl;
      refuses = refl;
      other = refl;
      reads = refl;
      fails = refl;
    }
