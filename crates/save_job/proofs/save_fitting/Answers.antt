-- Too little memory, which is told by counting, or the sheet.
use Prim.Native.Nat.{ℕ, ◌≤◌}
use mathlib.Core.Path.{◌≡◌, refl, sym, ap, ◌∙◌}
use mathlib.Core.Logic.{inl, inr}
use native.Mathlib.Omega.{arith}
use lib.ListN.{length}
use Rattle.model.specs.{Stored.job_of, Written.written}
use Rattle.model.proofs.Written.{write-short}
use Rattle.model_sheet.specs.Sheet.{sheet_text}
use Rattle.model_sheet.proofs.Short.{most-of-all}
use Rattle.write_text.proofs.Laws.{put_count, put_written}
use Rattle.save_job.proofs.save_fitting.Goals as goal
use Rattle.save_job.proofs.save_fitting.Goals.{then-output-lt-LONGEST_SHEET+else-output-needed, else-output-lt-LONGEST_SHEET}
use Rattle.save_job.proofs.save_fitting.Goals.{Joined-output-lt-LONGEST_SHEET, After-put_sheet-n, After-put_sheet-needed, Start}

abbrev size_of : Start → ℕ
size_of c = length (sheet_text (job_of c.args.job.now))

most : (c : Start) → size_of c ≤ 6286
most c = most-of-all (job_of c.args.job.now) c.requires.0

-- what was counted
counted : (c : After-put_sheet-needed) → c.put_sheet-needed.result ≡ size_of (goal.at.After-put_sheet-needed c).Start
counted c = put_count c.put_sheet-needed.ensures

pub put_sheet-needed-requires : goal.put_sheet-needed-requires
put_sheet-needed-requires c =
    let s = (goal.at.put_sheet-needed-requires c).Start in
    record { sound = s.requires.0; stored = s.requires.1; room = record { near = omega (arith, most s); fits = inl refl } }

pub returns-then-output-needed : goal.returns-then-output-needed
returns-then-output-needed c short =
    let p = (goal.at.returns-then-output-needed c).After-put_sheet-needed in
    let a = p.args in
    sym (write-short short a.output.now (sheet_text (job_of a.job.now)) (omega (arith, counted p, c.if-output-needed.true)))

-- there is room, by either way
enough : (c : Joined-output-lt-LONGEST_SHEET) → let s = (goal.at.Joined-output-lt-LONGEST_SHEET c).Start in size_of s ≤ length s.args.output.now
enough c = let s = (goal.at.Joined-output-lt-LONGEST_SHEET c).Start in
    elim c.if-output-lt-LONGEST_SHEET.branch [
      | then-output-lt-LONGEST_SHEET+else-output-needed w ↦ omega (arith, put_count w.put_sheet-needed.ensures, w.if-output-needed.false)
      | else-output-lt-LONGEST_SHEET w ↦ omega (arith, most s, w.if-output-lt-LONGEST_SHEET.false)
    ]

pub put_sheet-n-requires : goal.put_sheet-n-requires
put_sheet-n-requires c =
    let s = (goal.at.put_sheet-n-requires c).Start in
    record { sound = s.requires.0; stored = s.requires.1; room = record { near = omega (arith, most s); fits = inr (omega (arith, enough (goal.at.put_sheet-n-requires c).Joined-output-lt-LONGEST_SHEET)) } }

pub overflow_cast-result : goal.overflow_cast-result
overflow_cast-result c =
    let w = (goal.at.overflow_cast-result c).After-put_sheet-n in
    record { fits = omega (arith, put_count w.put_sheet-n.ensures, most (goal.at.After-put_sheet-n w).Start) }

pub returns : goal.returns
returns c short =
    let w = (goal.at.returns c).After-put_sheet-n in
    let a = w.args in
    ap (λ (x : ℕ). written (record { number = 0; line = 0; bytes = x }) w.put_sheet-n.new.out) (put_count w.put_sheet-n.ensures)
    ∙ sym (put_written short w.put_sheet-n.ensures (enough (goal.at.After-put_sheet-n w).Joined-output-lt-LONGEST_SHEET))
