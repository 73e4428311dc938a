-- What the scan finds from here on is what it finds from the start.
use Rattle.std.proofs.Common.{◌≡◌, ◌∙◌, ◌+◌, get_or, sym, arith}
use Rattle.model.specs.Text.{line_feed}
use Rattle.model_log.specs.Log.{carriage_return}
use Rattle.read_log.proofs.Scan.{harmless, scan-short, scan-end, scan-spoilt, scan-comma, scan-other}
use Rattle.read_log.proofs.scan_row.Goals as goal
use Rattle.read_log.proofs.scan_row.Goals.{After-spoils, else-b-eq13-via-then-b-eq13+else-s-i-eq10, else-b-eq13-via-else-b-eq13}

-- a byte of a number, and one above the quote mark that is no comma
pub loop-i-preserved-then-b-ge45 : goal.loop-i-preserved-then-b-ge45
loop-i-preserved-then-b-ge45 c =
    let u = harmless (get_or c.args.s.now c.loop-i.i 0) (omega arith) (omega arith) (omega arith) in
    record { few = omega arith; same = sym (scan-other _ _ _ (omega arith) (omega arith) u (omega arith)) ∙ c.loop-i.invariant.same }

pub loop-i-preserved-then-b-gt34 : goal.loop-i-preserved-then-b-gt34
loop-i-preserved-then-b-gt34 c =
    let u = harmless (get_or c.args.s.now c.loop-i.i 0) (omega arith) (omega arith) (omega arith) in
    record { few = omega arith; same = sym (scan-other _ _ _ (omega arith) (omega arith) u c.if-b-eq44.false) ∙ c.loop-i.invariant.same }

-- a comma
pub loop-i-preserved-then-b-eq44 : goal.loop-i-preserved-then-b-eq44
loop-i-preserved-then-b-eq44 c =
    let u = harmless (get_or c.args.s.now c.loop-i.i 0) (omega arith) (omega arith) (omega arith) in
    record { few = omega arith; same = sym (scan-comma _ _ _ (omega arith) (omega arith) u c.if-b-eq44.true) ∙ c.loop-i.invariant.same }

pub returns-then-s-i-eq10 : goal.returns-then-s-i-eq10
returns-then-s-i-eq10 c = sym (sym c.loop-i.invariant.same ∙ scan-end _ _ _ (omega arith) c.if-b-eq13.true c.if-s-i-eq10.true)

-- two bytes that do not end the row
on : (c : After-spoils) → get_or c.args.s.now c.loop-i.i 0 ≡ carriage_return → get_or c.args.s.now (c.loop-i.i + 1) 0 ≡ line_feed → ⊥
on c e f =
    elim c.else-b-eq13.branch [
      | else-b-eq13-via-then-b-eq13+else-s-i-eq10 w ↦ w.if-s-i-eq10.false f
      | else-b-eq13-via-else-b-eq13 w ↦ w.if-b-eq13.false e
    ]

-- a byte that spoils the row
pub returns-then-spoils : goal.returns-then-spoils
returns-then-spoils c = sym (sym c.loop-i.invariant.same ∙ scan-spoilt _ _ _ (omega arith) (on (goal.at.returns-then-spoils c).After-spoils) (sym c.if-spoils.ensures))

-- any other byte
pub loop-i-preserved : goal.loop-i-preserved
loop-i-preserved c =
    record { few = omega arith; same = sym (scan-other _ _ _ (omega arith) (on (goal.at.loop-i-preserved c).After-spoils) (sym c.if-spoils.ensures) c.if-b-eq44.false) ∙ c.loop-i.invariant.same }

pub returns : goal.returns
returns c = sym (sym c.loop-i.invariant.same ∙ scan-short _ _ _ (omega arith))
