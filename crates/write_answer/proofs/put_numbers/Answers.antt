-- One number more, and all of them.
use mathlib.Core.Path.{sym}
use Rattle.model.specs.{Answer.all_le32}
use Rattle.model.proofs.Placed.{placed-nil}
use Rattle.write_answer.proofs.Laws.{put-again, put-done}
use Rattle.write_answer.proofs.put_numbers.Goals as goal

pub loop-i-init : goal.loop-i-init
unfolding all_le32
loop-i-init c = sym (placed-nil _ 0)

pub loop-i-preserved : goal.loop-i-preserved
loop-i-preserved c =
    let l = c.loop-i in
    put-again c.args.ns.now c.args.dst.now l.i c.loop-i-test.true l.dst _ l.invariant c.put32.ensures

pub returns : goal.returns
returns c = let l = c.loop-i in put-done c.args.ns.now c.args.dst.now l.dst l.i c.loop-i-test.false c.requires l.invariant
