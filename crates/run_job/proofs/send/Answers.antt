-- One cell more, and all of them behind the heading.
use native.Mathlib.{Omega.arith}
use Rattle.model.proofs.Ready.{few}
use Rattle.run_job.proofs.Keys.{write-more, write_done}
use Rattle.run_job.proofs.send.Goals as goal

pub loop-k-preserved : goal.loop-k-preserved
loop-k-preserved c = write-more c.requires.sound c.loop-k.invariant c.loop-k-test.true _ c.key_cell.auto.out c.key_cell.ensures

pub line_end-requires : goal.line_end-requires
line_end-requires c = ((few c.requires.sound).keys, omega (arith, c.requires.room, c.heading.auto.out, c.loop-k.invariant.same))

pub returns : goal.returns
returns c = write_done c.requires.sound c.loop-k.invariant c.loop-k-test.false c.args.out.now c.args.at c.heading.ensures _ c.line_end.ensures
