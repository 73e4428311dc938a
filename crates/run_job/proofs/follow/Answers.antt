-- The command's operands are within the program and the keys.
use native.Mathlib.{Omega.arith}
use Rattle.model.proofs.Ready.{few}
use Rattle.run_job.proofs.Views.{operands-at}
use Rattle.run_job.proofs.follow.Goals as goal

pub offset_bounds-job-x : goal.offset_bounds-job-x
offset_bounds-job-x c = omega (arith, c.if-x-job.true, (few c.requires.sound).commands)

pub step-requires-clause-key : goal.step-requires-clause-key
step-requires-clause-key c = omega (arith, c.requires.fields, (few c.requires.sound).keys, (operands-at c.requires.sound c.args.x.now.place c.if-x-job.true).k)

pub step-requires-clause-v : goal.step-requires-clause-v
step-requires-clause-v c = (operands-at c.requires.sound c.args.x.now.place c.if-x-job.true).v

pub step-requires-clause-w : goal.step-requires-clause-w
step-requires-clause-w c = (operands-at c.requires.sound c.args.x.now.place c.if-x-job.true).w
