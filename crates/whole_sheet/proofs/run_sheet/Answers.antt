-- The two cases of reading. A job that was read is sound, which is what the run asks.
use mathlib.Core.Path.{◌∙◌, sym}
use Rattle.model.proofs.Accepted.{accepted-sound}
use Rattle.whole_sheet.proofs.Laws.{accepted-left, refused-left}
use Rattle.whole_sheet.proofs.run_sheet.Goals as goal

pub returns-in-Err : goal.returns-in-Err
returns-in-Err c = sym (refused-left c.args.sheet.now c.args.output.now _ _ (sym c.in-Err.ensures.reading))

pub run_job-requires : goal.run_job-requires
run_job-requires c = let r = c.in-Ok.ensures in (accepted-sound c.args.sheet.now _ (sym r.reading), r.stored)

pub returns-in-Ok : goal.returns-in-Ok
returns-in-Ok c = c.run_job.ensures ∙ sym (accepted-left c.args.sheet.now c.args.output.now _ (sym c.in-Ok.ensures.reading))
