-- The sheet, or a refusal.
use Rattle.std.proofs.Common.{Err, ap, ◌∙◌}
use Rattle.model.specs.{Refusal.number_of, Written.told, Written.written}
use Rattle.model.specs.declared.TextFault.{TextFault}
use Rattle.save_job.proofs.Laws.{savable-job, saved-given, saved-denied}
use Rattle.save_job.proofs.try_save_changed.Goals as goal

pub try_save_job-requires : goal.try_save_job-requires
try_save_job-requires c = savable-job number_of _ c.in-Ok.is c.requires

pub returns-in-Ok : goal.returns-in-Ok
returns-in-Ok c = let a = c.args in c.try_save_job.ensures ∙ saved-given number_of _ (number_of a.short) a.output.now c.in-Ok.is

pub returns-in-Err : goal.returns-in-Err
returns-in-Err c =
    let a = c.args in
    ap (λ (x : TextFault). written (told (Err x)) a.output.now) c.without_line.ensures ∙ saved-denied number_of _ (number_of a.short) a.output.now c.in-Err.is
