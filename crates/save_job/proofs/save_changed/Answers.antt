-- The sheet, or a refusal.
use Rattle.std.proofs.Common.{ap, ◌∙◌}
use Rattle.model.specs.Written.{written}
use Rattle.model.specs.declared.TextAnswer.{TextAnswer}
use Rattle.save_job.proofs.Laws.{savable-job, saved-given, saved-denied}
use Rattle.save_job.proofs.save_changed.Goals as goal

pub save_job-requires : goal.save_job-requires
save_job-requires c = savable-job (λ n. n) _ c.in-Ok.is c.requires

pub returns-in-Ok : goal.returns-in-Ok
returns-in-Ok c = let a = c.args in c.save_job.ensures ∙ saved-given (λ n. n) _ a.short a.output.now c.in-Ok.is

pub returns-in-Err : goal.returns-in-Err
returns-in-Err c =
    let a = c.args in
    ap (λ (x : TextAnswer). written x a.output.now) c.refuse.ensures ∙ saved-denied (λ n. n) _ a.short a.output.now c.in-Err.is
