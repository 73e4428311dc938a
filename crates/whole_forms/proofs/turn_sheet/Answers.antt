-- A refusal of reading, or what is made of the job.
use mathlib.Core.Path.{sym, ap, ◌∙◌}
use Rattle.std.proofs.Common.{Err}
use Rattle.model.specs.Written.{written, told}
use Rattle.model.specs.declared.TextFault.{TextFault}
use Rattle.model_forms.specs.Forms.{turn, turn_sheet}
use Rattle.read_sheet.proofs.Answers.{read-refused}
use Rattle.save_job.proofs.Laws.{read-got, changed-refused, changed-by}
use Rattle.whole_forms.proofs.turn_sheet.Goals as goal

pub save_turned-requires : goal.save_turned-requires
save_turned-requires c = let k = read-got _ _ c.in-Ok.ensures in (k.sound, k.stored)

pub returns-in-Err : goal.returns-in-Err
unfolding turn_sheet
returns-in-Err c =
    let m = c.args.output.now in
    ap (λ (f : TextFault). written (told (Err f)) m) c.from.ensures
    ∙ sym (changed-refused 49 (turn c.args.asked) c.args.sheet.now m _ _ (read-refused c.in-Err.ensures))

pub returns-in-Ok : goal.returns-in-Ok
unfolding turn_sheet
returns-in-Ok c =
    let k = read-got _ _ c.in-Ok.ensures in
    c.save_turned.ensures ∙ sym (changed-by 49 (turn c.args.asked) c.args.sheet.now c.args.output.now _ k.reading)
