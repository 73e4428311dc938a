-- A refusal of reading, or the record of the sheet saved: its text is the sheet.
use mathlib.Core.Path.{sym, ap, ◌∙◌}
use Rattle.std.proofs.Common.{Err}
use Rattle.model.specs.Written.{written, told}
use Rattle.model.specs.declared.TextFault.{TextFault}
use Rattle.whole_record.proofs.Laws.{again-refused, again-written}
use Rattle.whole_record.proofs.resave.Goals as goal

pub returns-in-Err : goal.returns-in-Err
returns-in-Err c =
    let a = c.args in
    ap (λ (f : TextFault). written (told (Err f)) a.output.now) c.from.ensures
    ∙ sym (again-refused a.sheet.now a.output.now _ _ c.in-Err.ensures.0)

pub returns-in-Ok : goal.returns-in-Ok
returns-in-Ok c =
    c.save_record.ensures ∙ again-written c.args.sheet.now c.args.output.now _ c.blank-r.ensures _ c.in-Ok.ensures
