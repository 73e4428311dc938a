-- A record that does not pass, or its sheet.
use mathlib.Core.Path.{sym, ap, ◌∙◌}
use mathlib.Core.List.{List}
use Prim.Native.Nat.{ℕ}
use Rattle.std.proofs.Common.{Err}
use Rattle.model.specs.Written.{text, told, written, write}
use Rattle.model.specs.declared.TextFault.{TextFault}
use Rattle.whole_record.proofs.Laws.{record-refused, record-saved, saved}
use Rattle.whole_record.proofs.save_record.Goals as goal

pub try_save_job-requires : goal.try_save_job-requires
try_save_job-requires c = let k = saved c.args.r c.read_record.new.job c.in-Some.ensures.passing in (k.sound, k.stored)

pub returns-in-Some : goal.returns-in-Some
returns-in-Some c =
    let a = c.args in
    let k = saved a.r c.read_record.new.job c.in-Some.ensures.passing in
    c.try_save_job.ensures ∙ ap (λ (s : List ℕ). write 55 a.output.now (text s)) k.text ∙ sym (record-saved a.r a.output.now k.passing)

pub returns-in-None : goal.returns-in-None
returns-in-None c =
    let m = c.args.output.now in
    ap (λ (f : TextFault). written (told (Err f)) m) c.without_line.ensures ∙ sym (record-refused c.args.r m c.in-None.ensures.passing)
