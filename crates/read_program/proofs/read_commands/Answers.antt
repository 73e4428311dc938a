-- The `do` lines that are left, added to those that the array holds, give what the whole phase gives.
use Rattle.std.proofs.Common.{◌≡◌, ◌∙◌, sym, ap, refl, arith, Err, length-set}
use Rattle.model.specs.Refusal.{parsed}
use Rattle.model.proofs.Handed.{handed}
use Rattle.model_text.proofs.TextLaws.{rest}
use Rattle.read_line.proofs.Laws.{going_on, going-left, going-bad, going_more, array-full, array-bad, array_ok, read-faulted, refused-faulted}
use Rattle.read_program.proofs.Laws.{do-word, itself, lines_as, commands-refused, commands-none, commands-some}
use Rattle.read_program.proofs.read_commands.Goals as goal

pub returns-then-count-eq0 : goal.returns-then-count-eq0
returns-then-count-eq0 c =
    let l = c.loop-v in
    let g = going-left do-word c.first_line.ensures l.invariant.0 (rest c.args.s.now l.at) (lines_as l.commands) l.count refl c.in_default.is in
    record { read = commands-none _ _ _ _ g (omega arith) c.if-count-eq0.true; few = tt; all = l.invariant.2 }

pub returns-in_default : goal.returns-in_default
returns-in_default c =
    let l = c.loop-v in
    let g = going-left do-word c.first_line.ensures l.invariant.0 (rest c.args.s.now l.at) (lines_as l.commands) l.count refl c.in_default.is in
    record { read = commands-some _ _ _ _ g (omega arith) c.if-count-eq0.false; few = omega arith; all = l.invariant.2 }

pub returns-then-form-count : goal.returns-then-form-count
returns-then-form-count c =
    let l = c.loop-v in
    let b = array-full itself c.args.form.commands _ l.count l.commands _ (omega arith) (omega arith) in
    record { read = commands-refused _ _ l.commands (going-bad do-word c.first_line.ensures l.invariant.0 (rest c.args.s.now l.at) c.in-Some.is (lines_as l.commands) b); few = tt; all = l.invariant.2 }

pub returns-in_err-commands : goal.returns-in_err-commands
returns-in_err-commands c =
    let l = c.loop-v in
    let q = refused-faulted _ _ _ c.in_err-commands.ensures in
    let b = array-bad itself c.args.form.commands _ l.count l.commands _ (omega arith) (omega arith) _ (sym c.read_command.ensures ∙ ap parsed q.1) in
    rw (handed _ _ c.from_residual.ensures.1 ∙ ap Err q.2)
    (record { read = commands-refused _ _ l.commands (going-bad do-word c.first_line.ensures l.invariant.0 (rest c.args.s.now l.at) c.in-Some.is (lines_as l.commands) b); few = tt; all = l.invariant.2 })

pub loop-v-preserved : goal.loop-v-preserved
loop-v-preserved c =
    let l = c.loop-v in
    let r = sym c.read_command.ensures ∙ ap parsed (read-faulted _ _ _ c.in_ok-commands.ensures) in
    let o = array_ok itself c.args.form.commands _ l.count l.commands _ (omega arith) (omega arith) _ r in
    (going_more do-word c.first_line.ensures l.invariant.0 (rest c.args.s.now l.at) c.in-Some.is _ o, omega arith, simp length-set l.invariant.2)
