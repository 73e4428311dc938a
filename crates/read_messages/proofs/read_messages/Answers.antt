-- The `msg` lines that are left, added to those that the array holds, give what the whole phase gives.
use Rattle.std.proofs.Common.{◌≡◌, ◌∙◌, sym, ap, refl, arith, length-set, Err}
use Rattle.model.specs.{Messages.read_messages, Refusal.parsed_by, Stored.entries_in}
use Rattle.model.proofs.Handed.{handed}
use Rattle.model_text.proofs.TextLaws.{rest}
use Rattle.read_line.proofs.Laws.{going_on, going-left, going-bad, going_more, array-full, array-bad, array_ok, read-faulted, refused-faulted}
use Rattle.read_messages.specs.Messages.{messages_in}
use Rattle.read_messages.proofs.Laws.{msg-word}
use Rattle.read_messages.proofs.read_messages.Goals as goal

pub returns-in_default : goal.returns-in_default
unfolding read_messages
returns-in_default c =
    let l = c.loop-v in
    record { read = going-left msg-word c.first_line.ensures l.invariant.going (rest c.args.s.now l.at) (messages_in c.args.keys l.messages) _ refl c.in_default.is; few = omega arith }

pub returns-then-form-count : goal.returns-then-form-count
unfolding read_messages
returns-then-form-count c =
    let l = c.loop-v in
    let b = array-full (entries_in c.args.keys) c.args.form.messages _ l.count l.messages _ (omega arith) (omega arith) in
    record { read = going-bad msg-word c.first_line.ensures l.invariant.going (rest c.args.s.now l.at) c.in-Some.is (messages_in c.args.keys l.messages) b; few = tt }

pub returns-in_err-messages : goal.returns-in_err-messages
unfolding read_messages
returns-in_err-messages c =
    let l = c.loop-v in
    let q = refused-faulted _ _ _ c.in_err-messages.ensures in
    let r = sym c.read_message.ensures ∙ ap (parsed_by (entries_in c.args.keys)) q.1 in
    let b = array-bad (entries_in c.args.keys) c.args.form.messages _ l.count l.messages _ (omega arith) (omega arith) _ r in
    rw (handed _ _ c.from_residual.ensures.1 ∙ ap Err q.2)
    (record { read = going-bad msg-word c.first_line.ensures l.invariant.going (rest c.args.s.now l.at) c.in-Some.is (messages_in c.args.keys l.messages) b; few = tt })

pub loop-v-preserved : goal.loop-v-preserved
loop-v-preserved c =
    let l = c.loop-v in
    let r = sym c.read_message.ensures ∙ ap (parsed_by (entries_in c.args.keys)) (read-faulted _ _ _ c.in_ok-messages.ensures) in
    let i = array_ok (entries_in c.args.keys) c.args.form.messages _ l.count l.messages _ (omega arith) (omega arith) _ r in
    record {
      going = going_more msg-word c.first_line.ensures l.invariant.going (rest c.args.s.now l.at) c.in-Some.is _ i;
      few = omega arith;
      all = simp length-set l.invariant.all;
    }
