-- Phase after phase, each on what the one before it left.
use Rattle.std.proofs.Common.{◌≡◌, ◌≤◌, ◌∙◌, sym, ap, arith, rules, length, take}
use lib.Seq.{length-take-le}
use Rattle.model.specs.{Stored.job_of, Stored.command_capacity}
use Rattle.model.proofs.Handed.{handed}
use Rattle.model_text.proofs.TextLaws.{rest}
use Rattle.read_messages.specs.Messages.{messages_in}
use Rattle.read_turns.specs.Turns.{turns_in}
use Rattle.read_sheet.proofs.Laws.{answers, denied, from, stop-commands, stop-messages, stop-turns, body-read}
use Rattle.read_sheet.proofs.read_body.Goals as goal

pub returns-in_err-commands : goal.returns-in_err-commands
returns-in_err-commands c =
    rw (handed _ _ c.from_residual.ensures.1) (denied (stop-commands c.args.form _ c.args.keys c.args.top (λ n. take n c.read_commands.new.commands) c.in_err-commands.ensures.read))

pub returns-in_err-messages : goal.returns-in_err-messages
returns-in_err-messages c =
    rw (handed _ _ c.from_residual-in_err-messages.ensures.1)
    (denied
    (stop-messages c.args.form _ c.args.keys c.args.top (λ n. take n c.read_commands.new.commands) c.in_ok-commands.ensures.read (rest c.args.s.now _)
    (messages_in c.args.keys c.read_messages.new.messages) c.in_err-messages.ensures.read))

pub returns-in_err-turns : goal.returns-in_err-turns
returns-in_err-turns c =
    let s = c.args.s.now in
    let t = from c.in_ok-commands.behind.at s in
    rw (handed _ _ c.from_residual-in_err-turns.ensures.1)
    (denied
    (stop-turns c.args.form _ c.args.keys c.args.top (λ n. take n c.read_commands.new.commands) c.in_ok-commands.ensures.read (rest s _)
    (messages_in c.args.keys c.read_messages.new.messages) c.in_ok-messages.ensures.read (rest t c.in_ok-messages.next.at) (turns_in c.read_turns.new.letters) c.in_err-turns.ensures.read))

pub shared_ref_as_front-test_targets : goal.shared_ref_as_front-test_targets
shared_ref_as_front-test_targets c =
    let h = c.in_ok-commands.ensures in
    omega (arith, h.few, h.all)

pub test_targets-requires : goal.test_targets-requires
test_targets-requires c =
    let h = c.in_ok-commands.ensures.few in
    let l : c.in_ok-commands.commands ≤ command_capacity = omega (arith, h, c.in_ok-commands.ensures.all) in
    (rw (length-take-le c.in_ok-commands.commands c.read_commands.new.commands h) l, omega arith)

pub returns-in_err-test_targets : goal.returns-in_err-test_targets
returns-in_err-test_targets c =
    let s = c.args.s.now in
    let t = from c.in_ok-commands.behind.at s in
    let b =
    body-read c.args.form _ c.args.keys c.args.top (λ n. take n c.read_commands.new.commands) c.in_ok-commands.ensures.read (rest s _)
    (messages_in c.args.keys c.read_messages.new.messages) c.in_ok-messages.ensures.read (rest t c.in_ok-messages.next.at) (turns_in c.read_turns.new.letters) c.in_ok-turns.ensures.read in
    rw (handed _ _ c.from_residual-in_err-test_targets.ensures.1) (denied (b ∙ sym (c.in_err-test_targets.ensures.reading _)))

pub returns : goal.returns
unfolding job_of
returns c =
    let s = c.args.s.now in
    let t = from c.in_ok-commands.behind.at s in
    let b =
    body-read c.args.form _ c.args.keys c.args.top (λ n. take n c.read_commands.new.commands) c.in_ok-commands.ensures.read (rest s _)
    (messages_in c.args.keys c.read_messages.new.messages) c.in_ok-messages.ensures.read (rest t c.in_ok-messages.next.at) (turns_in c.read_turns.new.letters) c.in_ok-turns.ensures.read in
    record {
      reading = sym (b ∙ sym (c.in_ok-test_targets.ensures.reading _));
      stored = record { keys = search rules; commands = c.in_ok-commands.ensures.few; messages = c.in_ok-messages.ensures.few; turns = c.in_ok-turns.ensures.few };
    }
