-- The counts first, and then the parts one after the other.
use mathlib.Core.Path.{◌≡◌, sym, ◌∙◌}
use lib.ListN.{length}
use native.Mathlib.Omega.{arith}
use borrow.Author.Rules.{rules}
use lib.Seq.{length-take-le}
use Rattle.read_record.proofs.Whole.{few, counts-bad, secrets-bad, commands-bad, messages-bad, letters-last, secrets-by, commands-by, letters-by, whole, length-mapped}
use Rattle.read_record.proofs.read_parts.Goals as goal

pub returns-then-not-counts_fit : goal.returns-then-not-counts_fit
returns-then-not-counts_fit c = counts-bad c.args.r (sym c.counts_fit.ensures ∙ c.if-not-counts_fit.true)

pub shared_ref_as_front-dummies : goal.shared_ref_as_front-dummies
shared_ref_as_front-dummies c = let b = few c.args.r (sym c.counts_fit.ensures ∙ c.if-not-counts_fit.false) in omega (arith, b.secrets, b.keys)

pub secrets_of-requires : goal.secrets_of-requires
secrets_of-requires c = (few c.args.r (sym c.counts_fit.ensures ∙ c.if-not-counts_fit.false)).keys

pub returns-in_err-job : goal.returns-in_err-job
returns-in_err-job c =
    let r = c.args.r in
    let k = sym c.counts_fit.ensures ∙ c.if-not-counts_fit.false in
    rw c.from_residual.ensures (secrets-bad r k (secrets-by r c.of-form.ensures c.in_err-job.ensures))

pub shared_ref_as_front-program : goal.shared_ref_as_front-program
shared_ref_as_front-program c = let b = few c.args.r (sym c.counts_fit.ensures ∙ c.if-not-counts_fit.false) in omega (arith, b.commands)

pub commands_of-requires : goal.commands_of-requires
commands_of-requires c =
    let r = c.args.r in
    let b = few r (sym c.counts_fit.ensures ∙ c.if-not-counts_fit.false) in
    let e : length r.commands ≡ 256 = search (rules, length-mapped) in
    (omega (arith, b.commands, length-take-le r.command_count r.commands (omega (arith, b.commands))), b.some_keys, b.keys)

pub returns-in_err-job-2 : goal.returns-in_err-job-2
returns-in_err-job-2 c =
    let r = c.args.r in
    let k = sym c.counts_fit.ensures ∙ c.if-not-counts_fit.false in
    let b = few r k in
    let e : length r.commands ≡ 256 = search (rules, length-mapped) in
    rw c.from_residual-in_err-job-2.ensures
    (commands-bad r k (secrets-by r c.of-form.ensures c.in_ok-job.ensures.0) (commands-by r (omega (arith, b.commands)) c.in_err-job-2.ensures))

pub shared_ref_as_front-queue : goal.shared_ref_as_front-queue
shared_ref_as_front-queue c = (few c.args.r (sym c.counts_fit.ensures ∙ c.if-not-counts_fit.false)).messages

pub messages_of-requires : goal.messages_of-requires
messages_of-requires c =
    let r = c.args.r in
    let b = few r (sym c.counts_fit.ensures ∙ c.if-not-counts_fit.false) in
    let e : length r.messages ≡ 32 = search (rules, length-mapped) in
    (omega (arith, b.messages, length-take-le r.message_count r.messages (omega (arith, b.messages))), b.keys)

pub returns-in_err-job-3 : goal.returns-in_err-job-3
returns-in_err-job-3 c =
    let r = c.args.r in
    let k = sym c.counts_fit.ensures ∙ c.if-not-counts_fit.false in
    let b = few r k in
    let e : length r.commands ≡ 256 = search (rules, length-mapped) in
    rw c.from_residual-in_err-job-3.ensures
    (messages-bad r k (secrets-by r c.of-form.ensures c.in_ok-job.ensures.0) (commands-by r (omega (arith, b.commands)) c.in_ok-job-2.ensures.0) c.in_err-job-3.ensures)

pub shared_ref_as_front-letters : goal.shared_ref_as_front-letters
shared_ref_as_front-letters c = (few c.args.r (sym c.counts_fit.ensures ∙ c.if-not-counts_fit.false)).letters

pub returns-then-not-letters_fit : goal.returns-then-not-letters_fit
returns-then-not-letters_fit c =
    let r = c.args.r in
    let k = sym c.counts_fit.ensures ∙ c.if-not-counts_fit.false in
    let b = few r k in
    let e : length r.commands ≡ 256 = search (rules, length-mapped) in
    letters-last r k (secrets-by r c.of-form.ensures c.in_ok-job.ensures.0) (commands-by r (omega (arith, b.commands)) c.in_ok-job-2.ensures.0) c.in_ok-job-3.ensures.0
    ∙ letters-by r c.of-form.ensures c.letters_fit.ensures c.if-not-letters_fit.true

pub returns : goal.returns
returns c =
    let r = c.args.r in
    let k = sym c.counts_fit.ensures ∙ c.if-not-counts_fit.false in
    let b = few r k in
    let cs : length r.commands ≡ 256 = search (rules, length-mapped) in
    let ms : length r.messages ≡ 32 = search (rules, length-mapped) in
    let ls : length r.letters ≡ 1024 = search rules in (
      letters-last r k (secrets-by r c.of-form.ensures c.in_ok-job.ensures.0) (commands-by r (omega (arith, b.commands)) c.in_ok-job-2.ensures.0) c.in_ok-job-3.ensures.0
          ∙ letters-by r c.of-form.ensures c.letters_fit.ensures c.if-not-letters_fit.false,
      whole (omega (arith, b.commands), omega (arith, b.messages), omega (arith, b.letters)) c.in_ok-job.ensures.1 c.in_ok-job-2.ensures.1 c.in_ok-job-3.ensures.1,
    )
