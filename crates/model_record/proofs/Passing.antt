-- What a record that passes satisfies, one fact to each test.
use mathlib.Core.Path.{◌≡◌}
use mathlib.Core.Bool.{true}
use Prim.Native.Nat.{ℕ, ◌≤◌}
use native.Mathlib.Omega.{arith}
use lib.{Dec.leb, ListN.take}
use borrow.Author.Tests.{leb-true, le-leb}
use Rattle.model.specs.{Limits.forms, Text.between, Form.form_of, Accepted.Every}
use Rattle.model_text.proofs.TextLaws.{and_both, between_in}
use Rattle.model_record.specs.Data.{MessageRecord, JobRecord}
use Rattle.model_record.specs.Record.{secrets_fit, command_fits, entries_fit, message_fits, letter_fits, counts_fit, passes}
use Rattle.model.specs.Accepted.{all}
use Rattle.model_text.proofs.Tests.{and-made, Pass, all-every, every-all}

-- the tests of `counts_fit` first, and then those of what the counts cover
pub record Passing (r : JobRecord) : Type 0 where
  pub form : (1 ≤ r.form) × (r.form ≤ forms)
  pub some_keys : 1 ≤ r.keys
  pub most_keys : r.keys ≤ (form_of r.form).keys
  pub most_secrets : r.secret_count ≤ r.keys
  pub some_commands : 1 ≤ r.command_count
  pub most_commands : r.command_count ≤ (form_of r.form).commands
  pub most_messages : r.message_count ≤ (form_of r.form).messages
  pub some_letters : 1 ≤ r.letter_count
  pub most_letters : r.letter_count ≤ (form_of r.form).letters
  pub secrets : secrets_fit (form_of r.form).owners r.keys (take r.secret_count r.secrets) ≡ true
  pub commands : Every (Pass (command_fits r.keys r.command_count)) (take r.command_count r.commands)
  pub messages : Every (Pass (message_fits r.keys)) (take r.message_count r.messages)
  pub letters : Every (Pass (letter_fits (form_of r.form))) (take r.letter_count r.letters)

-- a number between two
between-made : (lo hi b : ℕ) → lo ≤ b → b ≤ hi → between lo hi b ≡ true
between-made lo hi b l h = and-made (le-leb lo b l) (le-leb b hi h)

-- a record that passes satisfies it
pub passing : (r : JobRecord) → passes r ≡ true → Passing r
unfolding passes counts_fit
passing r h =
    let counts = and_both (counts_fit r) _ h in
    let secrets = and_both (secrets_fit (form_of r.form).owners r.keys (take r.secret_count r.secrets)) _ counts.1 in
    let commands = and_both (all (command_fits r.keys r.command_count) (take r.command_count r.commands)) _ secrets.1 in
    let messages = and_both (all (message_fits r.keys) (take r.message_count r.messages)) _ commands.1 in
    let form = and_both (between 1 forms r.form) _ counts.0 in
    let keys = and_both (between 1 (form_of r.form).keys r.keys) _ form.1 in
    let secret_count = and_both (leb r.secret_count r.keys) _ keys.1 in
    let command_count = and_both (between 1 (form_of r.form).commands r.command_count) _ secret_count.1 in
    let message_count = and_both (leb r.message_count _) _ command_count.1 in
    let k = between_in 1 (form_of r.form).keys r.keys keys.0 in
    let c = between_in 1 (form_of r.form).commands r.command_count command_count.0 in
    let l = between_in 1 (form_of r.form).letters r.letter_count message_count.1 in
    record {
      form = between_in 1 forms r.form form.0;
      some_keys = k.0;
      most_keys = k.1;
      most_secrets = leb-true r.secret_count r.keys secret_count.0;
      some_commands = c.0;
      most_commands = c.1;
      most_messages = omega (arith, leb-true r.message_count _ message_count.0);
      some_letters = l.0;
      most_letters = l.1;
      secrets = secrets.0;
      commands = all-every (command_fits r.keys r.command_count) (take r.command_count r.commands) commands.0;
      messages = all-every (message_fits r.keys) (take r.message_count r.messages) messages.0;
      letters = all-every (letter_fits (form_of r.form)) (take r.letter_count r.letters) messages.1;
    }

-- nothing else is tested
pub passed : (r : JobRecord) → Passing r → passes r ≡ true
unfolding passes counts_fit
passed r p =
    and-made
    (and-made (between-made 1 forms r.form p.form.0 p.form.1)
    (and-made (between-made 1 (form_of r.form).keys r.keys p.some_keys p.most_keys)
    (and-made (le-leb r.secret_count r.keys p.most_secrets)
    (and-made (between-made 1 (form_of r.form).commands r.command_count p.some_commands p.most_commands)
    (and-made (le-leb r.message_count _ (omega (arith, p.most_messages)))
    (between-made 1 (form_of r.form).letters r.letter_count p.some_letters p.most_letters))))))
    (and-made p.secrets
    (and-made (every-all (command_fits r.keys r.command_count) (take r.command_count r.commands) p.commands)
    (and-made (every-all (message_fits r.keys) (take r.message_count r.messages) p.messages)
    (every-all (letter_fits (form_of r.form)) (take r.letter_count r.letters) p.letters))))

-- the two tests of a message
pub message-passing : (K : ℕ) (m : MessageRecord) → message_fits K m ≡ true
    → (m.entry_count ≤ K) × (entries_fit K (take m.entry_count m.entries) ≡ true)
unfolding message_fits
message-passing K m h = let a = and_both (leb m.entry_count K) _ h in (leb-true m.entry_count K a.0, a.1)
