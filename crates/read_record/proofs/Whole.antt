-- The whole record by its parts.
use Prim.Native.Nat.{ℕ, ◌≤◌}
use mathlib.Core.List.{List, map}
use mathlib.Core.Path.{◌≡◌, refl, sym, ap, ◌∙◌}
use mathlib.Core.Bool.{Bool, true, false, ◌&&◌, and_assoc}
use borrow.Author.Tests.{leb-true}
use native.Mathlib.Omega.{arith}
use Rattle.model.proofs.Forms.{every-form-fits}
use lib.{Dec.leb, ListN.length, ListN.take, ListN.length-map, Seq.length-take-le}
use Rattle.model.specs.{Limits.forms, Form.form_of, Text.between, Stored.key_capacity, Stored.command_capacity, Stored.message_capacity, Stored.letter_capacity, Stored.job_of}
use Rattle.model.specs.Accepted.{all}
use Rattle.model_record.specs.Record.{letter_fits, counts_fit, secrets_fit, command_fits, message_fits, passes, job_in}
use Rattle.model.specs.declared.{Form.Form, Command.Command, KeySlot.KeySlot, MessageLine.MessageLine}
use Rattle.model_record.specs.declared.JobRecord.{JobRecord}
use Rattle.read_record.specs.Read.{Hidden, Taken, Lines, Says}
use Rattle.model_text.proofs.TextLaws.{and_both, between_in}

-- the length of a struct's array of structs: what the search is handed of it is the length of the array's values
pub length-mapped : (X Y : Type 0) (f : X → Y) (l : List X) (n : ℕ) → length (map f l) ≡ n → length l ≡ n
length-mapped X Y f l n e = sym (length-map l f) ∙ e

-- ---- The counts

-- the tests one after the other, by the limits of the form
pub counts-test : (r : JobRecord) →
    let f = form_of r.form in
    leb 1 r.form && leb r.form forms && leb 1 r.keys && leb r.keys f.keys && leb r.secret_count r.keys && leb 1 r.command_count && leb r.command_count f.commands
    && leb r.message_count f.messages && leb 1 r.letter_count && leb r.letter_count f.letters
    ≡ counts_fit r
unfolding counts_fit
counts-test r = simp and_assoc

-- what they tell: no count is above its places
pub record Few (r : JobRecord) : Type 0 where
  pub some_keys : 1 ≤ r.keys
  pub form : r.form ≤ forms
  pub keys : r.keys ≤ key_capacity
  pub secrets : r.secret_count ≤ r.keys
  pub commands : r.command_count ≤ command_capacity
  pub messages : r.message_count ≤ message_capacity
  pub letters : r.letter_count ≤ letter_capacity

pub few : (r : JobRecord) → counts_fit r ≡ true → Few r
unfolding counts_fit
few r h =
    let f = form_of r.form in
    let fits = every-form-fits r.form in
    let form = and_both (between 1 forms r.form) _ h in
    let keys = and_both (between 1 f.keys r.keys) _ form.1 in
    let secrets = and_both (leb r.secret_count r.keys) _ keys.1 in
    let commands = and_both (between 1 f.commands r.command_count) _ secrets.1 in
    let messages = and_both (leb r.message_count f.messages) _ commands.1 in
    let k = between_in 1 f.keys r.keys keys.0 in
    record {
      some_keys = k.0;
      form = (between_in 1 forms r.form form.0).1;
      keys = omega (arith, k.1, fits.keys);
      secrets = leb-true _ _ secrets.0;
      commands = omega (arith, (between_in 1 f.commands r.command_count commands.0).1, fits.commands);
      messages = omega (arith, leb-true r.message_count f.messages messages.0, fits.messages);
      letters = omega (arith, (between_in 1 f.letters r.letter_count messages.1).1, fits.letters);
    }

-- ---- What passes, by the answers of the four readers: the counts, and then the parts from the first to the one that
-- ---- does not pass, or to the last

abbrev pub Secrets : JobRecord → Bool
Secrets r = secrets_fit (form_of r.form).owners r.keys (take r.secret_count r.secrets)

abbrev pub Commands : JobRecord → Bool
Commands r = all (command_fits r.keys r.command_count) (take r.command_count r.commands)

abbrev pub Messages : JobRecord → Bool
Messages r = all (message_fits r.keys) (take r.message_count r.messages)

abbrev pub Letters : JobRecord → Bool
Letters r = all (letter_fits (form_of r.form)) (take r.letter_count r.letters)

-- as the readers test them
pub secrets-by : (r : JobRecord) {f : Form} {b : Bool} → f ≡ form_of r.form → secrets_fit f.owners r.keys (take r.secret_count r.secrets) ≡ b → Secrets r ≡ b
secrets-by r e h = sym (ap (λ (f : Form). secrets_fit f.owners r.keys (take r.secret_count r.secrets)) e) ∙ h

pub commands-by : (r : JobRecord) {b : Bool} → r.command_count ≤ length r.commands
    → all (command_fits r.keys (length (take r.command_count r.commands))) (take r.command_count r.commands) ≡ b → Commands r ≡ b
commands-by r l h = sym (ap (λ (n : ℕ). all (command_fits r.keys n) (take r.command_count r.commands)) (length-take-le r.command_count r.commands l)) ∙ h

pub letters-by : (r : JobRecord) {f : Form} {fit b : Bool} → f ≡ form_of r.form → fit ≡ all (letter_fits f) (take r.letter_count r.letters) → fit ≡ b → Letters r ≡ b
letters-by r e q h = sym (q ∙ ap (λ (f : Form). all (letter_fits f) (take r.letter_count r.letters)) e) ∙ h

module _ (r : JobRecord) where
  pub counts-bad : counts_fit r ≡ false → passes r ≡ false
  unfolding passes
  counts-bad h = rw h

  module _ (counts : counts_fit r ≡ true) where
    pub secrets-bad : Secrets r ≡ false → passes r ≡ false
    unfolding passes
    secrets-bad h = rw (counts, h)

    module _ (secrets : Secrets r ≡ true) where
      pub commands-bad : Commands r ≡ false → passes r ≡ false
      unfolding passes
      commands-bad h = rw (counts, secrets, h)

      module _ (commands : Commands r ≡ true) where
        pub messages-bad : Messages r ≡ false → passes r ≡ false
        unfolding passes
        messages-bad h = rw (counts, secrets, commands, h)

        module _ (messages : Messages r ≡ true) where
          -- the letters decide
          pub letters-last : passes r ≡ Letters r
          unfolding passes
          letters-last = rw (counts, secrets, commands, messages)

-- ---- The job of what passes

module _ {r : JobRecord} {slots : List KeySlot} {commands : List Command} {messages : List MessageLine} where
  pub whole : (r.command_count ≤ length r.commands) × (r.message_count ≤ length r.messages) × (r.letter_count ≤ length r.letters)
      → Hidden r.keys (take r.secret_count r.secrets) slots → Taken (take r.command_count r.commands) commands → Lines r.keys (take r.message_count r.messages) messages
      → Says r (record {
        form = r.form;
        keys = r.keys;
        secrets = slots;
        command_count = r.command_count;
        commands = commands;
        message_count = r.message_count;
        messages = messages;
        turn_count = r.letter_count;
        turns = r.letters;
      })
  unfolding job_of job_in
  whole l h t m =
      let cs = length-take-le r.command_count r.commands l.0 in
      let ms = length-take-le r.message_count r.messages l.1 in
      record {
        stored = record { keys = h.room; commands = omega (arith, t.room, cs); messages = omega (arith, m.room, ms); turns = l.2 };
        says = rw (h.are, rw cs at t.are, rw ms at m.are) refl;
        sized = (l.0, l.2);
      }
