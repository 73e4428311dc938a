-- The examples hold: antt computes each.
use mathlib.Core.Path.{◌≡◌, refl}
use lib.ListN.{length}
use Rattle.model.specs.{Accepted.row_for, Accepted.has, Accepted.all, Written.write, SheetA.job1}
use Rattle.model.proofs.{Accepted.every-replicate, Accepted.accepted-sound}
use Rattle.model_run.proofs.{Examples.opened, Witness.bounds-reached}
use Rattle.model_text.specs.Text as Text
use Rattle.model.specs.Answer as Answer
use Rattle.model.specs.SheetTwo as SheetTwo
use Rattle.model.specs.Decimal as Decimal
use Rattle.model_sheet.specs.Sheet as Sheet
use Rattle.model_record.specs.Record as Record
use Rattle.model_record.specs.Entry as Entry
use Rattle.model_record.specs.Examples as Examples
use Rattle.model_record.specs.{Data.MessageRecord, Record.key_places, Record.message_places, Claims.Shaped}
use Rattle.model_record.specs.Examples.{zero_message, zeros, text_a, Worked, AllHold, list, of_two}
use Rattle.model_record.proofs.Places.{shaped-over}

-- opens every definition that saving and opening go through
unfoldable pub shown : Unit {0}
unfolding opened SheetTwo.sheet_two SheetTwo.with_messages row_for has write Answer.le32 Answer.all_le32 Decimal.whole
    Text.joined Text.unlines Text.named Text.pair_text Text.pairs Text.message_text Text.message_lines Text.operand_text Text.command_text Text.command_lines
    Sheet.head_lines Sheet.secret_text Sheet.secrets_from Sheet.secret_lines Sheet.turns_lines Sheet.sheet_text
    Record.said all Record.rising Record.secrets_fit Record.command_fits Record.entries_fit Record.message_fits Record.letter_fits Record.counts_fit Record.passes
    Record.enters_all Record.hides Record.keys_of Record.command_of Record.entries_of Record.job_in
    Record.records_from Record.command_record Record.entry_records Record.message_over Record.messages_over Record.record_over
    Entry.draft Entry.write_record Entry.read_entry
    Examples.zeros Examples.record_a Examples.record_two Examples.counted Examples.holding Examples.list Examples.of_two
shown = tt

-- a record of zeros has every place, so that what is claimed of such records is not empty
places : Shaped zeros
unfolding zeros
places =
    record {
      secrets = refl;
      commands = refl;
      messages = refl;
      entries = every-replicate (λ (m : MessageRecord). length m.entries ≡ key_places) message_places zero_message refl;
      letters = refl;
    }

-- the records of sheet A and of the sheet of two owners
pub worked : Worked
unfolding shown
worked =
    record {
      places = places;
      opens = refl;
      held = shaped-over job1 zeros (accepted-sound text_a job1 bounds-reached.accepts1) places;
      says = refl;
      text = refl;
      opens_two = refl;
      says_two = refl;
      text_two = refl;
    }

-- the records that differ from them
pub examples : AllHold list
unfolding shown
examples = (refl, (refl, (refl, (refl, (refl, (refl, (refl, (refl, (refl, (refl, (refl, (refl, (refl, (refl, (refl, (refl, (refl, (refl, tt))))))))))))))))))

pub of_two-hold : AllHold of_two
unfolding shown
of_two-hold = (refl, (refl, (refl, (refl, (refl, (refl, (refl, (refl, (refl, (refl, (refl, (refl, (refl, (refl, (refl, (refl, (refl, (refl, tt))))))))))))))))))
