-- The examples hold: antt computes each.
use mathlib.Core.Path.{refl}
use Rattle.model.specs.{Command.table, Accepted.row_for, Accepted.all, Placed.front, Written.write, Written.text_entry, Answer.entered, Answer.le32, Answer.all_le32}
use Rattle.model.specs.Decimal.{digits, width_to, width, natural, whole}
use Rattle.model_run.proofs.Examples.{opened}
use Rattle.model_text.specs.Text.{joined, unlines, named, pair_text, pairs, message_text, message_lines, operand_text, command_text, command_lines}
use Rattle.model_sheet.specs.Sheet.{head_lines, secret_text, secrets_from, secret_lines, turns_lines, sheet_text}
use Rattle.model_change.specs.Change.{change_sheet}
use Rattle.model_forms.specs.Forms.{turn, turn_sheet, turn_entry}
use Rattle.model_forms.specs.Examples.{new, small, Examples}

pub examples : Examples
unfolding opened table row_for front write digits width_to width natural whole secrets_from secret_text
    joined unlines named pair_text pairs message_text message_lines operand_text command_text command_lines
    head_lines secret_lines turns_lines sheet_text change_sheet all turn turn_sheet turn_entry text_entry entered le32 all_le32 new small
examples =
    record {
      there = refl;
      back = refl;
      less = refl;
      less_back = refl;
      none = refl;
      more = refl;
      bare = refl;
      bare_back = refl;
      two = refl;
      two_less = refl;
      two_back = refl;
      has1 = refl;
      has2 = refl;
      owned_b = refl;
      turn_b = refl;
      first_turn_b = refl;
      first_owned_b = refl;
      last_owned_b = refl;
      owned_b2 = refl;
      turn_b2 = refl;
      empty = refl;
      behind = refl;
      third = refl;
      letter = refl;
      letter_back = refl;
      owner = refl;
      owned1 = refl;
      entry = refl;
      refusal = refl;
      sized = refl;
    }
