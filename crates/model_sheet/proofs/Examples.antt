-- The examples hold: antt computes each.
use mathlib.Core.Path.{refl}
use Rattle.model.specs.{Text.bytes, Command.table, Accepted.row_for, SheetA.sheet_a, Form.form_of}
use Rattle.model.specs.{SheetTwo.sheet_two, SheetTwo.with_messages}
use Rattle.model.specs.Decimal.{digits, width_to, width, natural, whole}
use Rattle.model_text.specs.Text.{joined, unlines, named, pair_text, pairs, message_text, message_lines, operand_text, command_text, command_lines}
use Rattle.model_sheet.specs.Sheet.{head_lines, secret_text, secrets_from, secret_lines, turns_lines, sheet_text}
use Rattle.model_sheet.specs.Examples.{AllHold, job_empty, list}

pub examples : AllHold list
unfolding bytes table row_for sheet_a digits width_to width natural whole secrets_from secret_text form_of sheet_two with_messages
    joined unlines named pair_text pairs message_text message_lines operand_text command_text command_lines
    head_lines secret_lines turns_lines sheet_text job_empty list
examples = (refl, (refl, (refl, tt)))
