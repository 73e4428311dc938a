-- The examples hold: antt computes each.
use mathlib.Core.Path.{refl}
use Rattle.model.specs.{Phase.one_more, Placed.front, Decimal.digits, Decimal.width_to, Decimal.width, Decimal.natural, Decimal.whole, Written.write}
use Rattle.model.specs.Text.{bytes, class_of, split}
use Rattle.model.specs.Number.{digits as read_digits, natural as read_natural, within, up_to, from_one, negative, positive, number}
use Rattle.model_text.specs.Examples.{AllHold, times}
use Rattle.model_text.specs.Text.{joined, unlines, named, pair_text, pairs, message_text, message_lines}
use Rattle.model_log.specs.Log.{rows, clean, fields, key_numbers, header, field, entries, message_row, further, read_rows, read_log, write_log}
use Rattle.model_log.specs.Examples.{list}

-- opens every definition that an export goes through
unfoldable pub opened : Unit {0}
unfolding bytes class_of split read_digits read_natural within up_to from_one negative positive number
    digits width_to width natural whole one_more front write
    joined unlines named pair_text pairs message_text message_lines
    rows clean fields key_numbers header field entries message_row further read_rows read_log write_log
    times list
opened = tt

pub examples : AllHold list
unfolding opened
examples = ((refl, refl), ((refl, refl), ((refl, refl), ((refl, refl), ((refl, refl), ((refl, refl), ((refl, refl), ((refl, refl), ((refl, refl), ((refl, refl), ((refl, refl), ((refl, refl), ((refl, refl), ((refl, refl), ((refl, refl), ((refl, refl), ((refl, refl), ((refl, refl), ((refl, refl), ((refl, refl), ((refl, refl), ((refl, refl), ((refl, refl), ((refl, refl), tt))))))))))))))))))))))))
