-- The examples hold: antt computes each.
use mathlib.Core.Path.{refl}
use Rattle.model.specs.{Placed.front, Decimal.digits, Decimal.width_to, Decimal.width, Decimal.natural, Decimal.whole, Written.write}
use Rattle.model.specs.Text.{bytes, class_of, same, split, init, lines, count}
use Rattle.model.specs.Number.{digits as read_digits, natural as read_natural, within, up_to, from_one, negative, positive, number}
use Rattle.model.specs.{Command.table, Command.operand, Command.operands, Command.row_of, Command.by_row, Sheet.forbidden_line, Sheet.closed, Accepted.row_for}
use Rattle.model_run.proofs.HonestExamples.{opened_plain}
use Rattle.model_text.specs.Examples.{AllHold, times}
use Rattle.model_text.specs.Text.{joined, unlines, named, operand_text, command_text, command_lines}
use Rattle.model_blocks.specs.Block.{places, translate, ◌then◌}
use Rattle.model_blocks.specs.Dialect.{block_word, own_command, tested, alone, on_opening, on_else, on_end, line_by, block_line, read_from, read_blocks, write_blocks}
use Rattle.model_blocks.specs.Meaning.{next_step, placed_at, obeyed, block_step, block_at, block_stopped, block_call}
use Rattle.model_blocks.specs.Examples.{list, AllGo, courses}

-- opens every definition that a text goes through
unfoldable pub opened : Unit {0}
unfolding bytes class_of same split init lines count read_digits read_natural within up_to from_one negative positive number
    table operand operands row_of by_row forbidden_line closed row_for
    digits width_to width natural whole front write
    joined unlines named operand_text command_text command_lines
    places translate ◌then◌
    block_word own_command tested alone on_opening on_else on_end line_by block_line read_from read_blocks write_blocks
    times list
opened = tt

pub examples : AllHold list
unfolding opened
examples = ((refl, refl), ((refl, refl), ((refl, refl), ((refl, refl), ((refl, refl), ((refl, refl), ((refl, refl), ((refl, refl), ((refl, refl), ((refl, refl), ((refl, refl), ((refl, refl), ((refl, refl), ((refl, refl), ((refl, refl), ((refl, refl), ((refl, refl), ((refl, refl), ((refl, refl), ((refl, refl), ((refl, refl), ((refl, refl), ((refl, refl), ((refl, refl), ((refl, refl), ((refl, refl), ((refl, refl), ((refl, refl), ((refl, refl), ((refl, refl), ((refl, refl), ((refl, refl), ((refl, refl), ((refl, refl), ((refl, refl), ((refl, refl), ((refl, refl), ((refl, refl), ((refl, refl), ((refl, refl), ((refl, refl), ((refl, refl), tt))))))))))))))))))))))))))))))))))))))))))

pub courses-go : AllGo courses
unfolding opened opened_plain next_step placed_at obeyed block_step block_at block_stopped block_call courses
courses-go = ((refl, refl, refl, refl, refl, refl, refl), ((refl, refl, refl, refl, refl, refl, refl), ((refl, refl, refl, refl, refl, refl, refl), ((refl, refl, refl, refl, refl, refl, refl), ((refl, refl, refl, refl, refl, refl, refl), tt)))))
