-- The letters of the word, and the operands behind them.
use mathlib.Core.Path.{◌≡◌}
use mathlib.Core.List.{◌++◌}
use Rattle.model.specs.Text.{space}
use Rattle.model_text.specs.Text.{prefixed, operand_texts, command_text}
use Rattle.write_text.proofs.Laws.{put_then, room_first, room_next}
use Rattle.write_commands.proofs.Laws.{text_parts}
use Rattle.write_commands.proofs.put_text.Goals as goal
use Rattle.write_commands.proofs.put_text.Goals.{After-wording_of}

text : (c : After-wording_of) → command_text c.args.c ≡ c.wording_of.result.0.now ++ prefixed space (operand_texts c.wording_of.result.1.now c.args.c)
text c = text_parts c.args.c _ _ c.wording_of.ensures.word c.wording_of.ensures.operands

pub put_word-next-requires : goal.put_word-next-requires
put_word-next-requires c = room_first _ _ (rw (text (goal.at.put_word-next-requires c).After-wording_of) at c.requires)

pub put_operands-requires : goal.put_operands-requires
put_operands-requires c = room_next _ _ (rw (text (goal.at.put_operands-requires c).After-wording_of) at c.requires) c.put_word-next.ensures

pub returns : goal.returns
returns c = rw (text (goal.at.returns c).After-wording_of) (put_then c.put_word-next.ensures c.put_operands.ensures)
