-- A space, and the operand as a number.
use Rattle.write_text.proofs.Laws.{put_then}
use Rattle.write_commands.proofs.put_operand.Goals as goal

pub returns : goal.returns
returns c = put_then c.put_byte-value.ensures (rw c.value_of-x.ensures at c.put_signed.ensures)
