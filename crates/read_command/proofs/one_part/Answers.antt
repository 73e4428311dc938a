-- One part has no space, and is read whole.
use Rattle.std.proofs.Common.{◌∙◌, sym}
use Rattle.read_command.proofs.Laws.{one-many, one-is}
use Rattle.read_command.proofs.one_part.Goals as goal

pub returns-then-find_byte-t : goal.returns-then-find_byte-t
returns-then-find_byte-t c = sym (one-many _ _ _ c.find_byte.ensures c.if-find_byte-t.true)

pub returns : goal.returns
returns c = c.up_to.ensures ∙ sym (one-is _ _ _ c.find_byte.ensures c.if-find_byte-t.false)
