-- Two parts have one space: the first one, with none after it.
use Rattle.std.proofs.Common.{sym}
use Rattle.read_command.proofs.Laws.{halves-few, halves-many, halves-is}
use Rattle.read_command.proofs.halves.Goals as goal

pub returns-then-t-f : goal.returns-then-t-f
returns-then-t-f c = sym (halves-few _ _ c.find_byte-f.ensures c.if-t-f.true)

pub returns-then-second-find_byte : goal.returns-then-second-find_byte
returns-then-second-find_byte c = sym (halves-is _ _ c.find_byte-f.ensures c.if-t-f.false _ c.find_byte.ensures c.if-second-find_byte.true)

pub returns : goal.returns
returns c = sym (halves-many _ _ c.find_byte-f.ensures c.if-t-f.false _ c.find_byte.ensures c.if-second-find_byte.false)
