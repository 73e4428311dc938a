-- The parts that are left, entered into what the array holds, give what the whole line gives.
use Rattle.std.proofs.Common.{◌≡◌, length, drop}
use Rattle.model.specs.{Text.comma, Text.split, Messages.parts, Messages.message, Stored.entry_in}
use Rattle.read_pair.specs.Pair.{by_key}
use Rattle.read_messages.proofs.read_message.Given as goal

abbrev pub invariant-loop-part : goal.invariant-loop-part
invariant-loop-part l = parts l.keys (by_key entry_in l.keys l.next l.slots) (drop (length l.yielded) (split comma l.s)) ≡ message l.keys l.s
