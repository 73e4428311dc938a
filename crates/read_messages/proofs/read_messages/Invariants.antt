-- The `msg` lines that are left, added to those that the array holds, give what the whole phase gives.
use Rattle.std.proofs.Common.{◌≡◌, ◌≤◌, ◌-◌, [], map, length, take}
use Rattle.model.specs.{Text.bytes, Phase.one_more, Messages.message_line, Stored.message_capacity, Stored.entries_in}
use Rattle.read_line.proofs.Laws.{Going}
use Rattle.read_messages.proofs.read_messages.Given as goal

abbrev pub invariant-loop-v : goal.invariant-loop-v
invariant-loop-v l =
    record {
      going : Going (bytes "msg") (one_more l.form.messages (message_line l.keys)) [] l.s l.first l.line l.at (map (entries_in l.keys) (take l.count l.messages));
      few : l.count ≤ l.form.messages;
      all : length l.messages ≡ message_capacity;
    }

abbrev pub decreases-loop-v : goal.decreases-loop-v
decreases-loop-v l = length l.s - l.at
