-- The rows that are left, behind the messages that the array holds, give what all rows give.
use Rattle.std.proofs.Common.{◌≡◌, ◌+◌, ◌≤◌, [], length}
use Rattle.model.specs.{Limits.most_messages, Stored.message_capacity}
use Rattle.model_log.specs.Log.{rows, further}
use Rattle.read_log.proofs.Further.{from}
use Rattle.read_log.proofs.read_further.Given as goal

abbrev pub invariant-loop-left : goal.invariant-loop-left
invariant-loop-left l =
    record {
      few : l.count ≤ most_messages;
      number : l.row ≡ l.count + 2;
      all : length l.messages ≡ message_capacity;
      same : from l.keys l.row l.left l.count l.messages ≡ further l.keys 2 [] (rows l.s);
    }

abbrev pub decreases-loop-left : goal.decreases-loop-left
decreases-loop-left l = length l.left
