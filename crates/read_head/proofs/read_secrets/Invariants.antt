-- The `secret` lines that are left, read into what the array holds, give what the whole phase gives.
use Rattle.std.proofs.Common.{◌-◌, length}
use Rattle.model.specs.{Text.bytes, Head.secret_line, Head.all_open, Stored.key_in}
use Rattle.read_line.proofs.Laws.{Going}
use Rattle.read_pair.specs.Pair.{by_key}
use Rattle.read_head.proofs.read_secrets.Given as goal

abbrev pub invariant-loop-v : goal.invariant-loop-v
invariant-loop-v l = Going (bytes "secret") (secret_line l.form l.keys) (all_open l.keys) l.s l.first l.line l.at (by_key key_in l.keys l.least l.slots)

abbrev pub decreases-loop-v : goal.decreases-loop-v
decreases-loop-v l = length l.s - l.at
