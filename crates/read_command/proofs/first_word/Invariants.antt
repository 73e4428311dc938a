-- The bytes before i hold no space, and make a where they are not too many.
use Rattle.std.proofs.Common.{◌≡◌, ◌+◌, ◌*◌, ◌<◌, ◌≤◌, drop}
use Rattle.model.specs.Text.{find, space}
use Rattle.read_command.specs.Code.{longest_word, six_bytes}
use Rattle.read_command.proofs.Words.{Packed}
use Rattle.read_command.proofs.first_word.Given as goal

abbrev pub invariant-loop-i : goal.invariant-loop-i
invariant-loop-i l = (l.a < six_bytes * 256) × (l.i + find space (drop l.i l.s) ≡ find space l.s) × (l.i ≤ longest_word → Packed l.s l.i l.a)
