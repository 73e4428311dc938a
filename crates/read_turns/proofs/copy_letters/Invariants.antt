-- The letters that are left, after those that are copied, give what all of them give, as long as all are known.
use Rattle.std.proofs.Common.{◌≡◌, length, map, take, drop}
use Rattle.model.specs.{Stored.letter_capacity, Stored.level_of, Turns.letters, Turns.turns_line}
use Rattle.read_turns.proofs.Laws.{onto, sofar}
use Rattle.read_turns.proofs.copy_letters.Given as goal

abbrev pub invariant-loop-i : goal.invariant-loop-i
invariant-loop-i l = (length l.letters ≡ letter_capacity) × (sofar l.known (onto (map level_of (take l.i l.letters)) (letters l.form (drop l.i l.s))) ≡ turns_line l.form l.s)
