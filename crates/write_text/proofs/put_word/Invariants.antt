-- Of the word, the bytes from one on are still to put.
use Prim.Native.Nat.{◌+◌}
use lib.ListN.{drop}
use Rattle.write_text.proofs.Laws.{Putting}
use Rattle.write_text.proofs.put_word.Given as goal

abbrev pub invariant-loop-i : goal.invariant-loop-i
invariant-loop-i l = Putting l.initial.out l.at l.word l.out (l.at + l.i) (drop l.i l.word)
