-- Of the letters, those from one turn on are still to put.
use lib.ListN.{drop}
use Rattle.write_text.proofs.Laws.{Putting}
use Rattle.write_sheet.proofs.Laws.{letters}
use Rattle.write_sheet.proofs.put_letters.Given as goal

abbrev pub invariant-loop-turn : goal.invariant-loop-turn
invariant-loop-turn l = Putting l.initial.out l.at (letters l.form l.turns) l.out l.next (drop l.turn-index (letters l.form l.turns))
