-- Of the letters, those from one turn on are still to put.
use native.Mathlib.Omega.{arith}
use mathlib.Core.List.{[], ◌∷◌, ◌++◌}
use lib.ListN.{drop}
use Prim.Native.Nat.{◌+◌}
use Rattle.write_text.proofs.Laws.{Putting, putting-more, putting-room, putting-ends}
use Rattle.write_sheet.proofs.Laws.{letters, letters_more, letters_end}
use Rattle.write_sheet.proofs.put_letters.Goals as goal
use Rattle.write_sheet.proofs.put_letters.Goals.{After-letter_of}

-- the letter is put, and those behind it are left
rest : (c : After-letter_of) →
    let a = c.args in
    let l = c.loop-turn in
    Putting a.out.now a.at (letters a.form a.turns.now) l.out l.next ((c.letter_of.result ∷ []) ++ drop (l.turn-index + 1) (letters a.form a.turns.now))
rest c = let l = c.loop-turn in rw (letters_more c.args.form c.args.turns.now l.turn-index (omega arith), ← c.letter_of.ensures) at l.invariant

pub put_byte-next-requires : goal.put_byte-next-requires
put_byte-next-requires c = putting-room _ _ c.requires c.loop-turn.auto.out (rest (goal.at.put_byte-next-requires c).After-letter_of)

pub loop-turn-preserved : goal.loop-turn-preserved
loop-turn-preserved c = putting-more _ _ (rest (goal.at.loop-turn-preserved c).After-letter_of) c.put_byte-next.ensures

pub returns : goal.returns
returns c = putting-ends (letters_end c.args.form c.args.turns.now c.loop-turn.turn-index (omega arith)) c.loop-turn.invariant
