-- Of the word, the bytes from one on are still to put.
use mathlib.Core.Path.{refl}
use native.Mathlib.Omega.{arith}
use lib.ListN.{drop_of_length-le}
use Rattle.write_text.proofs.Laws.{putting-begins, putting-more, putting-room, putting-ends, word_more}
use Rattle.write_text.proofs.put_word.Goals as goal

pub put_byte-requires : goal.put_byte-requires
put_byte-requires c = putting-room _ _ c.requires c.loop-i.auto.out (rw (word_more c.args.word.now c.loop-i.i c.loop-i-test.true) at c.loop-i.invariant)

-- the byte is put, and those behind it are left
pub loop-i-preserved : goal.loop-i-preserved
loop-i-preserved c =
    let l = c.loop-i in
    let h = c.put_byte.ensures in
    putting-more _ _ (rw (word_more c.args.word.now l.i c.loop-i-test.true) at l.invariant) (record { memory = h.memory; next = omega arith })

pub returns : goal.returns
returns c =
    let p = putting-ends (drop_of_length-le c.args.word.now c.loop-i-test.false) c.loop-i.invariant in
    record { memory = p.memory; next = refl }
