-- Of what follows a word, the operands from one on are still to put.
use native.Mathlib.Omega.{arith}
use Rattle.write_text.proofs.Laws.{putting-more, putting-room, putting-ends}
use Rattle.write_commands.proofs.Laws.{operands_more, operands_end}
use Rattle.write_commands.proofs.put_operands.Goals as goal

pub put_operand-next-requires : goal.put_operand-next-requires
put_operand-next-requires c =
    let l = c.loop-o in
    putting-room _ _ c.requires l.auto.out (rw (operands_more c.args.c c.args.operands.now l.o-index (omega arith)) at l.invariant)

pub loop-o-preserved : goal.loop-o-preserved
loop-o-preserved c =
    let l = c.loop-o in
    putting-more _ _ (rw (operands_more c.args.c c.args.operands.now l.o-index (omega arith)) at l.invariant) c.put_operand-next.ensures

pub returns : goal.returns
returns c = putting-ends (operands_end c.args.c c.args.operands.now c.loop-o.o-index (omega arith)) c.loop-o.invariant
