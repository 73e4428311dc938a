-- Of the lines, those from one command on are still to put.
use native.Mathlib.Omega.{arith}
use Rattle.write_text.proofs.Laws.{putting-more, putting-room, putting-ends}
use Rattle.write_commands.proofs.Laws.{commands_more, commands_end}
use Rattle.write_commands.proofs.put_commands.Goals as goal

pub put_command-next-requires : goal.put_command-next-requires
put_command-next-requires c =
    let l = c.loop-c in
    putting-room _ _ c.requires l.auto.out (rw (commands_more c.args.commands.now l.c-index (omega arith)) at l.invariant)

pub loop-c-preserved : goal.loop-c-preserved
loop-c-preserved c =
    let l = c.loop-c in
    putting-more _ _ (rw (commands_more c.args.commands.now l.c-index (omega arith)) at l.invariant) c.put_command-next.ensures

pub returns : goal.returns
returns c = putting-ends (commands_end c.args.commands.now c.loop-c.c-index (omega arith)) c.loop-c.invariant
