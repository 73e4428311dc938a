-- Of the lines, those from one message on are still to put.
use native.Mathlib.Omega.{arith}
use Rattle.write_text.proofs.Laws.{putting-more, putting-room, putting-ends}
use Rattle.write_messages.proofs.Laws.{lines_more, lines_end}
use Rattle.write_messages.proofs.put_messages.Goals as goal

pub put_message-next-requires : goal.put_message-next-requires
put_message-next-requires c =
    let l = c.loop-line in
    (c.requires.0, putting-room _ _ c.requires.1 l.auto.out (rw (lines_more c.args.keys c.args.messages.now l.line-index (omega arith)) at l.invariant))

pub loop-line-preserved : goal.loop-line-preserved
loop-line-preserved c =
    let l = c.loop-line in
    putting-more _ _ (rw (lines_more c.args.keys c.args.messages.now l.line-index (omega arith)) at l.invariant) c.put_message-next.ensures

pub returns : goal.returns
returns c = putting-ends (lines_end c.args.keys c.args.messages.now c.loop-line.line-index (omega arith)) c.loop-line.invariant
