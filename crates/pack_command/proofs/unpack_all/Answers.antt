-- The first i commands are unpacked.
use Rattle.pack_command.proofs.Laws.{unpacked-more}
use Rattle.pack_command.proofs.unpack_all.Goals as goal

pub loop-i-preserved : goal.loop-i-preserved
loop-i-preserved c = unpacked-more _ c.loop-i.invariant c.loop-i-test.true c.requires c.unpack.ensures
