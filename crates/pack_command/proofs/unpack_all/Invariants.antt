-- The first i commands are unpacked.
use Rattle.pack_command.specs.Pack.{Unpacked}
use Rattle.pack_command.proofs.unpack_all.Given as goal

abbrev pub invariant-loop-i : goal.invariant-loop-i
invariant-loop-i l = Unpacked l.held l.i l.commands
