-- The name and the numbers so far are printed.
use Rattle.std.proofs.Common.{◌++◌, take}
use Rattle.std.specs.Io.KnownBytes.{Appends}
use Rattle.model.specs.Answer.{spaced}
use Rattle.terminal.proofs.print_numbers.Given as goal

abbrev pub invariant-loop-i : goal.invariant-loop-i
invariant-loop-i g l =
    Appends (g.W.Write.contents l.fn.to) (g.W.Write.contents l.to) (l.name ++ spaced (take l.i l.ns))
