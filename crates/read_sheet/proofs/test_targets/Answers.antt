-- The two cases of the first target that exceeds the count.
use Rattle.std.proofs.Common.{◌≡◌, sym}
use Rattle.read_program.proofs.Laws.{first-far}
use Rattle.read_sheet.proofs.test_targets.Goals as goal

pub returns-in-None : goal.returns-in-None
returns-in-None c = let h = first-far c.args.commands.now _ c.in-None.ensures in record { reading = λ j. sym (h.reading c.args.top j) }

pub returns-in-Some : goal.returns-in-Some
returns-in-Some c = let h = first-far c.args.commands.now _ c.in-Some.ensures in record { reading = λ j. sym (h.reading c.args.top j) }
