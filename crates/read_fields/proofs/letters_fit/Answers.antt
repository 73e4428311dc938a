-- Whether the letters so far pass, and those that are left, is whether all of them do.
use native.Mathlib.{Omega.arith}
use lib.ListN.{drop_of_length-le}
use Rattle.read_fields.proofs.Laws.{letter-among, told-next}
use Rattle.model_text.proofs.Tests.{told-end}
use Rattle.read_fields.proofs.letters_fit.Goals as goal

pub loop-b-preserved : goal.loop-b-preserved
loop-b-preserved c =
    let h = c.loop-b.invariant in
    (told-next h.0 0 c.loop-b-test.true (letter-among _ _ _ h.1), h.1)

pub returns : goal.returns
returns c = told-end c.loop-b.invariant.0 (drop_of_length-le c.args.letters.now (omega (arith, c.loop-b-test.false)))
