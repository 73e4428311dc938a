-- The tests one after the other.
use Rattle.read_record.proofs.Whole.{counts-test}
use Rattle.read_record.proofs.counts_fit.Goals as goal

pub returns : goal.returns
returns c = rw c.of-form.ensures (counts-test c.args.r.now)
