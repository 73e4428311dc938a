-- The law of an operation that is done at i64 and then computed, at `quot_z`; a zero divisor by itself.
use mathlib.Core.Path.{◌∙◌}
use lib.Signed.{quot_z}
use Rattle.run_arith.proofs.Laws.{answered, quot_fits, div-by-zero, div-by}
use Rattle.run_arith.proofs.div.Goals as goal

pub returns-then-b-eq0 : goal.returns-then-b-eq0
returns-then-b-eq0 c = div-by-zero c.args.a c.args.b c.ranges.b c.if-b-eq0.true

pub returns : goal.returns
returns c =
    let f = c.ranges in
    answered quot_z f.a f.b c.from.ensures c.from-2.ensures (quot_fits f.a f.b) c.computed.ensures
    ∙ div-by c.args.a c.args.b f.b c.if-b-eq0.false
