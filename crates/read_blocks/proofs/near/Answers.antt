-- The two cases of the test.
use borrow.Author.{Tests.lt-ltb, Tests.le-ltb}
use Rattle.read_blocks.specs.Blocks.{near_by}
use Rattle.read_blocks.proofs.near.Goals as goal

pub returns-then-t-lt65536 : goal.returns-then-t-lt65536
unfolding near_by
returns-then-t-lt65536 c = rw (lt-ltb _ _ c.if-t-lt65536.true)

pub returns : goal.returns
unfolding near_by
returns c = rw (le-ltb _ _ c.if-t-lt65536.false)
