-- What is left of the text falls at each call, by a byte at least from a line to the next; on one line the calls go
-- from a block to what stands in it, and from there to a command with blocks in it or to what follows an `else`.
use Rattle.std.proofs.Common.{◌≡◌, ◌+◌, ◌-◌, ◌*◌, ℕ, length}
use Rattle.read_blocks.specs.Blocks.{Goes}
use Rattle.read_blocks.proofs.+blocks.Given as goal

-- what is left of the text from a place on, in steps of four, so that the calls on one line fall too
abbrev pub left : ℕ → ℕ → ℕ → ℕ
left long at more = 4 * (long - at) + more

abbrev pub decreases-read_block : goal.decreases-read_block
decreases-read_block l = left (length l.s.now) l.from.at 3

abbrev pub decreases-read_item : goal.decreases-read_item
decreases-read_item l = left (length l.s.now) l.p.at 2

abbrev pub decreases-read_nested : goal.decreases-read_nested
decreases-read_nested l = left (length l.s.now) l.from.at 1

abbrev pub decreases-read_other : goal.decreases-read_other
decreases-read_other l = left (length l.s.now) l.p.at 1

-- the lines of a block so far
abbrev pub invariant-read_block-loop-q : goal.invariant-read_block-loop-q
invariant-read_block-loop-q l = Goes l.keys l.depth l.s l.initial.p l.p l.initial.out l.out × (length l.out ≡ length l.initial.out)

abbrev pub decreases-read_block-loop-q : goal.decreases-read_block-loop-q
decreases-read_block-loop-q l = length l.s - l.p.at
