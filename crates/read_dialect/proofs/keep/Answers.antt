-- Behind the end of the memory nothing is stored.
use Rattle.std.proofs.Common.{ℕ, set, sym, ap}
use lib.Seq.{set_out}
use Rattle.read_dialect.proofs.keep.Goals as goal

pub returns-then-at-out : goal.returns-then-at-out
returns-then-at-out c = let a = c.args in ap (λ (x : ℕ). set a.out.now a.at x) c.pack.ensures

pub returns-else-at-out : goal.returns-else-at-out
returns-else-at-out c = sym (set_out _ _ _ c.if-at-out.false)
