-- The calls and the answer of a run that ends, over what the code has in hand.
use Rattle.std.specs.Prelude.{ℕ, ◌<◌, cond}
use lib.{Dec.eqb}
use Rattle.model.specs.declared.{Clock.Clock, Counts.Counts, Call.Call}
use Rattle.model.specs.declared.Call.TheVariants.{Receives, Sends}

-- the kind of call that a byte stands for, 0 for a receive
abbrev pub kind_of : ℕ → Call
kind_of b = cond (eqb b 0) Receives Sends

-- what is counted fits 32 bits
pub record CountsFit (clock : Clock) (bytes taken clamped : ℕ) : Type 0 where
  pub positions-fit : clock.positions < 4294967296
  pub steps-fit : clock.steps < 4294967296
  pub bytes_fit : bytes < 4294967296
  pub taken-fit : taken < 4294967296
  pub clamped-fit : clamped < 4294967296

abbrev pub counts_as : Clock → ℕ → ℕ → ℕ → Counts
counts_as c b t n = record { positions = c.positions; steps = c.steps; bytes = b; taken = t; clamped = n }
