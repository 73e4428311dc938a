-- A job: what an accepted sheet says.
use Rattle.std.specs.Prelude.{ℕ, List}
use Rattle.model.specs.Data.{Entry, Key, Command, Level}

-- The number of its form, at which a run does not look; the keys 0 to K-1, each open or secret with its owner and its
-- dummy; the commands, numbered from 0; the message lines, each with an entry for every key; the letters of `turns`
pub record Job : Type 0 where
  pub form : ℕ
  pub keys : List Key
  pub commands : List Command
  pub messages : List (List Entry)
  pub turns : List Level
