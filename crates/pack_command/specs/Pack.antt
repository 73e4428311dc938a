-- A command as one number.
use Rattle.std.specs.Prelude.{ℕ, ◌+◌, ◌-◌, ◌*◌, ◌<◌, ◌≡◌, List, map}
use lib.{IntN.ℤ, IntN.pos, IntN.negsuc, ListN.length, ListN.take}
use Rattle.model.specs.{Accepted.place_of, Accepted.InRange, Accepted.Every, Stored.command_capacity}
use Rattle.model.specs.declared.Command.{Command}

-- a number of the full range as one that is not negative
abbrev pub shifted : ℤ → ℕ
shifted (pos n) = 2147483648 + n
shifted (negsuc n) = 2147483647 - n

-- The word's place in the table, v, w, k, t and n
unfoldable pub command_number : Command → ℕ
command_number c = ((((place_of c.op * 8 + c.v) * 8 + c.w) * 16 + c.k) * 65536 + c.t) * 4294967296 + shifted c.n

-- what the number has room for
pub record Packable (c : Command) : Type 0 where
  pub v : c.v < 8
  pub w : c.w < 8
  pub k : c.k < 16
  pub t : c.t < 65536
  pub n : InRange c.n

-- the first i of the commands whose numbers are held
pub record Unpacked (held : List ℕ) (i : ℕ) (commands : List Command) : Type 0 where
  pub size : length commands ≡ command_capacity
  pub are : (cs : List Command) → Every Packable cs → held ≡ map command_number cs → take i commands ≡ take i cs
