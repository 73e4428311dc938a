-- What reading a piece of text gives: a value, or the number of the refusal that comes first.
use Rattle.std.specs.Prelude.{Bool, true, false, ℕ}

pub data Parsed (A : Type 0) : Type 0 where
  got : A → Parsed A
  refused : ℕ → Parsed A

infixl 10 ◌>>=◌
infixl 10 ◌>>◌
-- the first refusal stands
abbrev pub ◌>>=◌ : {A B : Type 0} → Parsed A → (A → Parsed B) → Parsed B
◌>>=◌ (got a) f = f a
◌>>=◌ (refused n) f = refused n

abbrev pub ◌>>◌ : {A B : Type 0} → Parsed A → Parsed B → Parsed B
◌>>◌ (got a) r = r
◌>>◌ (refused n) r = refused n

-- passes where the test holds, and else is the refusal n
abbrev pub need : Bool → ℕ → Parsed (Unit {0})
need true n = got tt
need false n = refused n
