-- What a receive leaves in the message, as each level has it.
use Rattle.std.specs.Prelude.{ℕ, ◌≡◌, Bool, cond, List, take, replicate}
use Rattle.model_run.specs.{Message.shown, Message.fill}
use Rattle.model.specs.{Stored.key_capacity, Stored.first_of, Stored.side, Stored.absent_field}
use Rattle.model.specs.declared.{Entry.Entry, Entry.TheVariants.Absent, Field.Field, Key.Key, Level.Level}
use Rattle.model.specs.declared.Key.TheVariants.{Open, Secret}
use Rattle.model.specs.declared.Owner.{Owner}
use Rattle.model.specs.declared.Owner.TheVariants.{A, B}
use Rattle.model.specs.declared.Level.TheVariants.{Low, High}

abbrev pub field_of : Key → Entry → Field
field_of k e = record { low = shown Low k e; a = shown (High A) k e; b = shown (High B) k e }

-- whose a key is, where an open one counts as the first owner's
abbrev pub owner_of : Key → Owner
owner_of Open = A
owner_of (Secret o d) = o

-- the fields of a level after a receive that finds one more line es, or none
abbrev pub received_by : ℕ → List Key → Bool → List Entry → Level → List Entry
received_by n ks more es l = cond more (fill l ks es) (replicate n Absent)

-- so many fields of each level are as the receive leaves them
abbrev pub ReceivedTo : ℕ → ℕ → List Field → List Key → Bool → List Entry → Type 0
ReceivedTo k n m ks more es = (l : Level) → first_of (side l) k m ≡ take k (received_by n ks more es l)

-- every field is absent
abbrev pub Cleared : List Field → Type 0
Cleared m = m ≡ replicate key_capacity absent_field
