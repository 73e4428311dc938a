-- The job's record and the `Opening` that a call returns, as `Lent.antt` takes them, and what is known of its machine
-- value.
--     after_is         the record in it is related to its machine value.        number_fits      the number is a `u32`
--     in_memory        every record in memory has its places: what a record owns says how long its arrays are
-- Assumes nothing.
use Prim.Native.Nat.{◌<◌, ◌^◌}
use mathlib.Core.Path.{◌≡◌}
use mathlib.Core.List.{List, [], ◌∷◌}
use lib.ListN.{length}
use mir.Val.{Val}
use denote.Array.{each}
use denote.Laws.{Is}
use denote.Shadow.{shadow}
use denote.Struct.Laws as LL
use Rattle.model.specs.Accepted.{Every}
use Rattle.model_record.specs.declared.{MessageRecord.MessageRecord, JobRecord.JobRecord}
use Rattle.model_record.specs.{Record.key_places, Claims.Shaped}
use Rattle.model_record.specs.contracts.MessageRecord as M
use Rattle.model_record.specs.contracts.JobRecord as J
use Rattle.model_record.proofs.JobRecord.TheLaws as J'
use Rattle.enter_record.specs.declared.Opening.{Opening}
use Rattle.enter_record.specs.contracts.Opening as S
use Rattle.enter_record.proofs.Opening.TheLaws as S'
use Rattle.lent.proofs.Lent.{Data, Related}

abbrev pub job : Data
job = record { type = J.the_type; laws = J'.the_laws; plain = J'.the_plain; copy = J'.the_copy }

abbrev pub step : Data
step = record { type = S.the_type; laws = S'.the_laws; plain = S'.the_plain; copy = S'.the_copy }

pub after_is : (r : Opening) (w : Val) → Is S.the_row r (w ∷ []) → Related job r.after
after_is r w is = (LL.owed S.the_type S'.the_laws r _ is).0

pub number_fits : (r : Opening) (w : Val) → Is S.the_row r (w ∷ []) → r.number < 2 ^ 32
number_fits r w is = (LL.owed S.the_type S'.the_laws r _ is).1.0.1

-- the places of each message
pub messages-in : (ms : List MessageRecord) (us : List Val) → shadow (each M.the_row.Denot M.the_row.own_val ms us)
    → Every (λ (m : MessageRecord). length m.entries ≡ key_places) ms
messages-in [] us s = tt
messages-in (m ∷ ms) [] s = absurd s
messages-in (m ∷ ms) (u ∷ us) s = (s.0.1.1.1.0.1.0.1, messages-in ms us s.1)

-- behind the struct's machine values and their spelling (`.1 .1`) the relation has a part for each field in the order
-- of the source; an array's has its length at `.1 .0 .1`, and at `.1 .1` its elements' relations
pub in_memory : (h : JobRecord) → Related job h → Shaped h
in_memory h is = record {
  secrets = is.1.1.1.1.1.0.1.0.1;
  commands = is.1.1.1.1.1.1.1.0.1.0.1;
  messages = is.1.1.1.1.1.1.1.1.1.0.1.0.1;
  entries = messages-in h.messages _ is.1.1.1.1.1.1.1.1.1.0.1.1;
  letters = is.1.1.1.1.1.1.1.1.1.1.1.0.1.0.1;
}
