-- What the readers of an export answer.
use Rattle.std.specs.Prelude.{ℕ, ◌+◌, ◌≤◌, ◌<◌, ◌≡◌, cond, ◌&&◌, List, [], ◌∷◌, Result, Ok, Err, IfOk}
use lib.{Dec.eqb, ListN.length, ListN.take, ListN.drop}
use Rattle.model.specs.{Parsed.Parsed, Parsed.got, Parsed.refused, Refusal.number_of, Refusal.parsed_by, Text.comma, Text.line_feed, Text.split, Accepted.Every, Stored.entries_in, Stored.message_capacity}
use Rattle.model.specs.declared.{Fault.Fault, MessageLine.MessageLine, Refusal.Refusal}
use Rattle.model_log.specs.Log as Model
use Rattle.model_log.specs.Log.{Row, rows, carriage_return, spoils, key_count, key_numbers, message_row, Logged, messages}
use Rattle.read_messages.specs.Messages.{messages_in}
use Rattle.read_log.specs.declared.Keys.{Keys}

-- The end of the first row and the count of its fields, found byte by byte: i bytes are passed, and n fields are begun
unfoldable pub scan : ℕ → ℕ → List ℕ → Parsed (ℕ × ℕ)
scan i n [] = refused 41
scan i n (b ∷ []) = refused 41
scan i n (b ∷ c ∷ bs) =
    cond (eqb b carriage_return && eqb c line_feed) (got (i, n))
    (cond (spoils b) (refused 41) (scan (i + 1) (cond (eqb b comma) (n + 1) n) (c ∷ bs)))

-- every one is a key
abbrev pub KeysHeld : List ℕ → Type 0
KeysHeld ks = Every (λ (k : ℕ). k < key_count) ks

-- the keys that count
abbrev pub keys_in : Keys → List ℕ
keys_in k = take k.count k.keys

-- the keys of a first row with the text t
pub record KeysRead (t : List ℕ) (r : Result Keys Refusal) : Type 0 where
  pub read : parsed_by keys_in r ≡ key_numbers 0 (split comma t)
  pub held : IfOk r (λ k. KeysHeld (keys_in k) × (k.count ≤ length k.keys))

-- The message of the first row of a text, where the keys are ks; where it was read, the next row begins behind it
pub record RowTaken (ks t : List ℕ) (r : Result (MessageLine × ℕ) Refusal) : Type 0 where
  pub first : Row
  pub others : List Row
  pub split : rows t ≡ first ∷ others
  pub read : parsed_by (λ x. entries_in key_count x.0) r ≡ message_row ks first
  pub ahead : IfOk r (λ x. (others ≡ rows (drop x.1 t)) × (1 ≤ x.1) × (x.1 ≤ length t))

-- the messages that count at the front of ms, or a refusal with its row
abbrev pub logged_as : List MessageLine → Result ℕ Fault → Logged
logged_as ms (Ok n) = messages (messages_in key_count ms n)
logged_as ms (Err f) = Model.refused (number_of f.refusal) f.line

pub record LogRead (wanted : Logged) (r : Result ℕ Fault) (ms : List MessageLine) : Type 0 where
  pub read : logged_as ms r ≡ wanted
  pub few : IfOk r (λ n. n ≤ message_capacity)
