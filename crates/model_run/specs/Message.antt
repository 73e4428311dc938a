-- The two calls: what a `receive` and a `send` do to the message and the output.
use Rattle.std.specs.Prelude.{List, [], ◌∷◌, get_or, drop, length, ℕ, suc}
use Rattle.model_run.specs.{Process.absent_fields, Process.refill, Line.Sent, Line.line_length, State.each, State.takes, State.sends, State.State, State.fields_of}
use Rattle.model_run.specs.{State.with_outgoing}
use Rattle.model_run.specs.Data.{Entry, Absent, Number, Key, Open, Secret, Level, Low, High, A, B}

-- ---- `receive`

-- "at an open key both fields are the entry or absent. At a secret key the low field is the dummy, whether or not the
-- line has that key, and the high field is the entry or absent." Document 02, Note 8: "At each message line A's sees
-- A's entries and B's dummies, whether or not the line has those keys, and B's the reverse"
unfoldable pub shown : Level → Key → Entry → Entry
shown l Open e = e
shown Low (Secret o d) e = Number d
shown (High A) (Secret A d) e = e
shown (High A) (Secret B d) e = Number d
shown (High B) (Secret A d) e = Number d
shown (High B) (Secret B d) e = e

-- the fields of a level as a message line fills them, key by key
unfoldable pub fill : Level → List Key → List Entry → List Entry
fill l [] es = []
fill l (k ∷ ks) es = shown l k (get_or es 0 Absent) ∷ fill l ks (drop 1 es)

-- "`receive` takes the next message line and fills all fields"; "With no line left, every field becomes absent.";
-- Note 8: "with no line left every field becomes absent, as before"
unfoldable pub received : List Key → List (List Entry) → Level → List Entry
received ks [] l = absent_fields (length ks)
received ks (line ∷ rest) l = fill l ks line

unfoldable pub receive : List Key → State → State
receive ks s =
    record {
      processes = each (λ l. refill (received ks s.incoming.rest l)) s.processes;
      kinds = s.kinds;
      incoming = takes s.incoming;
      outgoing = s.outgoing;
      clock = s.clock;
    }

-- ---- `send`

-- "open keys from the low fields, secret keys from the high fields"; Note 8: "A secret column comes from its owner's
-- execution."
unfoldable pub source : Key → Level
source Open = Low
source (Secret o d) = High o

-- the columns of the keys from number i on, each from the fields of its level
unfoldable pub columns : ℕ → List Key → (Level → List Entry) → List Entry
columns i [] f = []
columns i (k ∷ ks) f = get_or (f (source k)) i Absent ∷ columns (suc i) ks f

-- the line that a send makes of the message
unfoldable pub line_now : List Key → State → Sent
line_now ks s = record { position = s.clock.positions; columns = columns 0 ks (fields_of s) }

-- "`send` writes one line"; "The message is unchanged by it."
unfoldable pub send : List Key → State → State
send ks s = with_outgoing (sends (line_now ks s) (line_length ks) s.outgoing) s
