-- The `msg` lines of a sheet of the form f.
use Rattle.std.specs.Prelude.{List, [], ◌∷◌, ℕ}
use Rattle.model.specs.{Parsed.Parsed, Parsed.got, Parsed.◌>>=◌, Pair.ByKey, Pair.part, Pair.everywhere, Text.split, Text.comma, Text.bytes}
use Rattle.model.specs.{Phase.Phase, Phase.many, Phase.one_more}
use Rattle.model.specs.Data.{Form, Entry, Absent, Number}

-- "Parts run from left to right."
unfoldable pub parts : ℕ → ByKey Entry → List (List ℕ) → Parsed (ByKey Entry)
parts K e [] = got e
parts K e (p ∷ ps) = part Number K e p >>= (λ e'. parts K e' ps)

abbrev pub all_absent : ℕ → ByKey Entry
all_absent K = everywhere K Absent

-- "`msg=key:value,key:value`, keys rising within a line. `msg=` alone is a message with no entries."
unfoldable pub message : ℕ → List ℕ → Parsed (ByKey Entry)
message K [] = got (all_absent K)
message K (b ∷ bs) = parts K (all_absent K) (split comma (b ∷ bs))

unfoldable pub message_line : ℕ → List ℕ → Parsed (List Entry)
message_line K s = message K s >>= (λ e. got e.at)

unfoldable pub read_messages : Form → ℕ → ℕ → List (List ℕ) → Phase (List (List Entry))
read_messages f K n ls = many (bytes "msg") (one_more f.messages (message_line K)) n [] ls
