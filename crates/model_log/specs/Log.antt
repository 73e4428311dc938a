-- Messages out of the belt log: "Our loggers export comma-separated text by RFC 4180 ..". "We want `msg` lines out."
use Rattle.std.specs.Prelude.{ℕ, ◌+◌, Bool, true, false, cond, ◌&&◌, ◌||◌, List, [], ◌∷◌}
use lib.{Dec.eqb, Dec.leb, ListN.length, ListN.set, ListN.replicate}
use Rattle.model.specs.Parsed as Parsed
use Rattle.model.specs.{Parsed.Parsed, Parsed.got, Parsed.need, Parsed.◌>>=◌, Parsed.◌>>◌, Text.line_feed, Text.comma, Text.split, Number.up_to, Number.number}
use Rattle.model.specs.{Limits.most_messages, Phase.one_more, Answer.After, Written.Draft, Written.Written, Written.write, Written.text_entry}
use Rattle.model.specs.Written as Written
use Rattle.model.specs.declared.Entry.{Entry}
use Rattle.model.specs.declared.Entry.TheVariants.{Absent, Number}
use Rattle.model_text.specs.Text.{message_lines}

-- ---- Rows

abbrev pub carriage_return : ℕ
carriage_return = 13

abbrev pub quote_mark : ℕ
quote_mark = 34

-- A row by what stands before its end; or what stands behind the last end, a row that has none
pub data Row : Type 0 where
  ended : List ℕ → Row
  unfinished : Row

-- a byte more before the first row
abbrev pub grow : ℕ → List Row → List Row
grow b [] = unfinished ∷ []
grow b (ended t ∷ rs) = ended (b ∷ t) ∷ rs
grow b (unfinished ∷ rs) = unfinished ∷ rs

-- "Rows end with carriage return and line feed, the last one too.": the two together end a row, and nothing else does
unfoldable pub rows : List ℕ → List Row
rows [] = []
rows (b ∷ []) = unfinished ∷ []
rows (b ∷ c ∷ bs) = cond (eqb b carriage_return && eqb c line_feed) (ended [] ∷ rows bs) (grow b (rows (c ∷ bs)))

-- "a quote mark, a bare carriage return or line feed": what is left of the last two before a row's end is bare
abbrev pub spoils : ℕ → Bool
spoils b = eqb b quote_mark || (eqb b carriage_return || eqb b line_feed)

unfoldable pub clean : List ℕ → Bool
clean [] = true
clean (b ∷ bs) = cond (spoils b) false (clean bs)

-- The fields of a row, by its commas; 41 for a byte that spoils it, and for "an unfinished last row"
unfoldable pub fields : Row → Parsed (List (List ℕ))
fields unfinished = Parsed.refused 41
fields (ended t) = need (clean t) 41 >> got (split comma t)

-- a bad number, whatever its fault, gets 42
abbrev pub or_bad : {A : Type 0} → Parsed A → Parsed A
or_bad (got a) = got a
or_bad (Parsed.refused n) = Parsed.refused 42

-- ---- The first row

-- "key numbers 0 to 7": a message has an entry or none for each of eight keys
abbrev pub key_count : ℕ
key_count = 8

abbrev pub greatest_key : ℕ
greatest_key = 7

-- "The first row holds key numbers 0 to 7, rising"; "42 .. for a bad number or a key that doesn't rise". The first key is at least next.
unfoldable pub key_numbers : ℕ → List (List ℕ) → Parsed (List ℕ)
key_numbers next [] = got []
key_numbers next (f ∷ fs) = do
  k ← or_bad (up_to greatest_key f)
  need (leb next k) 42
  ks ← key_numbers (k + 1) fs
  got (k ∷ ks)

-- "42, after 41 in that row"
unfoldable pub header : Row → Parsed (List ℕ)
header r = fields r >>= key_numbers 0

-- ---- Each further row

-- "an empty field is an absent entry"; "Numbers follow the sheet's rule"
unfoldable pub field : List ℕ → Parsed Entry
field [] = got Absent
field (b ∷ bs) = or_bad (number (b ∷ bs)) >>= (λ z. got (Number z))

-- the fields of a row, each entered at its key
unfoldable pub entries : List ℕ → List (List ℕ) → List Entry → Parsed (List Entry)
entries [] fs es = got es
entries (k ∷ ks) [] es = got es
entries (k ∷ ks) (f ∷ fs) es = field f >>= (λ e. entries ks fs (set es k e))

-- "each further row is a message"; 41 for "another count of fields than the first row", whose keys are ks; "42, after 41 in that row"
unfoldable pub message_row : List ℕ → Row → Parsed (List Entry)
message_row ks r = do
  fs ← fields r
  need (eqb (length fs) (length ks)) 41
  entries ks fs (replicate key_count Absent)

-- ---- The export

-- The messages of an export, or a refusal's number and row
pub data Logged : Type 0 where
  messages : List (List Entry) → Logged
  refused : ℕ → ℕ → Logged

-- what row n gives, and what follows from it
abbrev pub at_row : {A : Type 0} → ℕ → Parsed A → (A → Logged) → Logged
at_row n (got a) f = f a
at_row n (Parsed.refused r) f = refused r n

-- "Rows go from the top; within a row 8 comes first.": the rows from row n on, behind the messages ms. "a 33rd message gets 8"
unfoldable pub further : List ℕ → ℕ → List (List Entry) → List Row → Logged
further ks n ms [] = messages ms
further ks n ms (r ∷ rs) = at_row n (one_more most_messages (message_row ks) ms r) (λ more. further ks (n + 1) more rs)

-- "the row from 1"; 41 for "an empty export (row 1)"
unfoldable pub read_rows : List Row → Logged
read_rows [] = refused 41 1
read_rows (r ∷ rs) = at_row 1 (header r) (λ ks. further ks 2 [] rs)

unfoldable pub read_log : List ℕ → Logged
read_log s = read_rows (rows s)

-- ---- What is written

-- "We want `msg` lines out."
abbrev pub draft : Logged → Draft
draft (messages ms) = Written.text (message_lines ms)
draft (refused n r) = Written.refused n r

-- "43, last, where the lent memory is too short": an export s, and the output memory m that is lent
unfoldable pub write_log : List ℕ → List ℕ → Written
write_log s m = write 43 m (draft (read_log s))

-- "The answer is the number, the row from 1 (0 on success and for 43), and the bytes written": as the C entry leaves it, with the answer memory a
unfoldable pub log_entry : List ℕ → List ℕ → List ℕ → After
log_entry s m a = text_entry m a (write_log s m)
