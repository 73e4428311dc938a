-- Document 02, Note 8, "Two owners of secrets": how its sheets are read, said a second time, apart from the
-- definitions. What is read, exactly; and examples, computed from the text of the sheet, on both sides of every test
-- and for every two tests in their order.
use Rattle.std.specs.Prelude.{ℕ, zero, suc, ◌≡◌, ◌≢◌, ◌⊎◌, List, [], ◌∷◌, ◌++◌}
use Prim.Native.String.{String}
use lib.{IntN.pos, IntN.negsuc, ListN.length, ListN.replicate}
use Rattle.model.specs.{Parsed.got, Parsed.refused, Text.bytes, Command.blank, Head.sheet_line, Head.owner, Turns.letter, Stored.level_of, Stored.side, Stored.with_side, Form.form_of, Job.Job, Sheet.Reading, Sheet.accepted}
use Rattle.model.specs.{Sheet.read_sheet, SheetA.sheet_a, SheetTwo.sheet_two, SheetTwo.with_messages, SheetTwo.with_secret, SheetTwo.job_of_two, SheetTwo.rounds_two}
use Rattle.model.specs.{SheetTwo.sheet_both, SheetTwo.sheet_less, SheetTwo.sheet_other, SheetTwo.job_both, SheetTwo.job_less, SheetTwo.job_other}
use Rattle.model.specs.Data.{Entry, Field, Key, Open, Secret, Owner, A, B, Level, Low, High, Stop}
use Rattle.model.specs.Sheet as Sheet

-- ---- Exactly what is read

-- "Refusal 4 allows 1 or 2 for `sheet`"
pub record FormsTold : Type 0 where
  pub one : sheet_line (bytes "1") ≡ got 1
  pub two : sheet_line (bytes "2") ≡ got 2
  pub only : (s : List ℕ) (n : ℕ) → sheet_line s ≡ got n → (n ≡ 1) ⊎ (n ≡ 2)
  pub else : (s : List ℕ) (r : ℕ) → sheet_line s ≡ refused r → r ≡ 4

-- "owner `A` or `B`"; "46 .. for an owner that is neither letter"
pub record OwnersTold : Type 0 where
  pub a : owner (bytes "A") ≡ got A
  pub b : owner (bytes "B") ≡ got B
  pub only : (s : List ℕ) (o : Owner) → owner s ≡ got o → ((s ≡ bytes "A") × (o ≡ A)) ⊎ ((s ≡ bytes "B") × (o ≡ B))
  pub else : (s : List ℕ) (r : ℕ) → owner s ≡ refused r → r ≡ 46

-- "turns use `L`, `A`, `B`"; "9 tests the new letters". Those of the first form are `L` and `H`.
pub record LettersTold : Type 0 where
  pub low : (n : ℕ) → letter (form_of n) 76 ≡ got Low
  pub high : letter (form_of 1) 72 ≡ got (High A)
  pub a : letter (form_of 2) 65 ≡ got (High A)
  pub b : letter (form_of 2) 66 ≡ got (High B)
  pub of_one : (x : ℕ) (l : Level) → letter (form_of 1) x ≡ got l → (x ≡ 76) ⊎ (x ≡ 72)
  pub of_two : (x : ℕ) (l : Level) → letter (form_of 2) x ≡ got l → (x ≡ 76) ⊎ ((x ≡ 65) ⊎ (x ≡ 66))
  pub else : (n x r : ℕ) → letter (form_of n) x ≡ refused r → r ≡ 9
  -- it is stored as its byte, which tells its level whatever the form
  pub stored : (n x : ℕ) (l : Level) → letter (form_of n) x ≡ got l → level_of x ≡ l

-- "The low execution reads and changes only low fields, the high one only high fields.": each of the three its own
pub record FieldsApart : Type 0 where
  pub own : (l : Level) (e : Entry) (f : Field) → side l (with_side l e f) ≡ e
  pub others : (l m : Level) (e : Entry) (f : Field) → m ≢ l → side m (with_side l e f) ≡ side m f

-- ---- The examples

-- the form of a job, and how many keys, commands, messages and letters it has; of a refusal its number and line
abbrev pub sizes : Reading → List ℕ
sizes (accepted j) = j.form ∷ length j.keys ∷ length j.commands ∷ length j.messages ∷ length j.turns ∷ []
sizes (Sheet.refused n l) = n ∷ l ∷ []

-- A sheet is accepted, and says a job, or one of these sizes; or it gets a number at a line
pub data Example : Type 0 where
  says : List ℕ → Job → Example
  has : List ℕ → List ℕ → Example
  gets : List ℕ → ℕ → ℕ → Example

abbrev pub Holds : Example → Type 0
Holds (says s j) = read_sheet s ≡ accepted j
Holds (has s ns) = sizes (read_sheet s) ≡ ns
Holds (gets s n l) = read_sheet s ≡ Sheet.refused n l

abbrev pub AllHold : List Example → Type 0
AllHold [] = Unit {0}
AllHold (e ∷ es) = Holds e × AllHold es

-- a sheet with these first lines, one command and one turn; and the job that it says
unfoldable pub short : String → List ℕ
short head = bytes head ++ bytes "do=stop\nturns=L\n"

abbrev pub short_job : ℕ → List Key → Job
short_job n ks = record { form = n; keys = ks; commands = blank Stop ∷ []; messages = []; turns = Low ∷ [] }

-- so many times a text
unfoldable pub times : ℕ → List ℕ → List ℕ
times zero s = []
times (suc n) s = s ++ times n s

-- a sheet of the second form, with K, so many `send`s before a `jump`, so many empty messages, and what follows
-- `turns=`
unfoldable pub wide : String → ℕ → String → ℕ → List ℕ → List ℕ
wide k n t ms ls =
    bytes "sheet=2\nkeys=" ++ (bytes k
    ++ (bytes "\n" ++ (times n (bytes "do=send\n") ++ (bytes "do=jump " ++ (bytes t ++ (bytes "\n" ++ (times ms (bytes "msg=\n") ++ (bytes "turns=" ++ (ls ++ bytes "\n")))))))))

-- Sheets that are accepted: the worked one and its relatives; owners in either order, one with no key, none at all;
-- the ends of the dummy's range; turns of one owner alone.
unfoldable pub accepts : List Example
accepts =
    says sheet_both job_both
    ∷ says sheet_less job_less
    ∷ says sheet_other job_other
    ∷ says (with_messages "") (job_of_two [] rounds_two)
    ∷ says (sheet_two "1:300:A" "" "BAL") (job_of_two [] (High B ∷ High A ∷ Low ∷ []))
    ∷ says (short "sheet=2\nkeys=2\nsecret=0:-2147483648:B\nsecret=1:2147483647:A\n") (short_job 2 (Secret B (negsuc 2147483647) ∷ Secret A (pos 2147483647) ∷ []))
    ∷ says (short "sheet=2\nkeys=2\nsecret=1:0:B\n") (short_job 2 (Open ∷ Secret B (pos 0) ∷ []))
    ∷ says (short "sheet=2\nkeys=1\n") (short_job 2 (Open ∷ []))
    ∷ says (short "sheet=1\nkeys=1\nsecret=0:300\n") (short_job 1 (Secret A (pos 300) ∷ []))
    ∷ []

-- "a secret line divides at its first two colons and, lacking either, gets 4, before its key": before the order as
-- well. Then the key (4), the order (5), the dummy (4), the owner (46), which is all that follows the second colon;
-- each two of these in one line. Then the letters of either form in the other, a secret line of either form in the
-- other, and the numbers of forms that there are not.
unfoldable pub refuses : List Example
refuses =
    gets (with_secret "1") 4 3
    ∷ gets (with_secret "1:300") 4 3
    ∷ gets (with_secret "9:300") 4 3
    ∷ gets (with_secret "1:300:A\nsecret=1:5") 4 4
    ∷ gets (with_secret "1:300:A\nsecret=0") 4 4
    ∷ gets (with_secret "3:300:A") 4 3
    ∷ gets (with_secret "9:300:C") 4 3
    ∷ gets (with_secret "01:300:A") 4 3
    ∷ gets (with_secret ":300:A") 4 3
    ∷ gets (with_secret "1:300:A\nsecret=1:x:C") 5 4
    ∷ gets (with_secret "1:300:A\nsecret=0:1:C") 5 4
    ∷ gets (with_secret "2:300:A") 5 4
    ∷ gets (with_secret "1:x:C") 4 3
    ∷ gets (with_secret "1::A") 4 3
    ∷ gets (with_secret "1:2147483648:A") 4 3
    ∷ gets (with_secret "1:300:C") 46 3
    ∷ gets (with_secret "1:300:") 46 3
    ∷ gets (with_secret "1:300:A:B") 46 3
    ∷ gets (with_secret "1:300::A") 46 3
    ∷ gets (with_secret "1:300:a") 46 3
    ∷ gets (with_secret "1:300:AA") 46 3
    ∷ gets (with_secret "1:300:H") 46 3
    ∷ gets (sheet_two "1:300:A" "" "LHB") 9 12
    ∷ gets (sheet_two "1:300:A" "" "") 9 12
    ∷ gets (sheet_two "1:300:A" "" "LAb") 9 12
    ∷ gets (sheet_a "0:1500,1:1480" "LALALALALA") 9 10
    ∷ gets (sheet_a "0:1500,1:1480" "LHLB") 9 10
    ∷ gets (short "sheet=1\nkeys=2\nsecret=1:300:A\n") 4 3
    ∷ gets (short "sheet=0\nkeys=2\n") 4 1
    ∷ gets (short "sheet=3\nkeys=2\n") 4 1
    ∷ gets (short "sheet=02\nkeys=2\n") 4 1
    ∷ []

-- "each with its own .. limits": of the second form, at each limit and beyond it
unfoldable pub limits : List Example
limits =
    has (wide "8" 63 "64" 32 (replicate 1024 66)) (2 ∷ 8 ∷ 64 ∷ 32 ∷ 1024 ∷ [])
    ∷ has (wide "1" 0 "1" 0 (bytes "B")) (2 ∷ 1 ∷ 1 ∷ 0 ∷ 1 ∷ [])
    ∷ gets (wide "9" 0 "0" 0 (bytes "B")) 4 2
    ∷ gets (wide "0" 0 "0" 0 (bytes "B")) 4 2
    ∷ gets (wide "8" 64 "0" 0 (bytes "B")) 8 67
    ∷ gets (wide "8" 63 "65" 0 (bytes "B")) 4 66
    ∷ gets (wide "8" 62 "64" 0 (bytes "B")) 7 65
    ∷ gets (wide "8" 0 "0" 33 (bytes "B")) 8 36
    ∷ gets (wide "8" 0 "0" 0 (replicate 1025 66)) 8 4
    ∷ []
