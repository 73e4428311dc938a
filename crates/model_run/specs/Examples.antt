-- The examples of document 01 that are marked P, from the text of the sheet to the printed bytes and numbers.
use Rattle.std.specs.Prelude.{ℕ, List, [], ◌∷◌, ◌≡◌}
use Prim.Native.String.{String}
use lib.{IntN.ℤ, IntN.pos, IntN.negsuc, ListN.replicate}
use Rattle.model_run.specs.{Step.variable, Step.does, Whole.printed}
use Rattle.model.specs.{Text.bytes}
use Rattle.model_run.specs.Data.{Absent, Op, Add, Div, Execution}
use Rattle.model.specs.SheetA.{sheet_a}

-- An example: a sheet, run with so many bytes lent, prints a text; a command on two numbers gives a third, and has so many clamped results
pub data Example : Type 0 where
  prints : List ℕ → ℕ → String → Example
  gives : Op → ℤ → ℤ → ℤ → ℕ → Example

-- the record after a command on the variables 0 and 1, which hold a and b
unfoldable pub result : Op → ℤ → ℤ → Execution
result o a b = (does 1 (record { op = o; v = 0; w = 1; k = 0; t = 0; n = pos 0 }) (record { place = 0; vars = a ∷ b ∷ []; calls = 0; clamped = 0 }) Absent).execution

abbrev pub Holds : Example → Type 0
Holds (prints s lent t) = printed s (replicate lent 0) ≡ bytes t
Holds (gives o a b c n) = (variable (result o a b) 0 ≡ c) × ((result o a b).clamped ≡ n)

abbrev pub AllHold : List Example → Type 0
AllHold [] = Unit {0}
AllHold (e ∷ es) = Holds e × AllHold es

unfoldable pub sheet8 : List ℕ
sheet8 = bytes "sheet=1\nkeys=1\nsecret=0:0\ndo=receive\ndo=read 0 0\ndo=ifzero 0 4\ndo=send\ndo=stop\nmsg=0:9\nturns=LHLHLHLH\n"

-- what `runsheet` lends
abbrev pub lent_by_runsheet : ℕ
lent_by_runsheet = 32768

-- P1 to P11, in their order; P7 and P9 are several. Document 02, Note 3: "the answers in P1 to P8 and P11 gain a 0". (Of P9 and P10 the paper gives the values; how
-- many clamped results they have is ours.)
unfoldable pub list : List Example
list =
    prints (sheet_a "0:1500,1:1480" "LHLHLHLHLH") lent_by_runsheet "sent=0006 +0000001500 +0000001480\nend=0 0 9 5 34 1 0\n"
    ∷ prints (sheet_a "0:1500,1:-7" "LHLHLHLHLH") lent_by_runsheet "sent=0006 +0000001500 -0000000007\nend=0 0 9 5 34 1 0\n"
    ∷ prints (sheet_a "0:1500" "LHLHLHLHLH") lent_by_runsheet "sent=0006 +0000001500 +0000000000\nend=0 0 9 5 34 1 0\n"
    ∷ prints (sheet_a "0:1500,1:1480" "LHLH") lent_by_runsheet "end=31 0 4 2 0 1 0\n"
    ∷ prints (sheet_a "0:1500,1:1480" "LLLLL") lent_by_runsheet "sent=0003 +0000001500 +0000001480\nend=0 0 5 5 34 1 0\n"
    ∷ prints (sheet_a "0:1500,1:1480" "H") lent_by_runsheet "end=31 0 1 0 0 0 0\n"
    ∷ prints (sheet_a "0:1500,1:1480" "LHLHLHLHLH") 33 "end=32 0 6 3 0 1 0\n"
    ∷ prints (sheet_a "0:1500,1:1480" "LHLHLHLHLH") 34 "sent=0006 +0000001500 +0000001480\nend=0 0 9 5 34 1 0\n"
    ∷ prints sheet8 lent_by_runsheet "end=0 0 7 4 0 1 0\n"
    ∷ gives Div (pos 7) (negsuc 1) (negsuc 2) 0
    ∷ gives Div (negsuc 6) (pos 2) (negsuc 2) 0
    ∷ gives Div (pos 5) (pos 0) (pos 0) 0
    ∷ gives Div (negsuc 2147483647) (negsuc 0) (pos 2147483647) 1
    ∷ gives Add (pos 2147483647) (pos 1) (pos 2147483647) 1
    ∷ prints [] lent_by_runsheet "end=2 1 0 0 0 0 0\n"
    ∷ []
