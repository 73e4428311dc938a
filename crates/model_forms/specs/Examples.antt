-- Sheets turned, computed from the text.
use Rattle.std.specs.Prelude.{ℕ, ◌≡◌, List, [], ◌∷◌, ◌++◌, replicate}
use Prim.Native.String.{String}
use Rattle.model.specs.{Text.bytes, Text.line_feed, SheetA.sheet_a}
use Rattle.model_change.specs.Change.{text_in}
use Rattle.model_forms.specs.Forms.{turn_sheet, turn_entry}
use Rattle.model_forms.specs.declared.Asked.{Asked}
use Rattle.model_forms.specs.declared.Asked.TheVariants.{One, Two}

-- number, line and text
pub record Came : Type 0 where
  pub number : ℕ
  pub line : ℕ
  pub text : List ℕ

-- what a sheet comes to on so many bytes
abbrev pub to : Asked → List ℕ → ℕ → Came
to a s lent = let w = turn_sheet a s (replicate lent 0) in record { number = w.answer.number; line = w.answer.line; text = text_in w }

abbrev pub writes : List ℕ → Came
writes t = record { number = 0; line = 0; text = t }

abbrev pub refuses : ℕ → ℕ → Came
refuses n l = record { number = n; line = l; text = [] }

-- three numbers below 256, in 32 bits each
abbrev pub numbers : ℕ → ℕ → ℕ → List ℕ
numbers n l b = n ∷ 0 ∷ 0 ∷ 0 ∷ l ∷ 0 ∷ 0 ∷ 0 ∷ b ∷ 0 ∷ 0 ∷ 0 ∷ []

-- document 01's sheet A
abbrev pub old : List ℕ
old = sheet_a "0:1500,1:1480" "LHLHLHLHLH"

-- it in the second form, with this owner and these turns
unfoldable pub new : String → String → List ℕ
new o t =
    bytes "sheet=2\nkeys=2\nsecret=1:300:"
    ++ (bytes o ++ (bytes "\ndo=receive\ndo=read 0 1\ndo=put 1 0\ndo=send\ndo=stop\nmsg=0:1500,1:1480\nturns=" ++ (bytes t ++ bytes "\n")))

abbrev pub new_a : List ℕ
new_a = new "A" "LALALALALA"

-- a sheet of this form with these secrets and turns
unfoldable pub small : String → String → String → List ℕ
small n ss t = bytes "sheet=" ++ (bytes n ++ (bytes "\nkeys=2\n" ++ (bytes ss ++ (bytes "do=stop\nmsg=\nturns=" ++ (bytes t ++ bytes "\n")))))

pub record Examples : Type 0 where
  -- there on exactly enough memory and on one byte less, and back
  pub there : to Two old 115 ≡ writes new_a
  pub back : to One new_a 113 ≡ writes old
  pub less : to Two old 114 ≡ refuses 49 0
  pub less_back : to One new_a 112 ≡ refuses 49 0
  pub none : to One new_a 0 ≡ refuses 49 0
  pub more : to Two old 200 ≡ writes new_a
  -- no secret, both, and an entry of none; turns of one letter
  pub bare : to Two (small "1" "" "L") 40 ≡ writes (small "2" "" "L")
  pub bare_back : to One (small "2" "" "L") 40 ≡ writes (small "1" "" "L")
  pub two : to Two (small "1" "secret=0:-5\nsecret=1:0\n" "HHL") 65 ≡ writes (small "2" "secret=0:-5:A\nsecret=1:0:A\n" "AAL")
  pub two_less : to Two (small "1" "secret=0:-5\nsecret=1:0\n" "HHL") 64 ≡ refuses 49 0
  pub two_back : to One (small "2" "secret=0:-5:A\nsecret=1:0:A\n" "AAL") 61 ≡ writes (small "1" "secret=0:-5\nsecret=1:0\n" "HHL")
  -- "48, after reading, if the sheet already has the form asked for", before any memory is looked at
  pub has1 : to One old 0 ≡ refuses 48 0
  pub has2 : to Two new_a 0 ≡ refuses 48 0
  -- "47 .. if the sheet names owner B or has a turn B": each alone, the first and the last of them; before 49
  pub owned_b : to One (new "B" "LALALALALA") 0 ≡ refuses 47 0
  pub turn_b : to One (new "A" "LALALALALB") 113 ≡ refuses 47 0
  pub first_turn_b : to One (small "2" "" "BL") 99 ≡ refuses 47 0
  pub first_owned_b : to One (small "2" "secret=0:1:B\nsecret=1:1:A\n" "L") 99 ≡ refuses 47 0
  pub last_owned_b : to One (small "2" "secret=0:1:A\nsecret=1:1:B\n" "L") 99 ≡ refuses 47 0
  -- "going back only": asked for the second form, a sheet with B has it already
  pub owned_b2 : to Two (new "B" "LALALALALA") 200 ≡ refuses 48 0
  pub turn_b2 : to Two (new "A" "LALALALALB") 0 ≡ refuses 48 0
  -- "sheets refuse as on reading": with their lines, each form by its own rules, before 48 and 49
  pub empty : to One [] 0 ≡ refuses 2 1
  pub behind : to Two (new_a ++ (line_feed ∷ [])) 0 ≡ refuses 3 11
  pub third : to Two (bytes "sheet=3\n") 0 ≡ refuses 4 1
  pub letter : to Two (sheet_a "0:1500,1:1480" "LALALALALA") 999 ≡ refuses 9 10
  pub letter_back : to One (new "A" "LHLHLHLHLH") 999 ≡ refuses 9 10
  pub owner : to Two (new "C" "LALALALALA") 999 ≡ refuses 46 3
  pub owned1 : to Two (small "1" "secret=0:1:A\n" "L") 999 ≡ refuses 4 3
  -- "The answer is formed as in Note 5": number, line and bytes, low byte first; before all else 10 for another length
  pub entry : turn_entry Two old (replicate 116 7) (replicate 12 9) ≡ record { returned = 0; output = new_a ++ (7 ∷ []); answer = numbers 0 0 115 }
  pub refusal : turn_entry Two (new "C" "L") (replicate 2 7) (replicate 12 9) ≡ record { returned = 46; output = replicate 2 7; answer = numbers 46 3 0 }
  pub sized : turn_entry Two new_a (replicate 2 7) (replicate 13 9) ≡ record { returned = 10; output = replicate 2 7; answer = replicate 13 9 }
