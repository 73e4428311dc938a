-- Texts as lists of bytes: the class of a byte, the place of a byte, and the parts of a text.
use Rattle.std.specs.Prelude.{List, [], ◌∷◌, ℕ, suc, Bool, ◌&&◌, cond, true, false}
use Prim.Native.Char.{code}
use Prim.Native.String.{String, [] as none, ◌∷◌ as ◌∷ˢ◌}
use lib.{Dec.leb, Dec.eqb, Dec.ltb, ListN.length, ListN.take, ListN.drop}
use Rattle.model.specs.Parsed.{Parsed, got, refused}

-- the bytes of a word or a text that is written out here
unfoldable pub bytes : String → List ℕ
bytes none = []
bytes (◌∷ˢ◌ c s) = code c ∷ bytes s

-- the bytes that the rules name
abbrev pub line_feed : ℕ
line_feed = 10

abbrev pub space : ℕ
space = 32

abbrev pub plus : ℕ
plus = 43

abbrev pub comma : ℕ
comma = 44

abbrev pub minus : ℕ
minus = 45

abbrev pub dot : ℕ
dot = 46

abbrev pub zero_digit : ℕ
zero_digit = 48

abbrev pub nine_digit : ℕ
nine_digit = 57

abbrev pub colon : ℕ
colon = 58

abbrev pub equals_sign : ℕ
equals_sign = 61

abbrev pub between : ℕ → ℕ → ℕ → Bool
between lo hi b = leb lo b && leb b hi

-- the numbers of the two classes that the rules of reading name
abbrev pub digit_class : ℕ
digit_class = 0

abbrev pub forbidden_class : ℕ
forbidden_class = 10

-- "The class of a byte (digit, minus, comma, colon, equals sign, space, line feed, small letter, capital letter, other byte from 32 to 126,
-- forbidden byte)": the classes are numbered from 0 in that order. Document 01 has it "looked up in a table of 256 entries"; document 02, Note 6: "Replace it
-- by tests on ranges of the byte. The contract of the class is the same."
unfoldable pub class_of : ℕ → ℕ
class_of b =
    cond (between zero_digit nine_digit b) digit_class
    (cond (eqb b minus) 1
    (cond (eqb b comma) 2
    (cond (eqb b colon) 3
    (cond (eqb b equals_sign) 4
    (cond (eqb b space) 5
    (cond (eqb b line_feed) 6
    (cond (between 97 122 b) 7
    (cond (between 65 90 b) 8
    (cond (between 32 126 b) 9
    forbidden_class)))))))))

-- two texts are the same
unfoldable pub same : List ℕ → List ℕ → Bool
same [] [] = true
same [] (y ∷ ys) = false
same (x ∷ xs) [] = false
same (x ∷ xs) (y ∷ ys) = eqb x y && same xs ys

-- the place of the first c, or the length where there is none
unfoldable pub find : ℕ → List ℕ → ℕ
find c [] = 0
find c (b ∷ bs) = cond (eqb b c) 0 (suc (find c bs))

-- what stands before the first c, and what stands after it; the refusal n where there is none
unfoldable pub divide : ℕ → ℕ → List ℕ → Parsed (List ℕ × List ℕ)
divide c n s = cond (ltb (find c s) (length s)) (got (take (find c s) s, drop (suc (find c s)) s)) (refused n)

abbrev pub grow : Bool → ℕ → List (List ℕ) → List (List ℕ)
grow true b ps = [] ∷ ps
grow false b [] = (b ∷ []) ∷ []
grow false b (p ∷ ps) = (b ∷ p) ∷ ps

-- the parts of a text: every c splits
unfoldable pub split : ℕ → List ℕ → List (List ℕ)
split c [] = [] ∷ []
split c (b ∷ bs) = grow (eqb b c) b (split c bs)

unfoldable pub init : List (List ℕ) → List (List ℕ)
init [] = []
init (p ∷ []) = []
init (p ∷ q ∷ ps) = p ∷ init (q ∷ ps)

-- "Each line ends with a line feed": the lines of a text that ends with one
unfoldable pub lines : List ℕ → List (List ℕ)
lines s = init (split line_feed s)

-- no c in a text
unfoldable pub free : ℕ → List ℕ → Bool
free c [] = true
free c (b ∷ bs) = cond (eqb b c) false (free c bs)

-- how many c a text has
unfoldable pub count : ℕ → List ℕ → ℕ
count c [] = 0
count c (b ∷ bs) = cond (eqb b c) (suc (count c bs)) (count c bs)
