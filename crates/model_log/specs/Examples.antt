-- Exports with what they give: the number, the row, the bytes written, and the text.
use Rattle.std.specs.Prelude.{ℕ, List, [], ◌∷◌, ◌++◌}
use Prim.Native.String.{String}
use Rattle.model.specs.Text.{bytes}
use Rattle.model_text.specs.Examples.{Example, example, times}
use Rattle.model_log.specs.Log.{write_log}

abbrev pub gives : List ℕ → ℕ → ℕ → ℕ → ℕ → String → Example
gives s lent number row count t = example (write_log s) lent number row count (bytes t)

abbrev pub refuses : String → ℕ → ℕ → Example
refuses s number row = gives (bytes s) 40 number row 0 ""

-- the keys' row 0, and so many rows of one 1
abbrev pub ones : ℕ → List ℕ
ones n = bytes "0\r\n" ++ times n (bytes "1\r\n")

unfoldable pub list : List Example
list =
    gives (bytes "0,3\r\n1,\r\n,-5\r\n,\r\n") 40 0 0 22 "msg=0:1\nmsg=3:-5\nmsg=\n"
    ∷ gives (bytes "5\r\n\r\n7\r\n") 40 0 0 13 "msg=\nmsg=5:7\n"
    ∷ gives (bytes "0\r\n") 0 0 0 0 ""
    ∷ refuses "" 41 1
    ∷ refuses "\r\n" 42 1
    ∷ refuses "0,,2\r\n" 42 1
    ∷ refuses "0,0\r\n" 42 1
    ∷ refuses "8\r\n" 42 1
    ∷ refuses "0,1\n5,6\n" 41 1
    ∷ refuses "0\r\n1\r\r\n" 41 2
    ∷ refuses "0\r\n1" 41 2
    ∷ refuses "0,1\r\n5,6\r\n\r\n" 41 3
    ∷ refuses "0,1\r\nx,\"\r\n" 41 2
    ∷ refuses "0,1\r\nx\r\n" 41 2
    ∷ refuses "0\r\nx\r\n\n" 42 2
    ∷ refuses "0\r\n-0\r\n" 42 2
    ∷ refuses "0\r\n 1\r\n" 42 2
    ∷ refuses "0\r\n2147483648\r\n" 42 2
    ∷ gives (bytes "0,7\r\n-2147483648,2147483647\r\n") 40 0 0 31 "msg=0:-2147483648,7:2147483647\n"
    ∷ gives (ones 32 ++ bytes "\"") 999 8 34 0 ""
    ∷ gives (ones 33) 999 8 34 0 ""
    ∷ gives (bytes "1,0\r\n" ++ times 40 (bytes "1\r\n")) 999 42 1 0 ""
    ∷ gives (bytes "0\r\n1\r\n") 7 43 0 0 ""
    ∷ gives (bytes "0\r\n1\r\n") 8 0 0 8 "msg=0:1\n"
    ∷ []
