-- Examples of functions that write text: what is lent, the numbers of the answer, and the text.
use Rattle.std.specs.Prelude.{ℕ, zero, suc, ◌≡◌, List, [], ◌∷◌, ◌++◌, replicate, take}
use Rattle.model.specs.{Written.Written, Written.text_numbers}

-- An example: what writing into lent memory leaves, the bytes lent, the numbers, and the text written
pub record Example : Type 0 where
  pub writes : List ℕ → Written
  pub lent : ℕ
  pub numbers : List ℕ
  pub text : List ℕ

abbrev pub example : (List ℕ → Written) → ℕ → ℕ → ℕ → ℕ → List ℕ → Example
example f lent number line count t = record { writes = f; lent = lent; numbers = number ∷ line ∷ count ∷ []; text = t }

-- as much of the memory as was written
abbrev pub there : Written → List ℕ
there w = take w.answer.bytes w.memory

abbrev pub Holds : Example → Type 0
Holds e =
    let w = e.writes (replicate e.lent 0) in
    (text_numbers w.answer ≡ e.numbers) × (there w ≡ e.text)

abbrev pub AllHold : List Example → Type 0
AllHold [] = Unit {0}
AllHold (e ∷ es) = Holds e × AllHold es

-- a text so often
unfoldable pub times : ℕ → List ℕ → List ℕ
times zero r = []
times (suc n) r = r ++ times n r
