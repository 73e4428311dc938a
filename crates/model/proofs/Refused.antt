-- Which refusals a piece of text can get.
use mathlib.Core.Path.{◌≡◌, refl}
use mathlib.Core.Bool.{Bool, true, false}
use mathlib.Core.List.{List, [], ◌∷◌}
use Prim.Native.Nat.{ℕ, ◌+◌, ◌*◌, ◌-◌}
use lib.{Dec.eqb, Dec.leb, ListN.length}
use Rattle.model.specs.Parsed.{Parsed, got, refused, need, ◌>>=◌, ◌>>◌}
use Rattle.model.specs.{Text.class_of, Text.digit_class, Text.zero_digit, Text.minus, Text.same, Limits.variables, Limits.least_number, Limits.greatest_number}
use Rattle.model.specs.Number.{digits, natural, within, up_to, from_one, negative, positive, number}
use Rattle.model.specs.Command.{Row, Limits, blank, operand, operands, row_of, by_row}
use Rattle.model.specs.Data.{Op, Command, Operand, InV, InW, InK, InT, InN}
use Rattle.model.proofs.Accepted.{either}

-- a fact of the refusal's number, if there is one
abbrev pub Refuses : {A : Type 0} → (ℕ → Type 0) → Parsed A → Type 0
Refuses P (got a) = Unit {0}
Refuses P (refused n) = P n

module _ (P : ℕ → Type 0) where
  pub bind-refuses : {A B : Type 0} (r : Parsed A) (f : A → Parsed B) → Refuses P r → ((a : A) → Refuses P (f a)) → Refuses P (r >>= f)
  bind-refuses (got a) f h k = k a
  bind-refuses (refused n) f h k = h

  pub need-refuses : {A : Type 0} (t : Bool) (n : ℕ) (r : Parsed A) → (t ≡ false → P n) → (t ≡ true → Refuses P r) → Refuses P (need t n >> r)
  need-refuses true n r h k = k refl
  need-refuses false n r h k = h refl

  -- ---- Numbers: "4: a number is malformed or beyond its limit"

  module _ (four : P 4) where
    digits-refuse : (a : ℕ) (s : List ℕ) → Refuses P (digits a s)
    unfolding digits
    digits-refuse a [] = tt
    digits-refuse a (b ∷ s) = either (Refuses P) (eqb (class_of b) digit_class) _ _ (digits-refuse (a * 10 + (b - zero_digit)) s) four

    natural-refuses : (s : List ℕ) → Refuses P (natural s)
    unfolding natural
    natural-refuses [] = four
    natural-refuses (b ∷ []) = digits-refuse 0 (b ∷ [])
    natural-refuses (b ∷ c ∷ s) = either (Refuses P) (eqb b zero_digit) _ _ four (digits-refuse 0 (b ∷ c ∷ s))

    pub up-to-refuses : (m : ℕ) (s : List ℕ) → Refuses P (up_to m s)
    unfolding up_to within
    up-to-refuses m s = bind-refuses (natural s) _ (natural-refuses s) (λ n. need-refuses (leb n m) 4 _ (λ e. four) (λ e. tt))

    pub number-refuses : (s : List ℕ) → Refuses P (number s)
    unfolding number negative positive from_one
    number-refuses [] = four
    number-refuses (b ∷ s) =
        either (Refuses P) (eqb b minus) _ _
        (bind-refuses (from_one least_number s) _
        (bind-refuses (up_to least_number s) _ (up-to-refuses least_number s) (λ n. need-refuses (leb 1 n) 4 _ (λ e. four) (λ e. tt)))
        (λ n. tt))
        (bind-refuses (up_to greatest_number (b ∷ s)) _ (up-to-refuses greatest_number (b ∷ s)) (λ n. tt))

    -- ---- Commands: "6 and then 4 from left to right"

    operand-refuses : (l : Limits) (o : Operand) (p : List ℕ) (c : Command) → Refuses P (operand l o p c)
    unfolding operand
    operand-refuses l InV p c = bind-refuses (up_to (variables - 1) p) _ (up-to-refuses (variables - 1) p) (λ x. tt)
    operand-refuses l InW p c = bind-refuses (up_to (variables - 1) p) _ (up-to-refuses (variables - 1) p) (λ x. tt)
    operand-refuses l InK p c = bind-refuses (up_to (l.keys - 1) p) _ (up-to-refuses (l.keys - 1) p) (λ x. tt)
    operand-refuses l InT p c = bind-refuses (up_to l.target p) _ (up-to-refuses l.target p) (λ x. tt)
    operand-refuses l InN p c = bind-refuses (number p) _ (number-refuses p) (λ x. tt)

    operands-refuse : (l : Limits) (os : List Operand) (ps : List (List ℕ)) (c : Command) → Refuses P (operands l os ps c)
    unfolding operands
    operands-refuse l (o ∷ os) (p ∷ ps) c = bind-refuses (operand l o p c) _ (operand-refuses l o p c) (λ d. operands-refuse l os ps d)
    operands-refuse l (o ∷ os) [] c = tt
    operands-refuse l [] ps c = tt

    pub by-row-refuses : P 6 → (l : Limits) (o : Op) (os : List Operand) (ps : List (List ℕ)) → Refuses P (by_row l o os ps)
    unfolding by_row
    by-row-refuses six l o os ps = either (Refuses P) (eqb (length os) (length ps)) _ _ (operands-refuse l os ps (blank o)) six

  pub row-refuses : P 6 → (rs : List Row) (w : List ℕ) → Refuses P (row_of rs w)
  unfolding row_of
  row-refuses six [] w = six
  row-refuses six (r ∷ rs) w = either (Refuses P) (same w r.word) _ _ tt (row-refuses six rs w)
