-- A number as the model writes it is as std writes it, and one more number of a line.
use Rattle.std.proofs.Common.{◌≡◌, ℕ, ◌+◌, ◌<◌, ◌≤◌, List, [], ◌∷◌, ◌++◌, length, get_or, take, refl, sym, ap, ◌∙◌, subst, append_assoc, append-nil, add-one, arith, Option}
use Rattle.std.specs.Fmt.{decimal}
use Rattle.std.specs.Io.KnownBytes.{Appends}
use Rattle.std.proofs.KnownBytes.{Appends-trans}
use Rattle.std.proofs.lemmas.Fmt.{AppendsLastDigit, decimal_from_appends, length-decimal-le}
use Rattle.std.proofs.Math.Seq.{take-suc}
use borrow.Author.Tests.{lt-ltb, le-ltb}
use lib.Seq.{length-take-le}
use Rattle.model.specs.{Text.space, Decimal.digits, Decimal.width_to, Decimal.width, Decimal.natural, Answer.spaced}

-- the last digit comes last
appends : AppendsLastDigit (λ k n. digits (width_to k n) n)
unfolding digits width_to
appends = record {
  one = λ k n h. rw (lt-ltb n 10 h) (ap (λ d. (48 + d) ∷ []) (omega arith));
  more = λ k n h. rw (le-ltb n 10 h) refl;
}

pub natural_decimal : (n : ℕ) → n < 4294967296 → natural n ≡ decimal n
unfolding natural width
natural_decimal n h = decimal_from_appends _ appends 10 n (omega arith) (length-decimal-le 10 n (omega arith) (omega arith) (omega arith))

-- a space stands between the last number and those before it
spaced-snoc : (ns : List ℕ) (n : ℕ) → 0 < length ns → spaced (ns ++ (n ∷ [])) ≡ spaced ns ++ (space ∷ natural n)
unfolding spaced
spaced-snoc [] n h = absurd (omega arith)
spaced-snoc (k ∷ []) n h = refl
spaced-snoc (k ∷ l ∷ ns) n h =
    ap (λ t. natural k ++ (space ∷ t)) (spaced-snoc (l ∷ ns) n (omega arith)) ∙ sym (append_assoc (natural k) (space ∷ spaced (l ∷ ns)) (space ∷ natural n))

spaced-nil : (ns : List ℕ) → spaced (take 0 ns) ≡ []
unfolding spaced
spaced-nil ns = refl

spaced-one : (n : ℕ) → spaced (n ∷ []) ≡ natural n
unfolding spaced
spaced-one n = refl

-- the name is a line with no number yet
pub none_printed : (name ns : List ℕ) → name ++ spaced (take 0 ns) ≡ name
none_printed name ns = rw (spaced-nil ns) (append-nil name)

one_more : (ns : List ℕ) (i : ℕ) → 0 < i → i < length ns → spaced (take (i + 1) ns) ≡ spaced (take i ns) ++ (space ∷ natural (get_or ns i 0))
one_more ns i more within =
    let longer : take (i + 1) ns ≡ take i ns ++ (get_or ns i 0 ∷ []) = rw (add-one i) (take-suc ns i 0 within) in
    ap spaced longer ∙ spaced-snoc (take i ns) (get_or ns i 0) (omega (arith, length-take-le i ns (omega arith)))

-- a space and a number behind those before it
pub next_number : (a b c d : Option (List ℕ)) (name ns : List ℕ) (i : ℕ) → 0 < i → i < length ns → Appends a b (name ++ spaced (take i ns)) → Appends b c (space ∷ [])
    → Appends c d (natural (get_or ns i 0)) → Appends a d (name ++ spaced (take (i + 1) ns))
next_number a b c d name ns i more within before gap number =
    let n = natural (get_or ns i 0) in
    let both = Appends-trans a b d (name ++ spaced (take i ns)) (space ∷ n) before (Appends-trans b c d (space ∷ []) n gap number) in
    subst (Appends a d) (append_assoc name (spaced (take i ns)) (space ∷ n) ∙ ap (λ t. name ++ t) (sym (one_more ns i more within))) both

-- the first number comes with no space
pub first_number : (a b c : Option (List ℕ)) (name ns : List ℕ) (i : ℕ) → i ≤ 0 → i < length ns → Appends a b (name ++ spaced (take i ns)) → Appends b c (natural (get_or ns i 0))
    → Appends a c (name ++ spaced (take (i + 1) ns))
first_number a b c name [] i none within before number = absurd (omega arith)
first_number a b c name (n ∷ ns) i none within before number =
    let first : i ≡ 0 = omega arith in
    let bare : name ++ spaced (take i (n ∷ ns)) ≡ name = ap (λ k. name ++ spaced (take k (n ∷ ns))) first ∙ none_printed name (n ∷ ns) in
    let here : natural (get_or (n ∷ ns) i 0) ≡ spaced (take (i + 1) (n ∷ ns)) =
    ap (λ k. natural (get_or (n ∷ ns) k 0)) first ∙ sym (spaced-one n) ∙ ap (λ k. spaced (take (k + 1) (n ∷ ns))) (sym first) in
    subst (Appends a c) (ap (λ t. name ++ t) here) (Appends-trans a b c name _ (subst (Appends a b) bare before) number)
