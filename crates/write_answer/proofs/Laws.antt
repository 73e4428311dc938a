-- What a run comes to where a refusal is told by its number, and numbers of 32 bits, stored one after the other.
use Prim.Native.Nat.{ℕ, ◌+◌, ◌*◌, ◌/◌, ◌%◌, ◌≤◌, ◌<◌}
use native.Mathlib.{Omega.arith, Numerals.add-one}
use mathlib.Core.Path.{◌≡◌, refl, sym, ap, ap₂, ◌∙◌}
use mathlib.Core.List.{List, [], ◌∷◌, ◌++◌, append_assoc, append-nil}
use lib.{ListN.length, ListN.get_or, ListN.take, ListN.length-append, Seq.take-suc, Seq.take_all, Seq.length-take-le}
use Rattle.std.proofs.Common.{Ok, Err}
use Rattle.model.specs.{Placed.placed, Refusal.number_of, Answer.answer_as, Answer.numbers_of, Answer.le32, Answer.all_le32, Answer.bytes_for, Written.text_numbers, Written.low_numbers}
use Rattle.model.specs.declared.{TextAnswer.TextAnswer, Ended.Ended, Fault.Fault}
use Rattle.write_answer.specs.Told.{answer_by}
use Rattle.model.proofs.Placed.{placed-append, placed-front, front-whole}

-- a run that ends, and a fault told by its number and line, are the model's answer of them
pub ends-as : (r : Ended) → answer_by (Ok r) ≡ answer_as (Ok r)
ends-as r = refl

pub refused-as : (f : Fault) → answer_by (Err (number_of f.refusal, f.line)) ≡ answer_as (Err f)
refused-as f = refl

-- a number that is none of the papers' refusals, computed
pub refused-any : numbers_of (answer_by (Err (4294967295, 7))) ≡ 4294967295 ∷ 7 ∷ 0 ∷ 0 ∷ 0 ∷ 0 ∷ 0 ∷ []
unfolding numbers_of
refused-any = refl

le32-length : (n : ℕ) → length (le32 n) ≡ 4
unfolding le32
le32-length n = refl

-- a byte of q times 2^32 and r is one of r
low_byte : (q r n : ℕ) → n ≡ q * 4294967296 + r → (n % 256 ≡ r % 256) × (n / 256 % 256 ≡ r / 256 % 256) × (n / 65536 % 256 ≡ r / 65536 % 256)
    × (n / 16777216 % 256 ≡ r / 16777216 % 256)
low_byte q r n e =
    let b : n / 256 ≡ q * 65536 * 256 + r / 256 = omega arith in
    let c : n / 65536 ≡ q * 256 * 256 + r / 65536 = omega arith in
    let d : n / 16777216 ≡ q * 256 + r / 16777216 = omega arith in
    (omega arith, ap (λ (x : ℕ). x % 256) b ∙ byte (q * 65536) (r / 256), ap (λ (x : ℕ). x % 256) c ∙ byte (q * 256) (r / 65536), ap (λ (x : ℕ). x % 256) d ∙ byte q (r / 16777216))
  where
    byte : (y x : ℕ) → (y * 256 + x) % 256 ≡ x % 256
    byte y x = omega arith

-- the four bytes of a number say as much of it as 32 bits hold
le32-low : (n : ℕ) → le32 (n % 4294967296) ≡ le32 n
unfolding le32
le32-low n = let h = low_byte (n / 4294967296) (n % 4294967296) n (omega arith) in rw (h.0, h.1, h.2, h.3)

pub low-bytes : (a : TextAnswer) → all_le32 (low_numbers a) ≡ all_le32 (text_numbers a)
unfolding all_le32
low-bytes a = ap (λ (l : List ℕ). le32 a.number ++ (l ++ (le32 a.bytes ++ []))) (le32-low a.line)

all_append : (ns : List ℕ) (n : ℕ) → all_le32 (ns ++ (n ∷ [])) ≡ all_le32 ns ++ le32 n
unfolding all_le32
all_append [] n = append-nil (le32 n)
all_append (m ∷ ns) n = ap (λ (l : List ℕ). le32 m ++ l) (all_append ns n) ∙ sym (append_assoc (le32 m) (all_le32 ns) (le32 n))

all-length : (ns : List ℕ) → length (all_le32 ns) ≡ 4 * length ns
unfolding all_le32
all-length [] = refl
all-length (n ∷ ns) = omega (arith, length-append (le32 n) (all_le32 ns), le32-length n, all-length ns)

-- one number more behind the first i
pub put-again : (ns d : List ℕ) (i : ℕ) → i < length ns → (m m' : List ℕ) → m ≡ placed d 0 (all_le32 (take i ns)) → m' ≡ placed m (4 * i) (le32 (get_or ns i 0))
    → m' ≡ placed d 0 (all_le32 (take (i + 1) ns))
put-again ns d i h m m' em em' =
    let p : List ℕ = all_le32 (take i ns) in
    let x : List ℕ = le32 (get_or ns i 0) in
    let behind : 4 * i ≡ 0 + length p = omega (arith, all-length (take i ns), length-take-le i ns (omega arith)) in
    let more : take i ns ++ (get_or ns i 0 ∷ []) ≡ take (i + 1) ns = sym (take-suc ns i 0 h) ∙ ap (λ (n : ℕ). take n ns) (sym (add-one i)) in
    em'
    ∙ ap₂ (λ (l : List ℕ) (q : ℕ). placed l q x) em behind
    ∙ placed-append d 0 p x
    ∙ ap (placed d 0) (sym (all_append (take i ns) (get_or ns i 0)) ∙ ap all_le32 more)

pub put-done : (ns d m : List ℕ) (i : ℕ) → length ns ≤ i → length d ≡ bytes_for (length ns) → m ≡ placed d 0 (all_le32 (take i ns)) → m ≡ all_le32 ns
put-done ns d m i end size em =
    let l = all-length ns in
    em
    ∙ ap (λ (t : List ℕ). placed d 0 (all_le32 t)) (take_all i ns end)
    ∙ placed-front d (all_le32 ns) (omega arith)
    ∙ front-whole d (all_le32 ns) (omega arith)
