-- Laws of the table of words by their places, and of a command's test and its narrow form.
use Prim.Native.Nat.{ℕ, zero, suc, ◌-◌, ◌<◌, ◌≤◌}
use mathlib.Core.Path.{◌≡◌, refl, sym, ap, ◌∙◌}
use mathlib.Core.Bool.{Bool, true, false, not, cond, ◌&&◌, ◌||◌, and-false, and_assoc}
use mathlib.Core.List.{List, [], ◌∷◌}
use native.Mathlib.{Omega.arith, Decide.dec_lt}
use borrow.Author.Tests.{not-true, le-ltb, ne_eqb}
use mir.{Syntax.w32, Val.SFits, Val.of_z}
use lib.{IntN.ℤ, IntN.pos, IntN.negsuc, Dec.eqb, Dec.leb, Dec.ltb, ListN.length, ListN.get_or, ListN.get_or-eq_default}
use Rattle.model.specs.{Command.Row, Command.table, Accepted.row_at, Accepted.has, Stored.key_capacity}
use Rattle.model.specs.declared.{Operand.Operand, Op.TheVariants.Stop}
use Rattle.model.specs.declared.Operand.TheVariants.{InV, InW, InK, InT, InN}
use Rattle.model.specs.Number.{is_zero}
use Rattle.model_record.specs.Record.{limit_of, in_range, command_fits, command_of}
use Rattle.model_record.specs.declared.CommandRecord.{CommandRecord}
use Rattle.model_record.proofs.Commands.{command-fitting}
use Rattle.model_text.proofs.TextLaws.{and_both}
use Rattle.read_fields.specs.Fields.{Narrow}
use Rattle.read_fields.proofs.Laws.{in-range}

-- ---- A test of every row and its place, which antt computes

-- the test f of all rows from the first place on
abbrev every : (ℕ → Row → Bool) → List Row → Bool
every f [] = true
every f (r ∷ rs) = f zero r && every (λ (n : ℕ). f (suc n)) rs

-- it holds at each place
at_place : (f : ℕ → Row → Bool) (rs : List Row) (d : Row) (n : ℕ) → every f rs ≡ true → n < length rs → f n (get_or rs n d) ≡ true
at_place f [] d n t h = absurd (omega arith)
at_place f (r ∷ rs) d zero t h = (and_both (f zero r) (every (λ (n : ℕ). f (suc n)) rs) t).0
at_place f (r ∷ rs) d (suc n) t h = at_place (λ (m : ℕ). f (suc m)) rs d n (and_both (f zero r) (every (λ (m : ℕ). f (suc m)) rs) t).1 (omega arith)

-- ---- The operands of the word at a place, by ranges of places

-- as the code has them
abbrev pub has_at : ℕ → Operand → Bool
has_at n InV = ltb n 8 || eqb n 9 || eqb n 10
has_at n InW = ltb 0 n && ltb n 5
has_at n InK = ltb 4 n && ltb n 9
has_at n InT = ltb 8 n && ltb n 12
has_at n InN = eqb n 0

-- two answers are the same
same : Bool → Bool → Bool
same a b = cond a b (not b)

same-eq : (a b : Bool) → same a b ≡ true → a ≡ b
unfolding same
same-eq true b h = sym h
same-eq false b h = sym (not-true b h)

-- as the rows have them, at every place
right : Operand → ℕ → Row → Bool
right o n r = same (has_at n o) (has r.parts o)

all_right : (o : Operand) → every (right o) table ≡ true
unfolding table right same has
all_right InV = refl
all_right InW = refl
all_right InK = refl
all_right InT = refl
all_right InN = refl

-- there is no word beyond the table
beyond : (n : ℕ) (o : Operand) → 15 ≤ n → has_at n o ≡ false
beyond n InV h = rw (le-ltb n 8 (omega arith), ne_eqb n 9 (omega arith), ne_eqb n 10 (omega arith))
beyond n InW h = rw (le-ltb n 5 (omega arith)) (and-false (ltb 0 n))
beyond n InK h = rw (le-ltb n 9 (omega arith)) (and-false (ltb 4 n))
beyond n InT h = rw (le-ltb n 12 (omega arith)) (and-false (ltb 8 n))
beyond n InN h = ne_eqb n 0 (omega arith)

-- the two are the same at any number
pub has-at : (n : ℕ) (o : Operand) → has_at n o ≡ has (row_at n).parts o
unfolding table has right
has-at n o = go (dec_lt n 15)
  where
    go : Dec (n < 15) → has_at n o ≡ has (row_at n).parts o
    go (yes l) = same-eq _ _ (at_place (right o) table _ n (all_right o) l)
    go (no l) = beyond n o (omega arith) ∙ rw (get_or-eq_default table (record { word = []; op = Stop; parts = [] }) {n = n} (omega arith))

-- and so are the limits
limit-at : (n : ℕ) (o : Operand) (most : ℕ) {r : ℕ} → r ≡ cond (has_at n o) most 0 → r ≡ limit_of (row_at n).parts o most
limit-at n o most h = h ∙ ap (λ (b : Bool). cond b most 0) (has-at n o)

-- ---- A command's test

-- a number is 0 if its bits are
is-zero : (z : ℤ) → SFits w32 z → eqb (of_z w32 z) 0 ≡ is_zero z
is-zero (pos zero) h = refl
is-zero (pos (suc n)) h = ne_eqb (suc n) 0 (omega arith)
is-zero (negsuc n) h = ne_eqb (4294967296 - suc n) 0 (omega (arith, h.sfits))

-- a number where the word has one, and 0 where it lacks it
number-test : (a : Bool) (z : ℤ) → SFits w32 z → a || eqb (of_z w32 z) 0 ≡ cond a (in_range z) (is_zero z)
number-test true z h = sym (in-range h)
number-test false z h = is-zero z h

-- the tests one after the other, by the limits of the word's operands
pub command-test : (K count : ℕ) (c : CommandRecord) → SFits w32 c.n → {v w k t : ℕ}
    → v ≡ cond (has_at c.word InV) 7 0 → w ≡ cond (has_at c.word InW) 7 0 → k ≡ cond (has_at c.word InK) (K - 1) 0 → t ≡ cond (has_at c.word InT) count 0
    → ltb c.word 15 && leb c.v v && leb c.w w && leb c.k k && leb c.t t && (has_at c.word InN || eqb (of_z w32 c.n) 0) ≡ command_fits K count c
unfolding command_fits table
command-test K count c h v w k t =
    rw (limit-at c.word InV 7 v, limit-at c.word InW 7 w, limit-at c.word InK (K - 1) k, limit-at c.word InT count t, has-at c.word InN, number-test (has (row_at c.word).parts InN) c.n h) (simp and_assoc)

-- a command that passes has room in a stored one
pub narrow : (K count : ℕ) (c : CommandRecord) → 1 ≤ K → K ≤ key_capacity → command_fits K count c ≡ true → Narrow c
unfolding command_of
narrow K count c some most h =
    let f = command-fitting K count c some h in
    record { word = f.word; v = omega (arith, f.within.v); w = omega (arith, f.within.w); k = omega (arith, f.within.k) }
