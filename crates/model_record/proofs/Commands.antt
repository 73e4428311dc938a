-- The command of a record passes exactly if its numbers are within their limits and its word has no operand but its own, and it comes back.
use mathlib.Core.Path.{◌≡◌, refl, sym, ap, ◌∙◌}
use mathlib.Core.Bool.{Bool, true, false, cond, true≢false}
use mathlib.Core.List.{List, [], ◌∷◌}
use Prim.Native.Nat.{ℕ, zero, suc, ◌+◌, ◌<◌, ◌≤◌}
use native.Mathlib.{Decide.dec_lt, Nat.add-zero, Nat.zero-add, Omega.arith}
use lib.{IntN.ℤ, IntN.pos, IntN.negsuc, Signed.mag, Dec.leb, Dec.ltb, ListN.length, ListN.get_or, ListN.get_or-eq_default}
use borrow.Author.Tests.{leb-true, le-leb, ltb-true, lt-ltb, eqb-true}
use Rattle.model.specs.{Limits.greatest_number, Command.Row, Command.table, Accepted.InRange, Accepted.Within, Accepted.place_of}
use Rattle.model.specs.Accepted.{row_at}
use Rattle.model.specs.Accepted.{row_for, has, kept, Bare}
use Rattle.model.specs.declared.{Command.Command, Op.Op}
use Rattle.model.specs.declared.Op.TheVariants.{Stop}
use Rattle.model.specs.declared.Operand.TheVariants.{InV, InW, InK, InT, InN}
use Rattle.model_text.proofs.Commands.{in_table}
use Rattle.model_text.proofs.TextLaws.{and_both}
use Rattle.model_record.specs.Data.{CommandRecord}
use Rattle.model.specs.Number.{is_zero}
use Rattle.model_record.specs.Record.{in_range, command_fits, command_of, command_record}
use Rattle.model_text.proofs.Tests.{and-made}

-- ---- Words

-- the words of these rows have the places from i on
abbrev InOrder : ℕ → List Row → Type 0
InOrder i [] = Unit {0}
InOrder i (r ∷ rs) = (place_of r.op ≡ i) × InOrder (suc i) rs

-- the place of the word of a row
order-at : (rs : List Row) (i n : ℕ) (d : Row) → InOrder i rs → n < length rs → place_of (get_or rs n d).op ≡ i + n
order-at [] i n d h b = absurd (omega arith)
order-at (r ∷ rs) i zero d h b = h.0 ∙ sym (add-zero i)
order-at (r ∷ rs) i (suc n) d h b = omega (arith, order-at rs (suc i) n d h.1 (omega arith))

-- the table has its words in the order of their places
in_order : InOrder 0 table
unfolding table
in_order = (refl, (refl, (refl, (refl, (refl, (refl, (refl, (refl, (refl, (refl, (refl, (refl, (refl, (refl, (refl, tt)))))))))))))))

-- the word at a place of the table has this place
pub word-place : (n : ℕ) → n < length table → place_of (row_at n).op ≡ n
word-place n b = order-at table 0 n _ in_order b ∙ zero-add n

-- and every word has one: behind the last there would be `stop`, which has
place-below : (o : Op) → place_of o < length table
unfolding table row_for
place-below o = go (dec_lt (place_of o) (length table))
  where
    go : Dec (place_of o < length table) → place_of o < length table
    go (yes b) = b
    go (no b) =
        let beyond = get_or-eq_default table (record { word = []; op = Stop; parts = [] }) {n = place_of o} (omega arith) in
        omega (arith, ap place_of (sym (in_table o).own ∙ ap (λ (r : Row). r.op) beyond))

-- ---- Operands

-- a number up to its limit, which is 0 where the word lacks it
limited : (b : Bool) (x most : ℕ) → leb x (cond b most 0) ≡ true → (x ≤ most) × (cond b x 0 ≡ x)
limited true x most h = (leb-true x most h, refl)
limited false x most h = let z = leb-true x 0 h in (omega arith, omega arith)

-- and back
within-limit : (b : Bool) (x most : ℕ) → x ≤ most → cond b x 0 ≡ x → leb x (cond b most 0) ≡ true
within-limit true x most h e = le-leb x most h
within-limit false x most h e = le-leb x 0 (omega arith)

-- the same of a number with a sign
number-limited : (b : Bool) (z : ℤ) → cond b (in_range z) (is_zero z) ≡ true → InRange z × (cond b z (pos 0) ≡ z)
number-limited true z h = (leb-true (mag z) greatest_number h, refl)
number-limited false (pos zero) h = (omega arith, refl)
number-limited false (pos (suc n)) h = absurd (true≢false (sym h))
number-limited false (negsuc n) h = absurd (true≢false (sym h))

-- and back
number-within : (b : Bool) (z : ℤ) → InRange z → cond b z (pos 0) ≡ z → cond b (in_range z) (is_zero z) ≡ true
number-within true z h e = le-leb (mag z) greatest_number h
number-within false z h e = ap is_zero (sym e)

-- ---- Commands

-- what a command of a record has to satisfy, where there are K keys and so many commands
pub record Fitting (K count : ℕ) (c : CommandRecord) : Type 0 where
  pub word : c.word < length table
  pub within : Within K count (command_of c)
  pub bare : Bare (command_of c)

-- a command that fits satisfies it
pub command-fitting : (K count : ℕ) (c : CommandRecord) → 1 ≤ K → command_fits K count c ≡ true → Fitting K count c
unfolding command_fits command_of kept row_for
command-fitting K count c some h =
    let os = (row_at c.word).parts in
    let a = and_both (ltb c.word (length table)) _ h in
    let b = and_both (leb c.v _) _ a.1 in
    let d = and_both (leb c.w _) _ b.1 in
    let e = and_both (leb c.k _) _ d.1 in
    let f = and_both (leb c.t _) _ e.1 in
    let v = limited (has os InV) c.v _ b.0 in
    let w = limited (has os InW) c.w _ d.0 in
    let k = limited (has os InK) c.k _ e.0 in
    let t = limited (has os InT) c.t _ f.0 in
    let n = number-limited (has os InN) c.n f.1 in
    let word = ltb-true c.word (length table) a.0 in
    record {
      word = word;
      within = record { v = omega (arith, v.0); w = omega (arith, w.0); k = omega (arith, k.0); t = omega (arith, t.0); n = n.0 };
      bare =
          ap (λ (p : ℕ). kept (row_at p).parts (command_of c)) (word-place c.word word)
          ∙ (λ i. record { op = (row_at c.word).op; v = v.1 i; w = w.1 i; k = k.1 i; t = t.1 i; n = n.1 i });
    }

-- a command within the limits, with no operand but its word's, fits
pub command-fits : (K count : ℕ) (c : Command) → Within K count c → Bare c → command_fits K count (command_record c) ≡ true
unfolding command_fits command_record kept row_for
command-fits K count c h bare =
    let os = (row_for c.op).parts in
    and-made (lt-ltb (place_of c.op) (length table) (place-below c.op))
    (and-made (within-limit (has os InV) c.v _ (omega (arith, h.v)) (ap (λ (d : Command). d.v) bare))
    (and-made (within-limit (has os InW) c.w _ (omega (arith, h.w)) (ap (λ (d : Command). d.w) bare))
    (and-made (within-limit (has os InK) c.k _ (omega (arith, h.k)) (ap (λ (d : Command). d.k) bare))
    (and-made (within-limit (has os InT) c.t _ (omega (arith, h.t)) (ap (λ (d : Command). d.t) bare))
    (number-within (has os InN) c.n h.n (ap (λ (d : Command). d.n) bare))))))

-- a command of a record comes back
pub record-back : (c : CommandRecord) → c.word < length table → command_record (command_of c) ≡ c
unfolding command_record command_of
record-back c b i = record { word = word-place c.word b i; v = c.v; w = c.w; k = c.k; t = c.t; n = c.n }

-- and so does a command
pub command-back : (c : Command) → command_of (command_record c) ≡ c
unfolding command_record command_of row_for
command-back c i = record { op = (in_table c.op).own i; v = c.v; w = c.w; k = c.k; t = c.t; n = c.n }
