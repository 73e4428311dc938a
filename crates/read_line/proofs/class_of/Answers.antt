-- Each range by its ends: what is told of a byte there holds of every byte of it.
use mathlib.Core.Path.{sym, ◌∙◌}
use Prim.Native.Nat.{ℕ, ◌≤◌}
use mathlib.Core.Logic.{⊎_elim}
use native.Mathlib.Omega.{arith}
use Rattle.model.specs.Text.{class_of}
use Rattle.model_text.proofs.TextLaws.{between_in, between-out, between-less, digit-class, small-class, capital-class, other-class, below-class, above-class}
use Rattle.read_line.proofs.class_of.Goals as goal
use Rattle.read_line.proofs.class_of.Goals.{Else-b-eq32, Else-between, Else-not-between}

pub returns-then-not-between : goal.returns-then-not-between
returns-then-not-between c =
    let b = c.args.b in
    let e = sym c.between.ensures ∙ c.if-not-between.true in
    ⊎_elim (λ h. sym (below-class b (omega arith) (omega arith))) (λ h. sym (above-class b (omega arith))) (between-out _ _ b e)

-- the points of the code: the first test, that of digits, and that of the last single byte
abbrev range_of : Else-between → Else-not-between
range_of c = (goal.at.Else-between c).Else-not-between

abbrev digits_of : Else-b-eq32 → Else-between
digits_of c = (goal.at.Else-b-eq32 c).Else-between

abbrev byte_of : Else-not-between → ℕ
byte_of c = c.args.b

-- the largest range
allowed : (c : Else-not-between) → (32 ≤ byte_of c) × (byte_of c ≤ 126)
allowed c =
    let b = byte_of c in
    let h = between_in _ _ b (sym c.between.ensures ∙ c.if-not-between.false) in
    (omega (arith, h.0), omega (arith, h.1))

pub returns : goal.returns
returns c =
    let p = (goal.at.returns c).Else-b-eq32 in
    let d = digits_of p in
    let r = range_of d in
    let b = byte_of r in
    let h = allowed r in
    sym (other-class b h.0 h.1
    (between-less b (sym d.between-2.ensures ∙ d.if-between.false) 48 57 (omega arith) (omega arith))
    p.if-b-eq45.false p.if-b-eq44.false p.if-b-eq58.false p.if-b-eq61.false p.if-b-eq32.false
    (between-less b (sym c.between-3.ensures ∙ c.if-between-2.false) 97 122 (omega arith) (omega arith))
    (between-less b (sym c.between-4.ensures ∙ c.if-between-3.false) 65 90 (omega arith) (omega arith)))

pub returns-then-b-eq10 : goal.returns-then-b-eq10
unfolding class_of
returns-then-b-eq10 c = rw c.if-b-eq10.true

pub returns-then-between : goal.returns-then-between
unfolding class_of
returns-then-between c = let b = byte_of (goal.at.returns-then-between c).Else-not-between in let h = between_in _ _ b (sym c.between-2.ensures ∙ c.if-between.true) in sym (digit-class b (omega (arith, h.0)) (omega (arith, h.1)))

pub returns-then-b-eq45 : goal.returns-then-b-eq45
unfolding class_of
returns-then-b-eq45 c = rw c.if-b-eq45.true

pub returns-then-b-eq44 : goal.returns-then-b-eq44
unfolding class_of
returns-then-b-eq44 c = rw c.if-b-eq44.true

pub returns-then-b-eq58 : goal.returns-then-b-eq58
unfolding class_of
returns-then-b-eq58 c = rw c.if-b-eq58.true

pub returns-then-b-eq61 : goal.returns-then-b-eq61
unfolding class_of
returns-then-b-eq61 c = rw c.if-b-eq61.true

pub returns-then-b-eq32 : goal.returns-then-b-eq32
unfolding class_of
returns-then-b-eq32 c = rw c.if-b-eq32.true

pub returns-then-between-2 : goal.returns-then-between-2
unfolding class_of
returns-then-between-2 c = let b = byte_of (range_of (digits_of (goal.at.returns-then-between-2 c).Else-b-eq32)) in let h = between_in _ _ b (sym c.between-3.ensures ∙ c.if-between-2.true) in sym (small-class b (omega (arith, h.0)) (omega (arith, h.1)))

pub returns-then-between-3 : goal.returns-then-between-3
unfolding class_of
returns-then-between-3 c = let b = byte_of (range_of (digits_of (goal.at.returns-then-between-3 c).Else-b-eq32)) in let h = between_in _ _ b (sym c.between-4.ensures ∙ c.if-between-3.true) in sym (capital-class b (omega (arith, h.0)) (omega (arith, h.1)))
