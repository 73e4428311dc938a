-- A power of ten that a number reaches, where the next is above it, has as many zeros as the number has further digits.
use Prim.Native.Nat.{ℕ, zero, suc, ◌^◌, ◌<◌, ◌≤◌, max}
use mathlib.Core.Path.{◌≡◌, refl, ◌∙◌}
use mathlib.Core.Logic.{inl, inr}
use native.Mathlib.{Omega.arith, Numerals.add-one}
use Rattle.model.proofs.Decimal.{tens, tens-most}
use Rattle.write_text.proofs.Laws.{Reached, width-found}
use Rattle.write_text.proofs.width_of.Goals as goal

tens-power : (v : ℕ) → tens v ≡ 10 ^ v
unfolding tens
tens-power zero = refl
tens-power (suc v) = omega (arith, tens-power v)

-- 0 has a digit as 1 has
reached : (n m v : ℕ) → m ≡ max n 1 → tens v ≤ m → Reached v n
reached n m zero e h = inl refl
reached n m (suc v) e h = let t = tens-most v in inr (omega arith)

pub returns : goal.returns
unfolding tens
returns c =
    let v = c.ilog10.result in
    let t = tens-power v in
    let e = c.ilog10.ensures in
    let h : tens v ≤ c.max.result = omega arith in
    let l : c.args.n < tens (suc v) = omega (arith, c.max.ensures) in
    add-one v ∙ width-found v c.args.n (omega arith) l (reached c.args.n c.max.result v c.max.ensures h)
