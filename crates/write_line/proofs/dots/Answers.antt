-- A part of eleven places, filled.
use Prim.Native.Nat.{ℕ, ◌+◌, ◌-◌, ◌≤◌}
use mathlib.Core.Path.{◌≡◌, ap, ◌∙◌}
use native.Mathlib.Omega.{arith}
use lib.{ListN.length, ListN.take, ListN.drop, ListN.replicate, ListN.length-drop, Seq.length-take-le}
use Rattle.model.specs.Text.{dot}
use Rattle.write_text.proofs.Laws.{placed_part}
use Rattle.write_line.proofs.dots.Goals as goal

pub returns : goal.returns
returns c =
    let d = c.args.out.now in
    let at = c.args.at in
    let n = at + 11 - at in
    let h : n ≤ length (drop at d) = omega (arith, length-drop at d) in
    let eleven : length (take n (drop at d)) ≡ 11 = length-take-le n (drop at d) h ∙ omega arith in
    placed_part d at {s = replicate 11 dot} (c.fill.ensures.after (λ y e. e) ∙ ap (λ (m : ℕ). replicate m dot) eleven) (omega arith) (omega arith)
