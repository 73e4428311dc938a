-- Each answer is a case of `pair`: no colon, the key, the order, the value.
use Rattle.std.proofs.Common.{◌∙◌, ◌+◌, sym, ap, arith, rules, ℤ}
use lib.{Seq.length-take-le}
use mir.{Syntax.w32, ValLaws.to_z-of_z}
use Rattle.model.specs.{Number.number, Parsed.got}
use Rattle.model.proofs.Handed.{refused-handed}
use Rattle.model_text.proofs.TextLaws.{rest}
use Rattle.read_pair.proofs.Laws.{pair-no-colon, pair-key-bad, pair-order, pair-value-bad, pair_ok}
use Rattle.read_pair.proofs.read_pair.Goals as goal

pub returns-then-p-e : goal.returns-then-p-e
returns-then-p-e c = sym (pair-no-colon _ _ _ _ c.find_byte-e.ensures c.if-p-e.true)

pub slice_bounds-up_to-end : goal.slice_bounds-up_to-end
slice_bounds-up_to-end c = sym (length-take-le _ _ (omega arith))

pub returns-in_err-k : goal.returns-in_err-k
returns-in_err-k c = refused-handed _ _ c.from_residual.ensures.1 ∙ sym (pair-key-bad _ _ _ _ c.find_byte-e.ensures c.if-p-e.false _ (sym c.in_err-k.ensures))

pub returns-then-k-next : goal.returns-then-k-next
returns-then-k-next c = sym (pair-order _ _ _ _ c.find_byte-e.ensures c.if-p-e.false _ (sym c.in_ok-k.ensures) (omega arith))

pub returns-in_err-v : goal.returns-in_err-v
returns-in_err-v c =
    let e = c.find_byte-e.result in
    let v = ap number (sym (rest c.args.p.now (e + 1))) ∙ sym c.in_err-v.ensures in
    refused-handed _ _ c.from_residual-in_err-v.ensures.1
    ∙ sym (pair-value-bad _ _ _ _ c.find_byte-e.ensures c.if-p-e.false _ (sym c.in_ok-k.ensures) _ c.if-k-next.false v)

pub returns : goal.returns
returns c =
    let e = c.find_byte-e.result in
    let v = ap number (sym (rest c.args.p.now (e + 1))) ∙ sym c.in_ok-v.ensures in
    ap (λ (z : ℤ). got (c.in_ok-k.k, z)) (to_z-of_z w32 c.in_ok-v.v (search rules))
    ∙ sym (pair_ok _ _ _ _ c.find_byte-e.ensures c.if-p-e.false _ (sym c.in_ok-k.ensures) _ c.if-k-next.false v)
