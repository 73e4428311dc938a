-- Each answer is a case of `secret` with two owners: a colon that lacks, the key and the dummy, the owner.
use Rattle.std.proofs.Common.{◌≡◌, ◌<◌, ◌∙◌, ◌+◌, ◌-◌, ℕ, List, sym, ap, arith, rules, ℤ, length, take, drop}
use lib.{ListN.length-drop, Seq.length-take-le}
use mir.{Syntax.w32, ValLaws.to_z-of_z}
use Rattle.model.specs.{Parsed.got, Head.owner}
use Rattle.model.specs.declared.Key.TheVariants.{Secret}
use Rattle.model.proofs.Handed.{refused-handed}
use Rattle.model_text.proofs.TextLaws.{rest}
use Rattle.read_secret.proofs.Laws.{owned-no-colon, owned-one-colon, owned-bad, owned-unnamed, owned-ok}
use Rattle.read_secret.proofs.read_owned.Goals as goal

-- what stands behind the first colon, at the place a
long : (p : List ℕ) (a : ℕ) → length (take (length p - (a + 1)) (drop (a + 1) p)) ≡ length p - (a + 1)
long p a = ap length (rest p (a + 1)) ∙ length-drop (a + 1) p

pub returns-then-p-a : goal.returns-then-p-a
returns-then-p-a c = sym (owned-no-colon _ _ _ _ c.find_byte-a.ensures c.if-p-a.true)

pub returns-then-t-b : goal.returns-then-t-b
returns-then-t-b c =
    sym (owned-one-colon _ _ _ _ c.find_byte-a.ensures c.if-p-a.false _ (rest c.args.p.now (c.find_byte-a.result + 1)) _ c.find_byte-b.ensures c.if-t-b.true)

pub overflow_add-a-2 : goal.overflow_add-a-2
overflow_add-a-2 c = omega (arith, long c.args.p.now c.find_byte-a.result, c.if-t-b.false)

pub slice_bounds-read_pair-end : goal.slice_bounds-read_pair-end
slice_bounds-read_pair-end c = sym (length-take-le _ _ (omega (arith, long c.args.p.now c.find_byte-a.result, c.if-t-b.false)))

pub returns-in_err-k : goal.returns-in_err-k
returns-in_err-k c =
    refused-handed _ _ c.from_residual.ensures.1
    ∙ sym (owned-bad _ _ _ _ c.find_byte-a.ensures c.if-p-a.false _ (rest c.args.p.now (c.find_byte-a.result + 1)) _ c.find_byte-b.ensures c.if-t-b.false _ (sym c.in_err-k.ensures))

pub returns-in_err-owner : goal.returns-in_err-owner
returns-in_err-owner c =
    let n = ap owner (sym (rest _ (c.find_byte-b.result + 1))) ∙ sym c.in_err-owner.ensures in
    refused-handed _ _ c.from_residual-in_err-owner.ensures.1
    ∙ sym (owned-unnamed _ _ _ _ c.find_byte-a.ensures c.if-p-a.false _ (rest c.args.p.now (c.find_byte-a.result + 1)) _ c.find_byte-b.ensures c.if-t-b.false _ _ (sym c.in_ok-k.ensures) _ n)

pub returns : goal.returns
returns c =
    let n = ap owner (sym (rest _ (c.find_byte-b.result + 1))) ∙ sym c.in_ok-owner.ensures in
    ap (λ (z : ℤ). got (c.in_ok-k.k, Secret c.in_ok-owner.owner z)) (to_z-of_z w32 c.in_ok-k.dummy (search rules))
    ∙ sym (owned-ok _ _ _ _ c.find_byte-a.ensures c.if-p-a.false _ (rest c.args.p.now (c.find_byte-a.result + 1)) _ c.find_byte-b.ensures c.if-t-b.false _ _ (sym c.in_ok-k.ensures) _ n)
