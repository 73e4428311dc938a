-- One owner, or two.
use Rattle.std.proofs.Common.{◌≡◌, ◌∙◌, sym, ap, rules, Bool, ℤ}
use mir.{Syntax.w32, ValLaws.to_z-of_z}
use Rattle.model.specs.{Parsed.got, Head.secret}
use Rattle.model.specs.declared.{Key.TheVariants.Secret, Owner.TheVariants.A}
use Rattle.model.proofs.Handed.{refused-handed}
use Rattle.read_secret.proofs.Laws.{single-bad, single-ok}
use Rattle.read_secret.proofs.read_secret.Goals as goal

pub returns-then-owners : goal.returns-then-owners
returns-then-owners c =
    let a = c.args in
    c.read_owned.ensures ∙ ap (λ (two : Bool). secret two a.keys a.next a.p.now) (sym c.if-owners.true)

pub returns-in_err-k : goal.returns-in_err-k
returns-in_err-k c =
    let a = c.args in
    refused-handed _ _ c.from_residual.ensures.1
    ∙ sym (single-bad a.keys a.next a.p.now _ (sym c.in_err-k.ensures))
    ∙ ap (λ (two : Bool). secret two a.keys a.next a.p.now) (sym c.if-owners.false)

pub returns : goal.returns
returns c =
    let a = c.args in
    ap (λ (z : ℤ). got (c.in_ok-k.k, Secret A z)) (to_z-of_z w32 c.in_ok-k.dummy (search rules))
    ∙ sym (single-ok a.keys a.next a.p.now _ _ (sym c.in_ok-k.ensures))
    ∙ ap (λ (two : Bool). secret two a.keys a.next a.p.now) (sym c.if-owners.false)
