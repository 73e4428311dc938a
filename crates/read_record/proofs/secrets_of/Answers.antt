-- The secrets that are left pass as all of them do, and give the keys of all, entered where the others stand.
use mathlib.Core.Path.{ap₂, ◌∙◌, refl}
use mathlib.Core.Bool.{and-false}
use native.Mathlib.Omega.{arith}
use borrow.Author.{Rules.rules}
use lib.{IntN.pos, ListN.get_or, ListN.length-set}
use mir.{Syntax.w32, Val.SFits, ValLaws.to_z-of_z}
use Rattle.model.specs.Stored.{key_capacity, open_slot}
use Rattle.model.specs.declared.Key.TheVariants.{Secret}
use Rattle.model_record.specs.Record.{owner_fits, secrets_fit, keys_of}
use Rattle.model_record.specs.declared.SecretRecord.{SecretRecord}
use Rattle.read_record.proofs.Laws.{entering-begins, entering-bad, entering-more, entering-end, hides-enters, secret-fits, owner-there, owner-none}
use Rattle.read_record.proofs.secrets_of.Goals as goal

pub loop-s-init : goal.loop-s-init
loop-s-init c = (rw c.open_keys-slots.ensures (entering-begins key_capacity open_slot c.requires), rw c.open_keys-slots.ensures refl)

-- what an array of secrets has beyond its end
abbrev blank : SecretRecord
blank = record { key = 0; dummy = pos 0; owner = 0 }

pub returns-in_err-owner : goal.returns-in_err-owner
unfolding secrets_fit
returns-in_err-owner c =
    let s : SecretRecord = get_or c.args.secrets.now c.loop-s.s-index blank in
    let o = owner-none (owner_fits c.args.owners s.owner) _ c.in_err-owner.ensures in
    rw c.from_residual.ensures (entering-bad c.loop-s.invariant.0 blank c.loop-s-test.true (rw o (and-false _)))

pub returns-then-not-fits : goal.returns-then-not-fits
unfolding secrets_fit
returns-then-not-fits c = entering-bad c.loop-s.invariant.0 blank c.loop-s-test.true (rw c.if-not-fits.true)

pub loop-s-preserved : goal.loop-s-preserved
loop-s-preserved c =
    let s : SecretRecord = get_or c.args.secrets.now c.loop-s.s-index blank in
    let f : SFits w32 s.dummy = search rules in
    let o = owner-there (owner_fits c.args.owners s.owner) c.in_ok-owner.ensures in
    let h = c.loop-s.invariant in (
      entering-more h.0 hides-enters blank _ c.loop-s-test.true c.if-not-fits.false (secret-fits c.args.owners s f ∙ o.0) (ap₂ Secret o.1 (to_z-of_z w32 _ f)),
      simp length-set h.1,
    )

pub returns : goal.returns
unfolding secrets_fit keys_of
returns c =
    let h = c.loop-s.invariant in
    let e = entering-end h.0 hides-enters c.loop-s-test.false in
    (e.0, record { are = e.1; room = omega (arith, h.1, c.requires) })
