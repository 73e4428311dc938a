-- Of the secrets, those from key k on are still to store.
use native.Mathlib.Omega.{arith}
use borrow.Author.Rules.{rules}
use mir.{Syntax.w32, ValLaws.to_z-of_z}
use Rattle.write_record.proofs.Laws.{secrets-none, secrets-one, secrets-end}
use Rattle.write_record.proofs.secrets_over.Goals as goal
use Rattle.write_record.proofs.secrets_over.Goals.{in-Secret, in_default}

pub loop-k-preserved : goal.loop-k-preserved
loop-k-preserved c =
    let a = c.args in
    let h = c.loop-k.invariant in
    elim c.match-slot.branch [
      | in-Secret w ↦
          let z = to_z-of_z w32 w.in-Secret.dummy (search rules) in
          let e = secrets-one a.owners a.slots.now h.1 w.in-Secret.owner w.in-Secret.dummy c.loop-k-test.true w.in-Secret.is in
          (omega (arith, h.0, w.count-is), rw (w.records-is, w.count-is, z, w.owner_number.ensures) e)
      | in_default w ↦ (omega (arith, h.0, w.count-is), rw (w.records-is, w.count-is) (secrets-none a.owners a.slots.now h.1 c.loop-k-test.true w.in_default.is))
    ]

pub returns : goal.returns
returns c =
    let e = secrets-end c.args.owners c.args.slots.now c.loop-k.invariant.1 c.loop-k-test.false (omega (arith, c.loop-k.invariant, c.loop-k.auto, c.requires)) in
    record { count = e.0; secrets = e.1 }
