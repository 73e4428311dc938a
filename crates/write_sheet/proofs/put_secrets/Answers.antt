-- Of the `secret` lines, those from key k on are still to put.
use native.Mathlib.Omega.{arith}
use borrow.Author.Rules.{rules}
use mathlib.Core.Path.{sym, ap, ◌∙◌}
use mir.{Syntax.w32, ValLaws.to_z-of_z}
use Rattle.model.specs.declared.Key.TheVariants.{Secret}
use Rattle.write_text.proofs.Laws.{putting-begins, putting-more, putting-room, putting-ends}
use Rattle.write_sheet.proofs.Laws.{secrets_all, secrets_none, secrets_one, secrets_end}
use Rattle.write_sheet.proofs.put_secrets.Goals as goal
use Rattle.write_sheet.proofs.put_secrets.Goals.{in-Secret, in_default}

pub loop-k-init : goal.loop-k-init
loop-k-init c = putting-begins (secrets_all _ _)

pub put_secret-next-requires : goal.put_secret-next-requires
put_secret-next-requires c =
    let l = c.loop-k in
    let v = to_z-of_z w32 c.in-Secret.dummy (search rules) in
    let h = secrets_one c.args.owners c.args.slots.now l.k _ _ (omega arith) (c.in-Secret.is ∙ ap (Secret c.in-Secret.owner) (sym v)) in
    (omega arith, putting-room _ _ c.requires.1 l.auto.out (rw h at l.invariant))

pub loop-k-preserved : goal.loop-k-preserved
loop-k-preserved c =
    let l = c.loop-k in
    let slots = c.args.slots.now in
    elim c.match-slot.branch [
      | in-Secret w ↦
          let v = to_z-of_z w32 w.in-Secret.dummy (search rules) in
          let h = secrets_one c.args.owners slots l.k _ _ (omega arith) (w.in-Secret.is ∙ ap (Secret w.in-Secret.owner) (sym v)) in
          rw (w.out-is, w.next-is) (putting-more _ _ (rw h at l.invariant) w.put_secret-next.ensures)
      | in_default w ↦
          let h = secrets_none c.args.owners slots l.k (omega arith) w.in_default.is in
          rw (w.out-is, w.next-is) (rw h at l.invariant)
    ]

pub returns : goal.returns
returns c = let l = c.loop-k in putting-ends (secrets_end c.args.owners c.args.slots.now l.k (omega arith)) l.invariant
