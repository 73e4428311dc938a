-- Of the message's text, the parts from key k on are still to put.
use native.Mathlib.Omega.{arith}
use borrow.Author.Rules.{rules}
use mathlib.Core.Path.{sym, ap, ◌∙◌}
use mir.{Syntax.w32, ValLaws.to_z-of_z}
use Rattle.model.specs.declared.Entry.TheVariants.{Number}
use Rattle.write_text.proofs.Laws.{putting-begins, putting-more, putting-room, putting-ends}
use Rattle.write_messages.proofs.Laws.{parts_all, parts_none, parts_one, parts_end}
use Rattle.write_messages.proofs.put_entries.Goals as goal
use Rattle.write_messages.proofs.put_entries.Goals.{in-Number, in_default}

pub loop-k-init : goal.loop-k-init
loop-k-init c = putting-begins (parts_all _)

pub put_part-next-requires : goal.put_part-next-requires
put_part-next-requires c =
    let l = c.loop-k in
    let v = to_z-of_z w32 c.in-Number.v (search rules) in
    let h = parts_one c.args.slots.now l.first l.k _ (omega arith) (c.in-Number.is ∙ ap Number (sym v)) in
    (omega arith, putting-room _ _ c.requires.1 l.auto.out (rw h at l.invariant))

pub loop-k-preserved : goal.loop-k-preserved
loop-k-preserved c =
    let l = c.loop-k in
    let slots = c.args.slots.now in
    elim c.match-slot.branch [
      | in-Number w ↦
          let v = to_z-of_z w32 w.in-Number.v (search rules) in
          let h = parts_one slots l.first l.k _ (omega arith) (w.in-Number.is ∙ ap Number (sym v)) in
          rw (w.out-is, w.next-is, w.first-is) (putting-more _ _ (rw h at l.invariant) w.put_part-next.ensures)
      | in_default w ↦
          let h = parts_none slots l.first l.k (omega arith) w.in_default.is in
          rw (w.out-is, w.next-is, w.first-is) (rw h at l.invariant)
    ]

pub returns : goal.returns
returns c = let l = c.loop-k in putting-ends (parts_end c.args.slots.now l.first l.k (omega arith)) l.invariant
