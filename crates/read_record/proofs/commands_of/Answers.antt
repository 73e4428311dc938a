-- The commands that are left pass as all of them do, and make the rest of what all make.
use mathlib.Core.Path.{sym, ◌∙◌, refl}
use mathlib.Core.List.{map-id}
use native.Mathlib.Omega.{arith}
use lib.{IntN.pos, ListN.length-set}
use Rattle.model_record.specs.declared.CommandRecord.{CommandRecord}
use Rattle.model_text.proofs.Tests.{tested-bad, tested-end}
use Rattle.read_fields.proofs.{Words.narrow}
use Rattle.read_record.proofs.Laws.{left, none, taking-begins, taking-more, taking-end}
use Rattle.read_record.proofs.commands_of.Goals as goal

-- what an array of commands has beyond its end
abbrev blank : CommandRecord
blank = record { word = 0; v = 0; w = 0; k = 0; t = 0; n = pos 0 }

pub loop-i-init : goal.loop-i-init
loop-i-init c = (taking-begins _ _ _ _ _, rw c.no_commands-taken.ensures refl)

pub returns-then-not-command_fits : goal.returns-then-not-command_fits
returns-then-not-command_fits c =
    tested-bad c.loop-i.invariant.0.tested (left _ _ blank c.loop-i-test.true) (sym c.command_fits.ensures ∙ c.if-not-command_fits.true)

pub command_of-requires : goal.command_of-requires
command_of-requires c = narrow _ _ _ c.requires.1 c.requires.2 (sym c.command_fits.ensures ∙ c.if-not-command_fits.false)

pub loop-i-preserved : goal.loop-i-preserved
loop-i-preserved c =
    let h = c.loop-i.invariant in (
      taking-more h.0 blank _ c.loop-i-test.true (sym c.command_fits.ensures ∙ c.if-not-command_fits.false) c.command_of.ensures (omega (arith, h.1, c.requires.0, c.loop-i-test.true)),
      simp length-set h.1,
    )

pub returns : goal.returns
returns c =
    let h = c.loop-i.invariant in (
      tested-end h.0.tested (none _ _ c.loop-i-test.false),
      record { are = sym (map-id _) ∙ taking-end h.0 (omega (arith, c.loop-i-test.false, c.loop-i.auto)); room = omega (arith, h.1, c.requires.0) },
    )
