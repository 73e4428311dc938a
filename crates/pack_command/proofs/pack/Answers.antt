-- Each sum and product stays below what its parts have room for.
use mathlib.Core.Path.{ap, ◌∙◌}
use native.Mathlib.Omega.{arith}
use borrow.Author.Rules.{rules}
use mir.{Syntax.w32, ValLaws.to_z-of_z}
use Rattle.pack_command.specs.Pack.{command_number, shifted}
use Rattle.pack_command.proofs.pack.Goals as goal

pub returns : goal.returns
unfolding command_number
returns c =
    let s = c in
    omega (arith, s.number_of.ensures.0, c.shift.ensures.0 ∙ ap shifted (to_z-of_z w32 s.args.c.n (search rules)))
