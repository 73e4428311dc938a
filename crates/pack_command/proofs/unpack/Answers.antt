-- The parts of the number one by one.
use mathlib.Core.Path.{◌∙◌}
use borrow.Author.Rules.{sfits_of}
use mir.{Syntax.w32, ValLaws.to_z-of_z}
use Rattle.pack_command.proofs.Laws.{parts}
use Rattle.pack_command.proofs.unpack.Goals as goal

pub returns : goal.returns
returns c d h e =
    let p = parts c.args.x d h e in
    let op = c.op_at.ensures d.op p.op in
    let n = to_z-of_z w32 c.unshift.result (sfits_of c.unshift.type_inv) ∙ c.unshift.ensures d.n h.n p.n in
    simp (op, p.v, p.w, p.k, p.t, n)
