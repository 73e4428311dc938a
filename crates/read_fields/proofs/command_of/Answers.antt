-- The word at its place, and the operands as they are.
use mathlib.Core.Path.{sym, ◌∙◌}
use borrow.Author.Rules.{rules}
use mir.{Syntax.w32, ValLaws.to_z-of_z}
use Rattle.model.specs.Accepted.{row_at}
use Rattle.model_record.specs.Record.{command_of}
use Rattle.model_record.proofs.Commands.{word-place}
use Rattle.read_fields.proofs.command_of.Goals as goal

pub returns : goal.returns
unfolding command_of
returns c =
    let r = c.args.c in
    let op = c.op_at.ensures (row_at r.word).op (c.from.ensures ∙ sym (word-place r.word c.requires.word)) in
    rw (op, to_z-of_z w32 r.n (search rules))
