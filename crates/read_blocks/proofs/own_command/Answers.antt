-- By what the table says of the word.
use Rattle.std.proofs.Common.{◌≡◌, ◌∙◌, sym, arith, take}
use Rattle.model.specs.Command.{table}
use Rattle.model.proofs.Handed.{refused-handed}
use Rattle.read_command.specs.Code.{lookup, lookup_code}
use Rattle.read_command.proofs.Words.{lookup-at}
use Rattle.read_blocks.proofs.Words.{own-unknown, own-left-out, own-by-word}
use Rattle.read_blocks.proofs.own_command.Goals as goal
use Rattle.read_blocks.proofs.own_command.Goals.{After-word_by_code}

-- the number of the word is asked
asked : (c : After-word_by_code) → lookup_code table c.args.w.code ≡ lookup (take c.args.w.end c.args.l.now)
asked c = lookup-at _ _ _ (λ i. omega (arith, c.type_inv.l i)) c.requires.3

pub returns-in_err-op : goal.returns-in_err-op
returns-in_err-op c = refused-handed _ _ c.from_residual.ensures.1 ∙ own-unknown _ _ _ (c.in_err-op.ensures ∙ asked (goal.at.returns-in_err-op c).After-word_by_code)

pub returns-then-goes_elsewhere : goal.returns-then-goes_elsewhere
returns-then-goes_elsewhere c =
    sym (own-left-out _ _ _ _ _ (c.in_ok-op.ensures ∙ asked (goal.at.returns-then-goes_elsewhere c).After-word_by_code) (sym c.if-goes_elsewhere.true ∙ c.goes_elsewhere.ensures))

pub returns : goal.returns
returns c =
    c.read_by_row.ensures
    ∙ sym (own-by-word _ _ _ _ _ (c.in_ok-op.ensures ∙ asked (goal.at.returns c).After-word_by_code) (sym c.if-goes_elsewhere.false ∙ c.goes_elsewhere.ensures))

pub read_by_row-requires : goal.read_by_row-requires
read_by_row-requires c = let h = c.requires in record { some = h.0; few = omega arith; near = omega arith }
