-- The tests one after the other, by the limits of the word's operands.
use borrow.Author.Rules.{rules}
use Rattle.read_fields.proofs.Words.{command-test}
use Rattle.read_fields.proofs.command_fits.Goals as goal

pub returns : goal.returns
returns c =
    command-test c.args.keys c.args.count c.args.c (search rules) c.limit.ensures c.limit-2.ensures c.limit-3.ensures c.limit-4.ensures
