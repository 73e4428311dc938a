-- What stands before the first space is the word, and what follows it are the parts.
use Rattle.std.proofs.Common.{◌∙◌, arith}
use Rattle.read_command.proofs.{Words.lookup-at, Laws.line-by-word}
use Rattle.read_command.proofs.read_command.Goals as goal

pub returns : goal.returns
returns c =
    let w = c.first_word-w in
    let by_code = lookup-at c.args.s.now w.result.end _ (λ i. omega (arith, c.type_inv.s i)) w.ensures.1 in
    c.read_operands.ensures ∙ line-by-word _ _ w.result.end w.ensures.0 (c.word_by_code.ensures ∙ by_code)
