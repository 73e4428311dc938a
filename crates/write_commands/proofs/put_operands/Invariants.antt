-- Of what follows a word, the operands from one on are still to put.
use lib.ListN.{drop}
use Rattle.model.specs.Text.{space}
use Rattle.model_text.specs.Text.{prefixed, operand_texts}
use Rattle.write_text.proofs.Laws.{Putting}
use Rattle.write_commands.proofs.put_operands.Given as goal

abbrev pub invariant-loop-o : goal.invariant-loop-o
invariant-loop-o l = Putting l.initial.out l.at (prefixed space (operand_texts l.operands l.c)) l.out l.next (prefixed space (operand_texts (drop l.o-index l.operands) l.c))
