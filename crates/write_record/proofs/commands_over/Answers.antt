-- The first i commands are stored.
use native.Mathlib.Omega.{arith}
use Rattle.model.specs.{Command.blank, declared.Op.TheVariants.Set}
use Rattle.model_record.specs.Record.{command_record}
use Rattle.write_record.proofs.Laws.{filling-begins, each_more, each-ends}
use Rattle.write_record.proofs.commands_over.Goals as goal

pub loop-i-init : goal.loop-i-init
loop-i-init c = filling-begins

pub loop-i-preserved : goal.loop-i-preserved
loop-i-preserved c =
    each_more command_record c.args.commands.now c.loop-i.i c.loop-i.invariant (blank Set) c.command_record.result c.loop-i-test.true c.command_record.ensures

pub returns : goal.returns
returns c = each-ends command_record c.args.commands.now c.loop-i.i c.loop-i.invariant c.loop-i-test.false (omega (arith, c.loop-i.auto))
