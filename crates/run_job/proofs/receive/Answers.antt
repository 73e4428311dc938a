-- One field more, and all of them.
use mathlib.Core.Path.{◌∙◌}
use mathlib.Core.List.{[]}
use Rattle.run_job.proofs.Keys.{fill_more, fill_done}
use Rattle.run_job.proofs.Views.{received_is}
use Rattle.run_job.proofs.receive.Goals as goal

pub loop-k-preserved : goal.loop-k-preserved
loop-k-preserved c = fill_more c.requires.sound c.loop-k.invariant c.loop-k-test.true c.received.result c.received.ensures

pub returns : goal.returns
returns c l =
    fill_done c.requires.sound c.loop-k.invariant c.loop-k-test.false l
    ∙ received_is c.requires.sound l c.args.taken c.readable.result (record { slots = [] }) c.readable.ensures
