-- P1 to P11 hold: antt computes each.
use mathlib.Core.Path.{refl}
use Rattle.model_run.specs.Arith as Arith
use Rattle.model_run.specs.Step as Step
use Rattle.model_run.specs.Process as Process
use Rattle.model_run.specs.State as State
use Rattle.model_run.specs.Message as Message
use Rattle.model_run.specs.Run as Run
use Rattle.model_run.specs.Line as Line
use Rattle.model_run.specs.Verdict as Verdict
use Rattle.model_run.specs.Whole as Whole
use Rattle.model.specs.SheetA as SheetA
use Rattle.model_run.specs.Examples as Examples
use Rattle.model_run.specs.Examples.{AllHold, list}
use Rattle.model.proofs.Opened.{reading_opened}

-- opens every definition that a run of a sheet goes through
unfoldable pub opened : Unit {0}
unfolding reading_opened Arith.clamp Arith.outside Arith.computed Arith.sum Arith.difference Arith.product Arith.quotient
    Step.does Step.call_of
    Process.fresh Process.entry Process.refill Process.step Process.command Process.stopped
    State.at State.put State.each State.takes State.sends State.noted
    Message.shown Message.fill Message.received Message.receive Message.source Message.columns Message.line_now Message.send
    Verdict.waits Verdict.short Verdict.idles Verdict.no_room Verdict.verdict
    Run.share Run.lead Run.waits_at Run.followed Run.turn_by Run.ended Run.run_by Run.initial Run.after_turns Run.run_job_by
    Line.line_length Line.sign Line.cell Line.cells Line.heading Line.line_bytes Line.bytes_of Line.memory_after
    Whole.run_sheet Whole.printed
    Examples.result SheetA.sheet_a Examples.sheet8 Examples.list
opened = tt

pub examples : AllHold list
unfolding opened
examples = (refl, (refl, (refl, (refl, (refl, (refl, (refl, (refl, (refl, ((refl, refl), ((refl, refl), ((refl, refl), ((refl, refl), ((refl, refl), (refl, tt)))))))))))))))
