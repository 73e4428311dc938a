-- Every turn cites the law of its kind in proofs/Loop.antt, and each ending the test that finds it.
use Prim.Native.Nat.{ℕ}
use mathlib.Core.Path.{sym, ap, ap₂, ◌∙◌}
use native.Mathlib.{Omega.arith}
use lib.{ListN.length, ListN.length-replicate}
use Rattle.model.specs.{Stored.letter_capacity}
use Rattle.model.specs.declared.{Call.Call, Execution.Execution}
use Rattle.model.specs.declared.Call.TheVariants.{Neither}
use Rattle.model.specs.declared.Owner.{Owner}
use Rattle.model.specs.declared.Owner.TheVariants.{A, B}
use Rattle.model.specs.declared.Level.TheVariants.{Low, High}
use Rattle.model.proofs.Ready.{few}
use Rattle.run_job.proofs.Views.{operands-at}
use Rattle.run_job.proofs.Loop.{begins, led, goes-on, fits, stops, ticks, place-small, calls-small, clamped-small, runs-out, kinds-inside, no-room, after-follow, after-receive, after-send, after-command, small, stored-call}
use Rattle.run_job.proofs.run_job.Goals as goal
use Rattle.run_job.proofs.run_job.Goals.{in-Low+in-Receives+else-count-low, in-Low+in-Sends+else-out-bytes+else-count-low-2, in-Low+in-Neither+else-count-low-3, in-High-A, in-High-B}

pub loop-at-init : goal.loop-at-init
loop-at-init c =
    record {
      kept = begins c.requires _ _ _ _ _ _ _ c.begun-low.ensures c.begun-a.ensures c.begun-b.ensures c.cleared-message.ensures
          (ap₂ (λ (p s : ℕ). record { positions = p; steps = s }) c.default-clock.ensures.0 c.default-clock.ensures.1);
      full = ap length c.cleared-message.ensures;
      noted = length-replicate {A = Call} letter_capacity Neither;
      live = omega (arith, ap (λ (x : Execution). x.place) c.begun-low.ensures, (few c.requires).some);
      here = c.default-clock.ensures.0;
    }

pub overflow_sub-out : goal.overflow_sub-out
overflow_sub-out c = (small c.requires c.loop-at.invariant.kept).room

-- there is no room for a send's line
pub ended-requires-then-out-bytes : goal.ended-requires-then-out-bytes
ended-requires-then-out-bytes c = fits c.requires (led c.requires c.loop-at.invariant)

pub returns-then-out-bytes : goal.returns-then-out-bytes
returns-then-out-bytes c =
    no-room c.requires c.loop-at.invariant c.loop-at-test.true (sym c.level_of.ensures ∙ c.in-Low.is) (sym c.call_of.ensures ∙ c.in-Sends.is) c.if-out-bytes.true
    c.ended-then-out-bytes.result c.ended-then-out-bytes.ensures

-- a low turn after which the execution has stopped, by its three kinds
pub ended-requires : goal.ended-requires
ended-requires c =
    fits c.requires
    (after-receive c.requires c.loop-at.invariant c.loop-at-test.true (sym c.level_of.ensures ∙ c.in-Low.is) (sym c.call_of.ensures ∙ c.in-Receives.is) c.receive.ensures c.receive.auto.message c.taken_after-taken.ensures
    (stored-call c.loop-at.low c.called-next.ensures) c.ticked-clock.ensures)

pub returns-then-count-low : goal.returns-then-count-low
returns-then-count-low c =
    stops c.requires
    (after-receive c.requires c.loop-at.invariant c.loop-at-test.true (sym c.level_of.ensures ∙ c.in-Low.is) (sym c.call_of.ensures ∙ c.in-Receives.is) c.receive.ensures c.receive.auto.message c.taken_after-taken.ensures
    (stored-call c.loop-at.low c.called-next.ensures) c.ticked-clock.ensures)
    c.if-count-low.true c.ended.result c.ended.ensures

pub ended-requires-then-count-low-2 : goal.ended-requires-then-count-low-2
ended-requires-then-count-low-2 c =
    fits c.requires
    (after-send c.requires c.loop-at.invariant c.loop-at-test.true (sym c.level_of.ensures ∙ c.in-Low.is) (sym c.call_of.ensures ∙ c.in-Sends.is) c.if-out-bytes.false c.send.ensures
    (stored-call c.loop-at.low c.called-next-in-Sends.ensures) c.ticked-clock-in-Sends.ensures)

pub returns-then-count-low-2 : goal.returns-then-count-low-2
returns-then-count-low-2 c =
    stops c.requires
    (after-send c.requires c.loop-at.invariant c.loop-at-test.true (sym c.level_of.ensures ∙ c.in-Low.is) (sym c.call_of.ensures ∙ c.in-Sends.is) c.if-out-bytes.false c.send.ensures
    (stored-call c.loop-at.low c.called-next-in-Sends.ensures) c.ticked-clock-in-Sends.ensures)
    c.if-count-low-2.true c.ended-then-count-low-2.result c.ended-then-count-low-2.ensures

pub ended-requires-then-count-low-3 : goal.ended-requires-then-count-low-3
ended-requires-then-count-low-3 c =
    fits c.requires (after-command c.requires c.loop-at.invariant c.loop-at-test.true (sym c.level_of.ensures ∙ c.in-Low.is) (sym c.call_of.ensures ∙ c.in-Neither.is) c.step.ensures c.ticked-clock-in-Neither.ensures)

pub returns-then-count-low-3 : goal.returns-then-count-low-3
returns-then-count-low-3 c =
    stops c.requires (after-command c.requires c.loop-at.invariant c.loop-at-test.true (sym c.level_of.ensures ∙ c.in-Low.is) (sym c.call_of.ensures ∙ c.in-Neither.is) c.step.ensures c.ticked-clock-in-Neither.ensures)
    c.if-count-low-3.true c.ended-then-count-low-3.result c.ended-then-count-low-3.ensures

pub bounds-kinds-low : goal.bounds-kinds-low
bounds-kinds-low c = omega (arith, kinds-inside c.requires c.loop-at.invariant c.loop-at-test.true Low, c.loop-at.invariant.noted)

pub bounds-kinds-low-in-Sends : goal.bounds-kinds-low-in-Sends
bounds-kinds-low-in-Sends c = omega (arith, kinds-inside c.requires c.loop-at.invariant c.loop-at-test.true Low, c.loop-at.invariant.noted)

pub called-next-requires : goal.called-next-requires
called-next-requires c = let i = c.loop-at.invariant in (place-small c.requires i, calls-small c.requires i Low)

pub called-next-requires-in-Sends : goal.called-next-requires-in-Sends
called-next-requires-in-Sends c = let i = c.loop-at.invariant in (place-small c.requires i, calls-small c.requires i Low)

pub step-requires-clause-key : goal.step-requires-clause-key
step-requires-clause-key c =
    let i = c.loop-at.invariant in
    omega (arith, i.full, (few c.requires).keys, (operands-at c.requires c.loop-at.low.place i.live).k)

pub step-requires-clause-v : goal.step-requires-clause-v
step-requires-clause-v c = (operands-at c.requires c.loop-at.low.place c.loop-at.invariant.live).v

pub step-requires-clause-w : goal.step-requires-clause-w
step-requires-clause-w c = (operands-at c.requires c.loop-at.low.place c.loop-at.invariant.live).w

pub step-requires-clause-calls : goal.step-requires-clause-calls
step-requires-clause-calls c = calls-small c.requires c.loop-at.invariant Low

pub step-requires-clause-clamped : goal.step-requires-clause-clamped
step-requires-clause-clamped c = clamped-small c.requires c.loop-at.invariant Low

pub ticked-clock-requires : goal.ticked-clock-requires
ticked-clock-requires c = ticks c.requires c.loop-at.invariant

pub ticked-clock-requires-in-Sends : goal.ticked-clock-requires-in-Sends
ticked-clock-requires-in-Sends c = ticks c.requires c.loop-at.invariant

pub ticked-clock-requires-in-Neither : goal.ticked-clock-requires-in-Neither
ticked-clock-requires-in-Neither c = ticks c.requires c.loop-at.invariant

pub follow-requires-clause-calls : goal.follow-requires-clause-calls
follow-requires-clause-calls c = let i = c.loop-at.invariant in (kinds-inside c.requires i c.loop-at-test.true (High A), calls-small c.requires i (High A))

pub follow-requires-clause-clamped : goal.follow-requires-clause-clamped
follow-requires-clause-clamped c = clamped-small c.requires c.loop-at.invariant (High A)

pub ticked-clock-requires-in-High-A : goal.ticked-clock-requires-in-High-A
ticked-clock-requires-in-High-A c = ticks c.requires c.loop-at.invariant

pub follow-requires-in-High-B-clause-calls : goal.follow-requires-in-High-B-clause-calls
follow-requires-in-High-B-clause-calls c =
    let i = c.loop-at.invariant in
    (kinds-inside c.requires i c.loop-at-test.true (High B), calls-small c.requires i (High B))

pub follow-requires-in-High-B-clause-clamped : goal.follow-requires-in-High-B-clause-clamped
follow-requires-in-High-B-clause-clamped c = clamped-small c.requires c.loop-at.invariant (High B)

pub ticked-clock-requires-in-High-B : goal.ticked-clock-requires-in-High-B
ticked-clock-requires-in-High-B c = ticks c.requires c.loop-at.invariant

pub loop-at-preserved : goal.loop-at-preserved
loop-at-preserved c =
    elim c.match-level_of.branch [
      | in-Low+in-Receives+else-count-low w ↦
          rw (w.out-is, w.low-is, w.a-is, w.b-is, w.message-is, w.kinds-is, w.clock-is, w.bytes-is, w.taken-is)
          (goes-on c.requires
          (after-receive c.requires c.loop-at.invariant c.loop-at-test.true (sym c.level_of.ensures ∙ w.in-Low.is) (sym w.call_of.ensures ∙ w.in-Receives.is) w.receive.ensures w.receive.auto.message w.taken_after-taken.ensures
          (stored-call c.loop-at.low w.called-next.ensures) w.ticked-clock.ensures)
          w.if-count-low.false)
      | in-Low+in-Sends+else-out-bytes+else-count-low-2 w ↦
          rw (w.out-is, w.low-is, w.a-is, w.b-is, w.message-is, w.kinds-is, w.clock-is, w.bytes-is, w.taken-is)
          (goes-on c.requires
          (after-send c.requires c.loop-at.invariant c.loop-at-test.true (sym c.level_of.ensures ∙ w.in-Low.is) (sym w.call_of.ensures ∙ w.in-Sends.is) w.if-out-bytes.false w.send.ensures
          (stored-call c.loop-at.low w.called-next-in-Sends.ensures) w.ticked-clock-in-Sends.ensures)
          w.if-count-low-2.false)
      | in-Low+in-Neither+else-count-low-3 w ↦
          rw (w.out-is, w.low-is, w.a-is, w.b-is, w.message-is, w.kinds-is, w.clock-is, w.bytes-is, w.taken-is)
          (goes-on c.requires (after-command c.requires c.loop-at.invariant c.loop-at-test.true (sym c.level_of.ensures ∙ w.in-Low.is) (sym w.call_of.ensures ∙ w.in-Neither.is) w.step.ensures w.ticked-clock-in-Neither.ensures) w.if-count-low-3.false)
      | in-High-A w ↦
          rw (w.out-is, w.low-is, w.a-is, w.b-is, w.message-is, w.kinds-is, w.clock-is, w.bytes-is, w.taken-is)
          (after-follow c.requires c.loop-at.invariant c.loop-at-test.true A (sym c.level_of.ensures ∙ w.in-High-A.is ∙ ap (λ (o : Owner). High o) w.in-High-A.field-0-is)
          w.follow.ensures w.follow.auto.message w.ticked-clock-in-High-A.ensures)
      | in-High-B w ↦
          rw (w.out-is, w.low-is, w.a-is, w.b-is, w.message-is, w.kinds-is, w.clock-is, w.bytes-is, w.taken-is)
          (after-follow c.requires c.loop-at.invariant c.loop-at-test.true B (sym c.level_of.ensures ∙ w.in-High-B.is ∙ ap (λ (o : Owner). High o) w.in-High-B.field-0-is)
          w.follow-in-High-B.ensures w.follow-in-High-B.auto.message w.ticked-clock-in-High-B.ensures)
    ]

pub ended-requires-2 : goal.ended-requires-2
ended-requires-2 c = fits c.requires (led c.requires c.loop-at.invariant)

pub returns : goal.returns
returns c = runs-out c.requires c.loop-at.invariant c.loop-at-test.false c.ended-2.result c.ended-2.ensures
