-- The phase of one line, with the number that it holds.
use Rattle.std.proofs.Common.{◌∙◌, sym, ap, Err}
use Rattle.model.specs.Refusal.{parsed}
use Rattle.model.proofs.{Accepted.from-one-bound, Handed.handed}
use Rattle.read_line.proofs.Laws.{one-other, one-bad, one_ok, read-faulted, refused-faulted}
use Rattle.read_head.specs.Head.{itself}
use Rattle.read_head.proofs.number_line.Goals as goal

pub returns-in_default : goal.returns-in_default
returns-in_default c = record { read = λ w W. one-other W c.first_line.ensures _ itself c.in_default.is; range = tt }

pub returns-in_err-n : goal.returns-in_err-n
returns-in_err-n c =
    let q = refused-faulted _ _ _ c.in_err-n.ensures in
    rw (handed _ _ c.from_residual.ensures.1 ∙ ap Err q.2)
    (record { read = λ w W. one-bad W c.first_line.ensures _ itself c.in-Some.is (sym c.from_one.ensures ∙ ap parsed q.1); range = tt })

pub returns : goal.returns
returns c =
    let b = sym c.from_one.ensures ∙ ap parsed (read-faulted _ _ _ c.in_ok-n.ensures) in
    record { read = λ w W. one_ok W c.first_line.ensures _ itself c.in-Some.is b; range = from-one-bound _ _ _ b }
