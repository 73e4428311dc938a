-- The first part, and the others behind its comma, or none.
use Rattle.std.proofs.Common.{◌≡◌, ◌∙◌, ◌∷◌, [], ◌+◌, List, sym, ap, arith, take, length, length-take-le}
use Rattle.model.specs.Text.{comma, split}
use Rattle.model_text.proofs.{LineLaws.find-le, LineLaws.split-end, LineLaws.split_at, TextLaws.rest}
use lib.Seq.{take_all}
use Rattle.read_messages.specs.Messages.{parts_left, left_in}
use Rattle.read_messages.proofs.PartsIterator.next.Goals as goal
use Rattle.read_messages.proofs.PartsIterator.next.Goals.{Joined-e-t, then-e-t, else-e-t}

pub slice_bounds-result-end : goal.slice_bounds-result-end
slice_bounds-result-end c = sym (length-take-le _ _ (rw c.find_byte-e.ensures (find-le comma _)))

taken : (c : Joined-e-t) → split comma c.in_ok-t.t.now ≡ take c.find_byte-e.result c.in_ok-t.t.now ∷ left_in c.if-e-t.self
taken c =
    let t = c.in_ok-t.t.now in
    let e = c.find_byte-e.result in
    elim c.if-e-t.branch [
      | then-e-t w ↦ rw w.self-is (split_at comma t e c.find_byte-e.ensures w.if-e-t.true _ (rest t (e + 1)))
      | else-e-t w ↦ rw w.self-is (split-end comma t e c.find_byte-e.ensures w.if-e-t.false ∙ ap (λ (x : List _). x ∷ []) (sym (take_all e t w.if-e-t.false)))
    ]

-- what was left is this part and what is left now
steps : (c : Joined-e-t) → parts_left c.args.self.now ≡ take c.find_byte-e.result c.in_ok-t.t.now ∷ left_in c.if-e-t.self
steps c = ap left_in c.in_ok-t.was ∙ taken c

pub returns-clause-steps : goal.returns-clause-steps
returns-clause-steps c = steps (goal.at.returns-clause-steps c).Joined-e-t

pub returns-clause-goes : goal.returns-clause-goes
returns-clause-goes c = let n = ap length (steps (goal.at.returns-clause-goes c).Joined-e-t) in record { on = λ f. (tt, tt, omega arith); keeps = tt; rests = λ f. tt }
