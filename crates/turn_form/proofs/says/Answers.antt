-- The keys, then the turns; the second form says all.
use mathlib.Core.Path.{sym, ap, ◌∙◌}
use Rattle.model.specs.Stored.{job_of}
use Rattle.model_forms.specs.Forms.{says}
use Rattle.model_forms.specs.declared.Asked.{Asked}
use Rattle.turn_form.proofs.Laws.{key-most, turn-most, says-owners, says-turns, keys-shown}
use Rattle.turn_form.proofs.says.Goals as goal

pub shared_ref_as_front-keys_a : goal.shared_ref_as_front-keys_a
shared_ref_as_front-keys_a c = key-most c.args.job.now c.requires.0 c.requires.1

pub shared_ref_as_front-turns_a : goal.shared_ref_as_front-turns_a
shared_ref_as_front-turns_a c = turn-most c.args.job.now c.requires.0 c.requires.1

pub returns-then-keys_a : goal.returns-then-keys_a
unfolding job_of
returns-then-keys_a c =
    let j = job_of c.args.job.now in
    c.turns_a.ensures ∙ sym (ap (λ (a : Asked). says a j) c.in-One.is ∙ says-turns j (sym (keys-shown c.args.job.now) ∙ sym c.keys_a.ensures ∙ c.if-keys_a.true))

pub returns-else-keys_a : goal.returns-else-keys_a
unfolding job_of
returns-else-keys_a c =
    let j = job_of c.args.job.now in
    c.if-keys_a.false ∙ sym (ap (λ (a : Asked). says a j) c.in-One.is ∙ says-owners j (sym (keys-shown c.args.job.now) ∙ sym c.keys_a.ensures ∙ c.if-keys_a.false))
