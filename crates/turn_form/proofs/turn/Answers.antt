-- 48, 47, or the job with its form changed.
use mathlib.Core.Path.{◌≡◌, sym, ◌∙◌}
use Rattle.model.specs.{Stored.job_of}
use Rattle.model_forms.specs.Forms.{number}
use Rattle.model_forms.proofs.Forms.{turn-same, turn-cannot, turn-gives}
use Rattle.turn_form.proofs.turn.Goals as goal

pub returns-then-job-form : goal.returns-then-job-form
unfolding job_of
returns-then-job-form c =
    let a = c.args in
    record { is = sym (turn-same a.asked (job_of a.job) (c.if-job-form.true ∙ c.number_of-form.ensures)); stored = tt }

pub returns-then-not-says : goal.returns-then-not-says
unfolding job_of
returns-then-not-says c =
    let a = c.args in
    let another : (job_of a.job).form ≡ number a.asked → ⊥ = λ e. c.if-job-form.false (e ∙ sym c.number_of-form.ensures) in
    record { is = sym (turn-cannot a.asked (job_of a.job) another (sym c.says.ensures ∙ c.if-not-says.true)); stored = tt }

pub returns : goal.returns
unfolding job_of
returns c =
    let a = c.args in
    let p = c.requires.1 in
    let another : (job_of a.job).form ≡ number a.asked → ⊥ = λ e. c.if-job-form.false (e ∙ sym c.number_of-form.ensures) in
    record {
      is = sym (turn-gives a.asked (job_of a.job) another (sym c.says.ensures ∙ c.if-not-says.false) ∙ rw (sym c.number_of-form.ensures));
      stored = record { keys = p.keys; commands = p.commands; messages = p.messages; turns = p.turns };
    }
