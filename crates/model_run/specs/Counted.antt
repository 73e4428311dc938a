-- What the counts of a run are.
use Rattle.std.specs.Prelude.{ℕ, suc, ◌+◌, ◌*◌, ◌≤◌, List, [], ◌∷◌, ◌≡◌, length, take}
use Rattle.model.specs.{Job.Job}
use Rattle.model_run.specs.{State.Role, State.leads, State.follows, State.role, Line.bytes_of, Run.low_turns_of, Run.run_job, Clamped.clamped_in}
use Rattle.model_run.specs.Data.{Level}

-- the L letters of a list: those whose level leads
abbrev pub lows_by : Role → ℕ → ℕ
lows_by leads n = suc n
lows_by follows n = n

unfoldable pub lows : List Level → ℕ
lows [] = 0
lows (l ∷ ls) = lows_by (role l) (lows ls)

-- "Positions used .. is never above the count of letters, and low steps equals the L letters among the letters used." "Bytes written is 10 + 12 × K
-- for each line sent", as many as these lines have, and never above the bytes lent. "Messages taken counts lines". Note 3: "the clamped results of the low
-- execution alone", those in its turns among the letters used, so never above the low steps.
pub record Counted (j : Job) (lent : ℕ) : Type 0 where
  pub positions : (run_job j lent).counts.positions ≤ length j.turns
  pub steps : (run_job j lent).counts.steps ≡ lows (take (run_job j lent).counts.positions j.turns)
  pub bytes : (run_job j lent).counts.bytes ≡ (10 + 12 * length j.keys) * length (run_job j lent).lines
  pub sent : length (bytes_of (run_job j lent).lines) ≡ (run_job j lent).counts.bytes
  pub room : (run_job j lent).counts.bytes ≤ lent
  pub taken : (run_job j lent).counts.taken ≤ length j.messages
  pub clamped : (run_job j lent).counts.clamped ≡ clamped_in j.commands (low_turns_of j (run_job j lent).counts.positions)
  pub clamped_steps : (run_job j lent).counts.clamped ≤ (run_job j lent).counts.steps
