-- One turn on what a run holds: what it leaves there, and in the output memory.
use Rattle.std.specs.Prelude.{ℕ, ◌≡◌, List, [], ◌∷◌, ◌++◌, length, drop}
use Rattle.model_run.specs.{Line.Sent, Line.bytes_of, Verdict.Verdict, Verdict.GoesOn, Verdict.Ends, Verdict.verdict, Run.turn}
use Rattle.model.specs.{Stored.job_of}
use Rattle.model.specs.declared.{Level.Level, StoredJob.StoredJob}
use Rattle.model.specs.Placed.{placed}
use Rattle.run_job.specs.Held.{Held, state_of}

-- The turn of a level: from what was held and the memory m to what is held then and the memory m'. The lines sent
-- before are any list: the turn adds to them, and writes what it adds behind the bytes written.
pub record Turned (j : StoredJob) (l : Level) (sent : List Sent) (h h' : Held) (m m' : List ℕ) : Type 0 where
  pub new : List Sent
  pub state : turn (job_of j).keys (job_of j).commands l (state_of j sent h) ≡ state_of j (sent ++ new) h'
  pub memory : m' ≡ placed m h.bytes (bytes_of new)

-- the letters that are left, and what is found before the next turn with so many bytes lent
abbrev pub letters_left : StoredJob → Held → List Level
letters_left j h = drop h.clock.positions (job_of j).turns

abbrev pub found_before : StoredJob → ℕ → List Sent → Held → Verdict
found_before j room sent h = verdict (job_of j).keys (job_of j).commands room (letters_left j h) (state_of j sent h)

-- What a function would promise that takes one turn of a run which its host holds: where an ending is found all is left
-- as it was, else the turn is that of the next letter's level, whatever was sent before. (Where no letter is left, an
-- ending is found.)
abbrev pub next_turn : StoredJob → List Level → List Sent → Held → Held → List ℕ → List ℕ → Type 0
next_turn j [] sent h h' m m' = ⊥
next_turn j (l ∷ ls) sent h h' m m' = Turned j l sent h h' m m'

abbrev pub scanned_by : Verdict → StoredJob → List Sent → Held → Held → List ℕ → List ℕ → Type 0
scanned_by (Ends e) j sent h h' m m' = (h' ≡ h) × (m' ≡ m)
scanned_by GoesOn j sent h h' m m' = next_turn j (letters_left j h) sent h h' m m'

abbrev pub Scanned : StoredJob → Held → Held → List ℕ → List ℕ → Type 0
Scanned j h h' m m' = (sent : List Sent) → scanned_by (found_before j (length m) sent h) j sent h h' m m'
