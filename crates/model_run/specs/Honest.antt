-- Document 02, Note 4, "Honest programs lose nothing": what it compares, and what is claimed of the paired model.
use Rattle.std.specs.Prelude.{ℕ, zero, suc, ◌*◌, ◌<◌, ◌≤◌, ◌≡◌, false, List, [], ◌∷◌, ◌++◌, map, length, get_or, drop}
use Rattle.model.specs.{Job.Job, Sheet.accepted, Sheet.read_sheet, Accepted.Every, Accepted.KeyBy, Answer.numbers_of, Answer.bytes_written}
use Rattle.model_run.specs.{Line.Sent, Line.line_length, Line.bytes_of, Run.run_job, Whole.Left, Whole.run_sheet}
use Rattle.model_run.specs.Plain.{PlainJob, call_at_step, entries_at_step}
use Rattle.model_run.specs.Data.{Entry, Absent, Number, Key, Open, Secret, Call, Neither, Receives, Sends, Level, Low, High, A}

-- "Take N from 1 to 512 and turns of N times LH."
unfoldable pub times_lh : ℕ → List Level
times_lh zero = []
times_lh (suc n) = Low ∷ High A ∷ times_lh n

-- ---- "Compare the plain run of N steps with the plain run on the same messages where every secret key of each message line holds its dummy."

-- "every secret key .. holds its dummy": in the place of an entry, and where the line lacks the key as well
unfoldable pub dummy_at : Key → Entry → Entry
dummy_at Open e = e
dummy_at (Secret o d) Absent = Number d
dummy_at (Secret o d) (Number z) = Number d

-- "of each message line"
unfoldable pub dummied : List Key → List Entry → List Entry
dummied [] es = []
dummied (k ∷ ks) es = dummy_at k (get_or es 0 Absent) ∷ dummied ks (drop 1 es)

-- the plain run of a job's program on some messages, on "the real messages", and on the same with the dummies
abbrev pub plain_on : List (List Entry) → Job → PlainJob
plain_on ms j = record { keys = length j.keys; commands = j.commands; messages = ms }

abbrev pub on_real : Job → PlainJob
on_real j = plain_on j.messages j

abbrev pub on_dummies : Job → PlainJob
on_dummies j = plain_on (map (dummied j.keys) j.messages) j

-- ---- "If both receive and send at the same steps, counted from 0, and send the same open entries"

-- Kind by kind and step by step; and at each step that sends, at each open key, the same number or none
pub record Honest (j : Job) (N : ℕ) : Type 0 where
  pub calls : (s : ℕ) → s < N → call_at_step (on_real j) s ≡ call_at_step (on_dummies j) s
  pub entries : (s : ℕ) → s < N → call_at_step (on_real j) s ≡ Sends
      → (k : ℕ) → k < length j.keys → get_or j.keys k Open ≡ Open
      → get_or (entries_at_step (on_real j) s) k Absent ≡ get_or (entries_at_step (on_dummies j) s) k Absent

-- ---- "then the monitor sends exactly what the plain run on real messages sends"

-- the line of a step that sends; "Step s shows as position 2 × s."
abbrev pub line_of_step : Call → ℕ → List Entry → List Sent
line_of_step Neither s es = []
line_of_step Receives s es = []
line_of_step Sends s es = record { position = 2 * s; columns = es } ∷ []

-- what the n steps from step s on send
unfoldable pub lines_from : PlainJob → ℕ → ℕ → List Sent
lines_from j s zero = []
lines_from j s (suc n) = line_of_step (call_at_step j s) s (entries_at_step j s) ++ lines_from j (suc s) n

-- what "the plain run of N steps" sends on the real messages
abbrev pub plain_lines : Job → ℕ → List Sent
plain_lines j N = lines_from (on_real j) 0 N

-- "and the lent memory holds all the lines", each of 10 + 12 × K bytes
abbrev pub HoldsLines : Job → ℕ → ℕ → Type 0
HoldsLines j N lent = line_length j.keys * length (plain_lines j N) ≤ lent

-- Of every job whose secrets are one owner's, as those of a sheet with the letters `L` and `H` are, whatever its
-- keys, commands, messages and dummies, and every N, so that those from 1 to 512 are among them: the lines of the
-- paired run are those lines. (How it ends is no part of the claim.)
abbrev pub HonestLosesNothing : Type 0
HonestLosesNothing = (j : Job) (N lent : ℕ) → Every (KeyBy false) j.keys → j.turns ≡ times_lh N → Honest j N → HoldsLines j N lent → (run_job j lent).lines ≡ plain_lines j N

-- What a run leaves in the memory m: those lines, the bytes written are theirs, and behind them the old bytes
pub record SendsAsPlain (j : Job) (N : ℕ) (m : List ℕ) (x : Left) : Type 0 where
  pub written : bytes_written (numbers_of x.answer) ≡ length (bytes_of (plain_lines j N))
  pub memory : x.memory ≡ bytes_of (plain_lines j N) ++ drop (length (bytes_of (plain_lines j N))) m

-- The same of an accepted sheet of the first form as a text, run as in demand 2
abbrev pub HonestSheetLosesNothing : Type 0
HonestSheetLosesNothing =
    (t : List ℕ) (j : Job) (N : ℕ) (m : List ℕ) → read_sheet t ≡ accepted j → j.form ≡ 1 → j.turns ≡ times_lh N → Honest j N → HoldsLines j N (length m)
    → SendsAsPlain j N m (run_sheet t m)

-- "Take N from 1 to 512": of an accepted sheet, which has from 1 to 1024 letters, N is one of these
abbrev pub PairsWithin : Type 0
PairsWithin = (t : List ℕ) (j : Job) (N : ℕ) → read_sheet t ≡ accepted j → j.turns ≡ times_lh N → (1 ≤ N) × (N ≤ 512)
