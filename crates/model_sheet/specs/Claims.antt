-- Reading a sheet and writing the sheet that says a job are inverse.
use Rattle.std.specs.Prelude.{ℕ, ◌≤◌, Bool, true, false, List, length}
use mathlib.Core.{Path.◌≡◌, Logic.◌↔◌}
use Rattle.model.specs.{Job.Job, Sheet.accepted, Sheet.read_sheet, Accepted.Sound, Form.form_of}
use Rattle.model_sheet.specs.Sheet.{sheet_text}

-- The job of an accepted sheet is `Sound`: within the limits, and with no operand that a word lacks (`AcceptedSound`). Every sound job has its sheet, which is
-- read as this job.
abbrev pub ReadsBack : Type 0
ReadsBack = (j : Job) → Sound j → read_sheet (sheet_text j) ≡ accepted j

-- an accepted sheet is the text of its job, byte for byte
abbrev pub WritesBack : Type 0
WritesBack = (s : List ℕ) (j : Job) → read_sheet s ≡ accepted j → sheet_text j ≡ s

-- Both in one: a sheet says a job exactly if the job is sound and the sheet is its text. So accepted sheets and sound jobs are one to one.
abbrev pub Exactly : Type 0
Exactly = (s : List ℕ) (j : Job) → (read_sheet s ≡ accepted j) ↔ (Sound j × (sheet_text j ≡ s))

-- No sheet has more bytes than these: 8 of `sheet`, 7 of `keys`, 8 secrets of 21, or with an owner of 23, 64 commands
-- of 21, 32 messages of 116, and 1,031 of `turns`. The limit of 16,384 bytes is never reached, so no written sheet is
-- refused with 1.
abbrev pub longest_by : Bool → ℕ
longest_by false = 6270
longest_by true = 6286

-- of the form n
abbrev pub longest_sheet : ℕ → ℕ
longest_sheet n = longest_by (form_of n).owners

abbrev pub Short : Type 0
Short = (j : Job) → Sound j → length (sheet_text j) ≤ longest_sheet j.form
