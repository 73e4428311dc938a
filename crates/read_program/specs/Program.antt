-- What the readers of the commands answer: f is the form of the sheet, s the text that one is given, and first the number of its first line.
use Rattle.std.specs.Prelude.{◌≡◌, Option, None, Some, IfSome, Result, IfOk, List, ℕ, ◌+◌, ◌≤◌, ◌<◌, length, take}
use Rattle.model.specs.{Job.Job, Stored.command_capacity, Program.read_commands, Sheet.Reading, Sheet.accepted, Sheet.refused, Sheet.targets}
use Rattle.model.specs.declared.{Form.Form, Command.Command, Fault.Fault}
use Rattle.read_line.specs.Phase.{Reads}
use Rattle.read_line.specs.declared.Mark.{Mark}

-- r is the count of the commands, which stand at the front of cs
pub record CommandsRead (f : Form) (K : ℕ) (s : List ℕ) (first : ℕ) (r : Result (ℕ × Mark) Fault) (cs : List Command) : Type 0 where
  pub read : Reads (read_commands f K) (λ n. take n cs) s first r
  pub few : IfOk r (λ x. x.0 ≤ length cs)
  pub all : length cs ≡ command_capacity

-- the reading of the job j by the first command whose target is too far, the first command being on the line top
abbrev pub far_as : ℕ → Job → Option ℕ → Reading
far_as top j None = accepted j
far_as top j (Some i) = refused 7 (top + i)

-- r is the place of the first of the commands whose target exceeds their count
pub record FirstFar (cs : List Command) (r : Option ℕ) : Type 0 where
  pub reading : (top : ℕ) (j : Job) → targets top (length cs) cs j ≡ far_as top j r
  pub place : IfSome r (λ i. i < length cs)
