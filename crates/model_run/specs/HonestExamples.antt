-- Note 4 speaks of something: a program that is honest though its lines hold secrets, and one for each part of the hypothesis that fails there alone and is spoilt.
use Rattle.std.specs.Prelude.{ℕ, zero, suc, ◌≡◌, ◌≢◌, List, [], ◌∷◌, ◌++◌, get_or}
use Prim.Native.String.{String}
use Rattle.model.specs.{Text.bytes, Job.Job, Sheet.Reading, Sheet.accepted, Sheet.refused, Sheet.read_sheet, Accepted.Every}
use Rattle.model_run.specs.{Line.bytes_of, Run.run_job, Examples.lent_by_runsheet}
use Rattle.model_run.specs.Plain.{PlainJob, call_at_step, entries_at_step}
use Rattle.model_run.specs.Honest.{times_lh, on_real, on_dummies, Honest, plain_lines, HoldsLines}
use Rattle.model_run.specs.Data.{Absent, Call, Neither, Receives, Sends, Level}

-- the job that a sheet says; of a refused one, which none of these is, one with nothing in it
abbrev pub said : Reading → Job
said (accepted j) = j
said (refused n l) = record { form = 1; keys = []; commands = []; messages = []; turns = [] }

-- what f gives for the n steps from step s on, and the calls of a plain run of N steps
unfoldable pub steps_from : {A : Type 0} → (ℕ → A) → ℕ → ℕ → List A
steps_from f s zero = []
steps_from f s (suc n) = f s ∷ steps_from f (suc s) n

abbrev pub calls_of : PlainJob → ℕ → List Call
calls_of j N = steps_from (call_at_step j) 0 N

-- What is compared of a job: its turns; the calls of the plain run of N steps on the real messages, and of the one on the dummies; the bytes that the monitor
-- sends, and those that the plain run on the real messages sends
pub record Comparison : Type 0 where
  pub turns : List Level
  pub real : List Call
  pub dummies : List Call
  pub monitor : List ℕ
  pub plain : List ℕ

unfoldable pub compared : Job → ℕ → Comparison
compared j N =
    record {
      turns = j.turns;
      real = calls_of (on_real j) N;
      dummies = calls_of (on_dummies j) N;
      monitor = bytes_of (run_job j lent_by_runsheet).lines;
      plain = bytes_of (plain_lines j N);
    }

-- A sheet of so many pairs of turns, with these calls and texts
pub record Case : Type 0 where
  pub sheet : List ℕ
  pub steps : ℕ
  pub real : List Call
  pub dummies : List Call
  pub monitor : String
  pub plain : String

abbrev pub job : Case → Job
job c = said (read_sheet c.sheet)

-- It is accepted, there is memory for the lines, and it is as it says
pub record Shown (c : Case) : Type 0 where
  pub accepts : read_sheet c.sheet ≡ accepted (job c)
  pub room : HoldsLines (job c) c.steps lent_by_runsheet
  pub compares : compared (job c) c.steps ≡ record { turns = times_lh c.steps; real = c.real; dummies = c.dummies; monitor = bytes c.monitor; plain = bytes c.plain }

-- It fails the hypothesis, and the conclusion
pub record Spoilt (c : Case) : Type 0 where
  pub shown : Shown c
  pub hypothesis : ¬ Honest (job c) c.steps
  pub conclusion : (run_job (job c) lent_by_runsheet).lines ≢ plain_lines (job c) c.steps

-- ---- An honest program

abbrev pub lines_honest : String
lines_honest = "sent=0008 +0000000001 +0000000010\nsent=0020 +0000000002 +0000000000\n"

abbrev pub calls_honest : List Call
calls_honest = Receives ∷ Neither ∷ Neither ∷ Neither ∷ Sends ∷ Neither ∷ Receives ∷ Neither ∷ Neither ∷ Neither ∷ Sends ∷ Neither ∷ []

-- it doubles the secret entry of each message, where the dummy is 300; the second line lacks it
abbrev pub doubles : Case
doubles =
    record {
      sheet =
          bytes "sheet=1\nkeys=2\nsecret=1:300\ndo=receive\ndo=read 0 1\ndo=add 0 0\ndo=put 1 0\ndo=send\ndo=jump 0\nmsg=0:1,1:5\nmsg=0:2\n"
          ++ bytes "turns=LHLHLHLHLHLHLHLHLHLHLHLH\n";
      steps = 12;
      real = calls_honest;
      dummies = calls_honest;
      monitor = lines_honest;
      plain = lines_honest;
    }

-- The hypothesis holds, and the conclusion: the lines are the same. What it sends at steps 4 and 10 differs in the secret entry from what it sends on the dummies.
-- Its two lines of 34 bytes need 68: these hold all the lines, and with one fewer the second is not sent.
pub record HonestExample : Type 0 where
  pub shown : Shown doubles
  pub honest : Honest (job doubles) 12
  pub same : (run_job (job doubles) lent_by_runsheet).lines ≡ plain_lines (job doubles) 12
  pub first : get_or (entries_at_step (on_real (job doubles)) 4) 1 Absent ≢ get_or (entries_at_step (on_dummies (job doubles)) 4) 1 Absent
  pub second : get_or (entries_at_step (on_real (job doubles)) 10) 1 Absent ≢ get_or (entries_at_step (on_dummies (job doubles)) 10) 1 Absent
  pub enough : HoldsLines (job doubles) 12 68
  pub short : (run_job (job doubles) 67).lines ≢ plain_lines (job doubles) 12

-- ---- For each weaker hypothesis, a program that it would call honest

-- "both receive and send", kind by kind: here both call at the same steps, and the last call is of another kind.
abbrev pub either_kind : Case
either_kind =
    record {
      sheet = bytes "sheet=1\nkeys=1\nsecret=0:0\ndo=receive\ndo=has 0 0\ndo=ifzero 0 4\ndo=receive\ndo=send\nmsg=\nturns=LHLHLHLH\n";
      steps = 4;
      real = Receives ∷ Neither ∷ Neither ∷ Sends ∷ [];
      dummies = Receives ∷ Neither ∷ Neither ∷ Receives ∷ [];
      monitor = "";
      plain = "sent=0006 ...........\n";
    }

-- "at the same steps": here both make the same calls in the same order, and the send comes a step later.
abbrev pub order_only : Case
order_only =
    record {
      sheet = bytes "sheet=1\nkeys=2\nsecret=1:1\ndo=receive\ndo=has 0 1\ndo=ifzero 0 4\ndo=set 0 1\ndo=send\nmsg=\nturns=LHLHLHLHLH\n";
      steps = 5;
      real = Receives ∷ Neither ∷ Neither ∷ Sends ∷ Neither ∷ [];
      dummies = Receives ∷ Neither ∷ Neither ∷ Neither ∷ Sends ∷ [];
      monitor = "sent=0008 ........... ...........\n";
      plain = "sent=0006 ........... ...........\n";
    }

-- Only steps below N count: in its first three steps this program is honest.
abbrev pub OrderBefore : Type 0
OrderBefore = Honest (job order_only) 3

-- "receive and send": here both send at the same steps, and a receive before that is one run's alone.
abbrev pub sends_only : Case
sends_only =
    record {
      sheet =
          bytes "sheet=1\nkeys=1\nsecret=0:-1\ndo=receive\ndo=has 0 0\ndo=ifzero 0 5\ndo=drop 0\ndo=jump 7\ndo=receive\ndo=jump 7\ndo=put 0 2\ndo=send\n"
          ++ bytes "msg=\nturns=LHLHLHLHLHLHLH\n";
      steps = 7;
      real = Receives ∷ Neither ∷ Neither ∷ Receives ∷ Neither ∷ Neither ∷ Sends ∷ [];
      dummies = Receives ∷ Neither ∷ Neither ∷ Neither ∷ Neither ∷ Neither ∷ Sends ∷ [];
      monitor = "sent=0012 ...........\n";
      plain = "sent=0012 +0000000000\n";
    }

-- "and send the same open entries": here all calls are the same, and the open entry tells whether the line has the secret one. It has not, so that with a dummy
-- in the place of an entry only both plain runs would be the same run.
abbrev pub calls_only : Case
calls_only =
    record {
      sheet = bytes "sheet=1\nkeys=2\nsecret=1:1\ndo=receive\ndo=has 0 1\ndo=put 0 0\ndo=send\nmsg=\nturns=LHLHLHLH\n";
      steps = 4;
      real = Receives ∷ Neither ∷ Neither ∷ Sends ∷ [];
      dummies = Receives ∷ Neither ∷ Neither ∷ Sends ∷ [];
      monitor = "sent=0006 +0000000001 ...........\n";
      plain = "sent=0006 +0000000000 ...........\n";
    }

abbrev pub AllSpoilt : Type 0
AllSpoilt = Every Spoilt (either_kind ∷ order_only ∷ sends_only ∷ calls_only ∷ [])
