-- Sheet A of document 01, as a text and as a job.
use Rattle.std.specs.Prelude.{ℕ, List, ◌++◌, [], ◌∷◌}
use Prim.Native.String.{String}
use Rattle.model.specs.{Text.bytes, Command.blank, Job.Job}
use lib.{IntN.pos}
use Rattle.model.specs.Data.{Entry, Number, Key, Open, Secret, Read, Put, Receive, Send, Stop, Level, Low, High, A}

-- Sheet A, with what follows `msg=` and `turns=`
unfoldable pub sheet_a : String → String → List ℕ
sheet_a m t =
    bytes "sheet=1\nkeys=2\nsecret=1:300\ndo=receive\ndo=read 0 1\ndo=put 1 0\ndo=send\ndo=stop\nmsg="
    ++ (bytes m ++ (bytes "\nturns=" ++ (bytes t ++ bytes "\n")))

abbrev pub keys_a : List Key
keys_a = Open ∷ Secret A (pos 300) ∷ []

abbrev pub job_a : Entry → List Level → Job
job_a e ls =
    record {
      form = 1;
      keys = keys_a;
      commands =
          blank Receive ∷ record { op = Read; v = 0; w = 0; k = 1; t = 0; n = pos 0 } ∷ record { op = Put; v = 0; w = 0; k = 1; t = 0; n = pos 0 }
          ∷ blank Send ∷ blank Stop ∷ [];
      messages = (Number (pos 1500) ∷ e ∷ []) ∷ [];
      turns = ls;
    }

-- "turns=LHLHLHLHLH"
abbrev pub ten : List Level
ten = Low ∷ High A ∷ Low ∷ High A ∷ Low ∷ High A ∷ Low ∷ High A ∷ Low ∷ High A ∷ []

abbrev pub job1 : Job
job1 = job_a (Number (pos 1480)) ten
