-- A sheet of document 02's Note 8, with its relatives, and the jobs that they say. Definitions alone: what they are
-- read as, run to and written from is claimed where that is defined.
use Prim.Native.String.{String}
use Rattle.std.specs.Prelude.{ℕ, List, ◌++◌, [], ◌∷◌}
use lib.{IntN.pos}
use Rattle.model.specs.{Text.bytes, Command.blank, Job.Job}
use Rattle.model.specs.Data.{Entry, Absent, Number, Key, Open, Secret, Owner, A, B, Add, Read, Put, Receive, Send, Level, Low, High}

-- three keys, the second A's and the third B's; what follows the first `secret=`, the message lines, and what follows
-- `turns=`
unfoldable pub sheet_two : String → String → String → List ℕ
sheet_two secret m t =
    bytes "sheet=2\nkeys=3\nsecret="
    ++ (bytes secret
    ++ (bytes "\nsecret=2:400:B\ndo=receive\ndo=read 0 1\ndo=read 1 2\ndo=add 0 1\ndo=put 1 0\ndo=put 2 0\ndo=send\n" ++ (bytes m ++ (bytes "turns=" ++ (bytes t ++ bytes "\n")))))

-- with these message lines, and with this first `secret` line
abbrev pub rounds : String
rounds = "LABLABLABLABLABLABLAB"

unfoldable pub with_messages : String → List ℕ
with_messages m = sheet_two "1:300:A" m rounds

unfoldable pub with_secret : String → List ℕ
with_secret s = sheet_two s "msg=0:7,1:10,2:20\n" rounds

-- The jobs: three keys, one of each owner; one message with these entries at the secret keys; these turns
abbrev pub keys_two : List Key
keys_two = Open ∷ Secret A (pos 300) ∷ Secret B (pos 400) ∷ []

abbrev pub job_of_two : List (List Entry) → List Level → Job
job_of_two ms ls =
    record {
      form = 2;
      keys = keys_two;
      commands =
          blank Receive ∷ record { op = Read; v = 0; w = 0; k = 1; t = 0; n = pos 0 } ∷ record { op = Read; v = 1; w = 0; k = 2; t = 0; n = pos 0 }
          ∷ record { op = Add; v = 0; w = 1; k = 0; t = 0; n = pos 0 } ∷ record { op = Put; v = 0; w = 0; k = 1; t = 0; n = pos 0 }
          ∷ record { op = Put; v = 0; w = 0; k = 2; t = 0; n = pos 0 } ∷ blank Send ∷ [];
      messages = ms;
      turns = ls;
    }

abbrev pub rounds_two : List Level
rounds_two =
    Low ∷ High A ∷ High B ∷ Low ∷ High A ∷ High B ∷ Low ∷ High A ∷ High B ∷ Low ∷ High A ∷ High B ∷ Low ∷ High A ∷ High B ∷ Low ∷ High A ∷ High B ∷ Low ∷ High A
    ∷ High B ∷ []

abbrev pub job_two : Entry → Entry → Job
job_two a b = job_of_two ((Number (pos 7) ∷ a ∷ b ∷ []) ∷ []) rounds_two

-- both entries; B's missing; others of both
abbrev pub sheet_both : List ℕ
sheet_both = with_messages "msg=0:7,1:10,2:20\n"

abbrev pub sheet_less : List ℕ
sheet_less = with_messages "msg=0:7,1:10\n"

abbrev pub sheet_other : List ℕ
sheet_other = with_messages "msg=0:7,2:21\n"

abbrev pub job_both : Job
job_both = job_two (Number (pos 10)) (Number (pos 20))

abbrev pub job_less : Job
job_less = job_two (Number (pos 10)) Absent

abbrev pub job_other : Job
job_other = job_two Absent (Number (pos 21))
