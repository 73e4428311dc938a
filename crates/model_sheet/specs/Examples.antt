-- Two sheets, written from their jobs: sheet A of document 01, and one with two secrets, an empty message and every kind of operand.
use Rattle.std.specs.Prelude.{◌≡◌, List, [], ◌∷◌, ℕ, pos, negsuc}
use Rattle.model.specs.{Text.bytes, SheetA.sheet_a, Job.Job, SheetA.job1}
use Rattle.model.specs.{SheetTwo.job_both, SheetTwo.sheet_both}
use Rattle.model.specs.declared.Entry.TheVariants.{Absent, Number}
use Rattle.model.specs.declared.Key.TheVariants.{Open, Secret}
use Rattle.model.specs.declared.Op.TheVariants.{Set, Add, IfNeg}
use Rattle.model.specs.declared.Owner.TheVariants.{A, B}
use Rattle.model.specs.declared.Level.TheVariants.{Low, High}
use Rattle.model_sheet.specs.Sheet.{sheet_text}

-- An example: a job, and the text of its sheet
pub record Example : Type 0 where
  pub job : Job
  pub text : List ℕ

abbrev pub Holds : Example → Type 0
Holds e = sheet_text e.job ≡ e.text

abbrev pub AllHold : List Example → Type 0
AllHold [] = Unit {0}
AllHold (e ∷ es) = Holds e × AllHold es

-- "`msg=` alone is a message with no entries."
unfoldable pub job_empty : Job
job_empty =
    record {
      form = 1;
      keys = Secret A (pos 0) ∷ Open ∷ Secret A (negsuc 2147483647) ∷ [];
      commands =
          record { op = Set; v = 7; w = 0; k = 0; t = 0; n = negsuc 2147483647 }
          ∷ record { op = Add; v = 7; w = 3; k = 0; t = 0; n = pos 0 }
          ∷ record { op = IfNeg; v = 7; w = 0; k = 0; t = 3; n = pos 0 }
          ∷ [];
      messages = (Absent ∷ Absent ∷ Absent ∷ []) ∷ (Absent ∷ Number (negsuc 0) ∷ Absent ∷ []) ∷ [];
      turns = High A ∷ Low ∷ [];
    }

unfoldable pub list : List Example
list =
    record { job = job1; text = sheet_a "0:1500,1:1480" "LHLHLHLHLH" }
    ∷ record {
      job = job_empty;
      text = bytes "sheet=1\nkeys=3\nsecret=0:0\nsecret=2:-2147483648\ndo=set 7 -2147483648\ndo=add 7 3\ndo=ifneg 7 3\nmsg=\nmsg=1:-1\nturns=HL\n";
    }
    ∷ record { job = job_both; text = sheet_both }
    ∷ []
