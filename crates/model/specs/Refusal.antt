-- The refusals as the code has them: by their numbers, and what reading gives as the definitions have it.
use Rattle.std.specs.Prelude.{ℕ, Result, Ok, Err}
use Rattle.model.specs.Parsed.{Parsed, got, refused}
use Rattle.model.specs.declared.{Refusal.Refusal, Fault.Fault, TextFault.TextFault}
use Rattle.model.specs.declared.Refusal.TheVariants.{TooLong, Spoilt, Misplaced, BadNumber, KeyOrder, BadCommand, FarTarget, TooMany, BadLetters, BadRow, BadField, ShortForLog, BadOwner, Unsayable, HasForm, ShortForForm, UnpairedBlock, TooDeep, ShortForBlocks, BadRecord, ShortForRecord}

abbrev pub number_of : Refusal → ℕ
number_of TooLong = 1
number_of Spoilt = 2
number_of Misplaced = 3
number_of BadNumber = 4
number_of KeyOrder = 5
number_of BadCommand = 6
number_of FarTarget = 7
number_of TooMany = 8
number_of BadLetters = 9
number_of BadRow = 41
number_of BadField = 42
number_of ShortForLog = 43
number_of BadOwner = 46
number_of Unsayable = 47
number_of HasForm = 48
number_of ShortForForm = 49
number_of UnpairedBlock = 51
number_of TooDeep = 52
number_of ShortForBlocks = 53
number_of BadRecord = 54
number_of ShortForRecord = 55

-- what was read, as f shows it, or the number of the refusal
abbrev pub parsed_by : {X A : Type 0} → (X → A) → Result X Refusal → Parsed A
parsed_by f (Ok x) = got (f x)
parsed_by f (Err r) = refused (number_of r)

-- the same as it stands
abbrev pub parsed : {A : Type 0} → Result A Refusal → Parsed A
parsed (Ok a) = got a
parsed (Err r) = refused (number_of r)

-- a line of a sheet as one of a text
abbrev pub text_fault : Fault → TextFault
text_fault f = record { refusal = f.refusal; line = f.line }
