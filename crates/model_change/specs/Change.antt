-- Document 02, of the requests that make a sheet of a sheet: "sheets refuse as on reading"; what the sheet says is
-- changed, or the request is refused at line 0; the sheet of what it says then is written whole, or not at all.
use Rattle.std.specs.Prelude.{ℕ, List, take}
use Rattle.model.specs.{Job.Job, Sheet.Reading, Sheet.accepted, Sheet.refused, Sheet.read_sheet}
use Rattle.model.specs.Written.{Draft, Written, write}
use Rattle.model.specs.Written as Written
use Rattle.model_sheet.specs.Sheet.{sheet_text}

-- What a request makes of a job: another one, or a refusal, which names no line
pub data Change : Type 0 where
  gives : Job → Change
  denies : ℕ → Change

abbrev pub draft_of : Change → Draft
draft_of (gives j) = Written.text (sheet_text j)
draft_of (denies n) = Written.refused n 0

-- the reading's refusals come first, with their lines
abbrev pub drafted : (Job → Change) → Reading → Draft
drafted f (refused n l) = Written.refused n l
drafted f (accepted j) = draft_of (f j)

-- short is the number for too little lent memory
unfoldable pub change_sheet : ℕ → (Job → Change) → List ℕ → List ℕ → Written
change_sheet short f s m = write short m (drafted f (read_sheet s))

-- the text that was written
abbrev pub text_in : Written → List ℕ
text_in w = take w.answer.bytes w.memory
