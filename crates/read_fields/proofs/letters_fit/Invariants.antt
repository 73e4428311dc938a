-- Whether the letters so far pass, and those that are left, is whether all of them do.
use mathlib.Core.Path.{◌≡◌}
use Rattle.model.specs.Form.{third_of}
use Rattle.model_record.specs.Record.{letter_fits}
use Rattle.model_text.proofs.Tests.{Told}
use Rattle.read_fields.proofs.letters_fit.Given as goal

abbrev pub invariant-loop-b : goal.invariant-loop-b
invariant-loop-b l = Told (letter_fits l.form) l.letters l.b-index l.fit × (l.third ≡ third_of l.form)
