-- The first i letters are stored.
use Prim.Native.Nat.{ℕ}
use lib.ListN.{drop}
use mathlib.Core.List.{map}
use Rattle.model.specs.Stored.{level_of}
use Rattle.model.specs.declared.Form.{Form}
use Rattle.model_sheet.specs.Sheet.{letter_of}
use Rattle.write_record.proofs.Laws.{Filling}
use Rattle.write_record.proofs.letters_over.Given as goal

-- the letter that a byte stands for
abbrev pub letter : Form → ℕ → ℕ
letter f b = letter_of f (level_of b)

abbrev pub invariant-loop-i : goal.invariant-loop-i
invariant-loop-i l = Filling l.initial.letters (map (letter l.form) l.turns) l.letters l.i (drop l.i (map (letter l.form) l.turns))
