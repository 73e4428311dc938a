-- Of the `secret` lines, those from key k on are still to put.
use mathlib.Core.List.{map}
use lib.ListN.{drop}
use Rattle.model.specs.Stored.{key_in}
use Rattle.model_sheet.specs.Sheet.{secret_lines}
use Rattle.write_text.proofs.Laws.{Putting}
use Rattle.write_sheet.proofs.Laws.{lines_from}
use Rattle.write_sheet.proofs.put_secrets.Given as goal

abbrev pub invariant-loop-k : goal.invariant-loop-k
invariant-loop-k l = Putting l.initial.out l.at (secret_lines l.owners (map key_in l.slots)) l.out l.next (lines_from l.owners l.k (drop l.k (map key_in l.slots)))
