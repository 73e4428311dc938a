-- A colon and the letter, or nothing.
use mathlib.Core.List.{[], ◌∷◌}
use Rattle.model.specs.Text.{colon}
use Rattle.write_text.proofs.Laws.{put_then}
use Rattle.write_head.proofs.put_owner.Goals as goal

pub returns-then-owners : goal.returns-then-owners
returns-then-owners c = rw c.if-owners.true (put_then {s = colon ∷ []} c.put_byte-letter.ensures (rw c.owner_letter.ensures at c.put_byte.ensures))
