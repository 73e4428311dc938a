-- The sign and the magnitude of the number, and not of its bits.
use mathlib.Core.Path.{◌≡◌}
use lib.{IntN.pos, Signed.lt_z}
use mir.{Syntax.w32, Val.to_z, Val.of_z, Facts.to_z-of_z}
use Rattle.model.specs.Decimal.{whole}
use Rattle.write_text.specs.Put.{signed}
use Rattle.write_text.proofs.Laws.{whole_found}
use Rattle.write_text.proofs.put_whole.Goals as goal
use Rattle.write_text.proofs.put_whole.Goals.{After-unsigned_abs}

text : (c : After-unsigned_abs) → signed (lt_z (to_z w32 (of_z w32 c.args.x)) (pos 0)) c.unsigned_abs.result ≡ whole c.args.x
text c = whole_found (to_z-of_z {w = w32} c.ranges.x) c.unsigned_abs.ensures.value

pub put_signed-requires : goal.put_signed-requires
put_signed-requires c = rw (text c) c.requires

pub returns : goal.returns
returns c = rw (text (goal.at.returns c).After-unsigned_abs) at c.put_signed.ensures
