-- A key, a colon and a value.
use mir.{Syntax.w32, Facts.to_z-of_z}
use Rattle.model_text.specs.Text.{pair_text}
use Rattle.write_text.proofs.Laws.{put_then}
use Rattle.write_messages.proofs.put_pair.Goals as goal

pub returns : goal.returns
unfolding pair_text
returns c =
    let v = to_z-of_z {w = w32} c.ranges.v in
    put_then c.put_natural-colon.ensures (put_then c.put_byte-value.ensures (rw v at c.put_whole.ensures))
