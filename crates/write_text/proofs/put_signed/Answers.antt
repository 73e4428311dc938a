-- A minus sign where there is one, and the size.
use Rattle.write_text.proofs.Laws.{put_then}
use Rattle.write_text.proofs.put_signed.Goals as goal

pub returns : goal.returns
returns c = put_then c.put_if-next.ensures c.put_natural.ensures
