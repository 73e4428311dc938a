-- The letters by their bytes.
use Rattle.read_turns.proofs.Laws.{letter-among}
use Rattle.read_turns.proofs.is_letter.Goals as goal

pub returns : goal.returns
returns c = let p = c.requires in letter-among p.0 _ _ p.1
