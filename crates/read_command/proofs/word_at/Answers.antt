-- The count is added where there are not too many bytes.
use mathlib.Core.Path.{refl, sym}
use Rattle.read_command.proofs.Words.{count_long, count-short}
use Rattle.read_command.proofs.word_at.Goals as goal

pub returns-then-i-gt-LONGEST_WORD : goal.returns-then-i-gt-LONGEST_WORD
returns-then-i-gt-LONGEST_WORD c = (refl, sym (count_long _ _ c.if-i-gt-LONGEST_WORD.true))

pub returns-else-i-gt-LONGEST_WORD : goal.returns-else-i-gt-LONGEST_WORD
returns-else-i-gt-LONGEST_WORD c = (refl, sym (count-short _ _ c.if-i-gt-LONGEST_WORD.false))
