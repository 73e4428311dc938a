-- Refusal 10, or what was written with its numbers.
use Rattle.std.proofs.Common.{List, ℕ, ap, ◌∙◌}
use borrow.Author.Rules.{rules}
use lib.ListN.{get_or}
use Rattle.model.specs.Answer.{all_le32}
use Rattle.write_answer.proofs.Laws.{low-bytes}
use Rattle.model_entry.proofs.Texts.{text-other, text-leaves}
use Rattle.enter_text.proofs.enter.Goals as goal

pub returns-then-answer-ne-TEXT_ANSWER_BYTES : goal.returns-then-answer-ne-TEXT_ANSWER_BYTES
returns-then-answer-ne-TEXT_ANSWER_BYTES g c = λ w h. text-other _ _ w c.if-answer-ne-TEXT_ANSWER_BYTES.true

pub returns : goal.returns
returns g c =
    λ w h. text-leaves _ _ w (search rules) (h c.writing.result c.writing.new.arg2 (search rules))
    (ap (λ (l : List ℕ). get_or l 0 0) c.written_numbers-told.ensures, c.put_numbers.ensures ∙ ap all_le32 c.written_numbers-told.ensures ∙ low-bytes _)
