-- The name, the number of the form, and the next line's name.
use Rattle.write_text.proofs.Laws.{room_second, room_third, put_three}
use Rattle.write_head.proofs.Laws.{form_parts}
use Rattle.write_head.proofs.put_form.Goals as goal

pub put_natural-end-requires : goal.put_natural-end-requires
put_natural-end-requires c = room_second _ _ _ (form_parts c.args.form) c.requires.1 c.put_word-number.ensures

pub put_word-requires : goal.put_word-requires
put_word-requires c = room_third _ _ _ (form_parts c.args.form) c.requires.1 c.put_word-number.ensures c.put_natural-end.ensures

pub returns : goal.returns
returns c = put_three _ _ _ (form_parts c.args.form) c.put_word-number.ensures c.put_natural-end.ensures c.put_word.ensures
