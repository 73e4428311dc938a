-- The name, the number of keys, and the line feed.
use Rattle.write_text.proofs.Laws.{room_first, room_second, room_third, put_three}
use Rattle.write_head.proofs.Laws.{head_parts}
use Rattle.write_head.proofs.put_head.Goals as goal

pub put_form-number-requires : goal.put_form-number-requires
put_form-number-requires c = (c.requires.0, room_first _ _ (rw (head_parts c.args.form c.args.keys) at c.requires.2))

pub put_natural-end-requires : goal.put_natural-end-requires
put_natural-end-requires c = room_second _ _ _ (head_parts c.args.form c.args.keys) c.requires.2 c.put_form-number.ensures

pub put_byte-requires : goal.put_byte-requires
put_byte-requires c = room_third _ _ _ (head_parts c.args.form c.args.keys) c.requires.2 c.put_form-number.ensures c.put_natural-end.ensures

pub returns : goal.returns
returns c = put_three _ _ _ (head_parts c.args.form c.args.keys) c.put_form-number.ensures c.put_natural-end.ensures c.put_byte.ensures
