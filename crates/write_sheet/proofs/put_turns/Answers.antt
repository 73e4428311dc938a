-- The name, the letters, and the line feed.
use mathlib.Core.List.{map}
use Rattle.model.specs.Stored.{level_of}
use Rattle.write_text.proofs.Laws.{room_second, room_third, put_three}
use Rattle.write_sheet.proofs.Laws.{turns_parts}
use Rattle.write_sheet.proofs.put_turns.Goals as goal

pub put_letters-end-requires : goal.put_letters-end-requires
put_letters-end-requires c = room_second _ _ _ (turns_parts c.args.form (map level_of c.args.turns.now)) c.requires c.put_word-letters.ensures

pub put_byte-requires : goal.put_byte-requires
put_byte-requires c = room_third _ _ _ (turns_parts c.args.form (map level_of c.args.turns.now)) c.requires c.put_word-letters.ensures c.put_letters-end.ensures

pub returns : goal.returns
returns c = put_three _ _ _ (turns_parts c.args.form (map level_of c.args.turns.now)) c.put_word-letters.ensures c.put_letters-end.ensures c.put_byte.ensures
