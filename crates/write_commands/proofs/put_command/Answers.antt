-- The name, what follows it, and the line feed.
use Rattle.write_text.proofs.Laws.{room_second, room_third, put_three}
use Rattle.write_commands.proofs.Laws.{command_parts}
use Rattle.write_commands.proofs.put_command.Goals as goal

pub put_text-end-requires : goal.put_text-end-requires
put_text-end-requires c = room_second _ _ _ (command_parts c.args.c) c.requires c.put_word-value.ensures

pub put_byte-requires : goal.put_byte-requires
put_byte-requires c = room_third _ _ _ (command_parts c.args.c) c.requires c.put_word-value.ensures c.put_text-end.ensures

pub returns : goal.returns
returns c = put_three _ _ _ (command_parts c.args.c) c.put_word-value.ensures c.put_text-end.ensures c.put_byte.ensures
