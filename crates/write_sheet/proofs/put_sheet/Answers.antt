-- The parts of a sheet, each put behind the one before it.
use native.Mathlib.Omega.{arith}
use mathlib.Core.List.{◌++◌}
use lib.ListN.{length-take}
use Rattle.model.specs.Stored.{job_of}
use Rattle.model.proofs.Ready.{few}
use Rattle.write_text.specs.Put.{Room}
use Rattle.write_text.proofs.Laws.{put_then, room_first, room_next}
use Rattle.write_sheet.proofs.Laws.{ready, queue, last, behind_secrets, behind_head, sheet_parts}
use Rattle.write_sheet.proofs.put_sheet.Goals as goal
use Rattle.write_sheet.proofs.put_sheet.Goals.{After-put_commands-behind_program, After-put_head-behind_head, After-put_secrets-behind_secrets}

-- behind each part there is room for the rest
behind-head : (c : After-put_head-behind_head) → Room c.put_head-behind_head.new.out c.put_head-behind_head.result (behind_head (ready c.requires.sound c.requires.stored))
behind-head c = room_next _ _ (rw (sheet_parts (ready c.requires.sound c.requires.stored)) at c.requires.room) c.put_head-behind_head.ensures

behind-secrets : (c : After-put_secrets-behind_secrets)
    → Room c.put_secrets-behind_secrets.new.out c.put_secrets-behind_secrets.result (behind_secrets (ready c.requires.sound c.requires.stored))
behind-secrets c = room_next _ _ (behind-head (goal.at.After-put_secrets-behind_secrets c).After-put_head-behind_head) (rw c.of-form.ensures at c.put_secrets-behind_secrets.ensures)

behind-program : (c : After-put_commands-behind_program) →
    let k = ready c.requires.sound c.requires.stored in
    Room c.put_commands-behind_program.new.out c.put_commands-behind_program.result (queue k ++ last k)
behind-program c = room_next _ _ (behind-secrets (goal.at.After-put_commands-behind_program c).After-put_secrets-behind_secrets) c.put_commands-behind_program.ensures

pub put_head-behind_head-requires : goal.put_head-behind_head-requires
unfolding job_of
put_head-behind_head-requires c =
    let k = ready c.requires.sound c.requires.stored in
    (c.requires.sound.form.1, (few k).keys, room_first _ _ (rw (sheet_parts k) at c.requires.room))

pub put_secrets-behind_secrets-requires : goal.put_secrets-behind_secrets-requires
put_secrets-behind_secrets-requires c =
    let j = c.args.job.now in
    let keys = (few (ready c.requires.sound c.requires.stored)).keys in
    let room = room_first _ _ (behind-head (goal.at.put_secrets-behind_secrets-requires c).After-put_head-behind_head) in
    (omega (arith, keys, length-take j.keys j.secrets), rw c.of-form.ensures room)

pub put_commands-behind_program-requires : goal.put_commands-behind_program-requires
put_commands-behind_program-requires c = room_first _ _ (behind-secrets (goal.at.put_commands-behind_program-requires c).After-put_secrets-behind_secrets)

pub put_messages-behind_messages-requires : goal.put_messages-behind_messages-requires
put_messages-behind_messages-requires c =
    let keys = (few (ready c.requires.sound c.requires.stored)).keys in
    (keys, room_first _ _ (behind-program (goal.at.put_messages-behind_messages-requires c).After-put_commands-behind_program))

pub put_turns-requires : goal.put_turns-requires
put_turns-requires c =
    rw c.of-form.ensures (room_next _ _ (behind-program (goal.at.put_turns-requires c).After-put_commands-behind_program) c.put_messages-behind_messages.ensures)

pub returns : goal.returns
returns c =
    let secrets = rw c.of-form.ensures at c.put_secrets-behind_secrets.ensures in
    let turns = rw c.of-form.ensures at c.put_turns.ensures in
    rw (sheet_parts (ready c.requires.sound c.requires.stored))
    (put_then c.put_head-behind_head.ensures (put_then secrets (put_then c.put_commands-behind_program.ensures (put_then c.put_messages-behind_messages.ensures turns))))
