-- The name, the key with its dummy, the owner, and the line feed.
use mathlib.Core.List.{[], ◌∷◌, ◌++◌}
use mir.{Syntax.w32, Facts.to_z-of_z}
use Rattle.model.specs.Text.{line_feed}
use Rattle.model_sheet.specs.Sheet.{owner_text}
use Rattle.write_text.specs.Put.{Room}
use Rattle.write_text.proofs.Laws.{put_then, room_first, room_next, room_second, room_third}
use Rattle.write_head.proofs.Laws.{secret_parts}
use Rattle.write_head.proofs.put_secret.Goals as goal
use Rattle.write_head.proofs.put_secret.Goals.{After-put_pair-end}

-- there is room for what follows the pair
behind : (c : After-put_pair-end) → Room c.put_pair-end.new.out c.put_pair-end.result (owner_text c.args.owners c.args.owner ++ (line_feed ∷ []))
behind c =
    let a = c.args in
    let v = to_z-of_z {w = w32} c.ranges.dummy in
    room_third _ _ _ (secret_parts a.owners a.k a.owner a.dummy) c.requires.1 c.put_word-pair.ensures (rw v at c.put_pair-end.ensures)

pub put_pair-end-requires : goal.put_pair-end-requires
put_pair-end-requires c =
    let a = c.args in
    let v = to_z-of_z {w = w32} c.ranges.dummy in
    (c.requires.0, rw v (room_second _ _ _ (secret_parts a.owners a.k a.owner a.dummy) c.requires.1 c.put_word-pair.ensures))

pub put_owner-named-requires : goal.put_owner-named-requires
put_owner-named-requires c = room_first _ _ (behind (goal.at.put_owner-named-requires c).After-put_pair-end)

pub put_byte-requires : goal.put_byte-requires
put_byte-requires c = room_next _ _ (behind (goal.at.put_byte-requires c).After-put_pair-end) c.put_owner-named.ensures

pub returns : goal.returns
returns c =
    let a = c.args in
    let v = to_z-of_z {w = w32} c.ranges.dummy in
    rw (secret_parts a.owners a.k a.owner a.dummy) (put_then c.put_word-pair.ensures (put_then (rw v at c.put_pair-end.ensures) (put_then c.put_owner-named.ensures c.put_byte.ensures)))
