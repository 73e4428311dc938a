-- The name, what follows it, and the line feed.
use native.Mathlib.Omega.{arith}
use mathlib.Core.List.{List, [], ◌∷◌, ◌++◌, map}
use mathlib.Core.Path.{◌≡◌, ap, ◌∙◌}
use Prim.Native.Nat.{ℕ}
use lib.ListN.{take, length-take}
use Rattle.std.proofs.lemmas.List.{take-map}
use Rattle.model.specs.{Text.line_feed, Stored.entries_in, Stored.entry_in}
use Rattle.model.specs.declared.MessageLine.{MessageLine}
use Rattle.model_text.specs.Text.{message_text}
use Rattle.write_text.proofs.Laws.{put_then, room_first, room_next}
use Rattle.write_messages.specs.Messages.{line_text}
use Rattle.write_messages.proofs.Laws.{name, line_parts}
use Rattle.write_messages.proofs.put_message.Goals as goal

-- what follows the equals sign, as the code takes it from the array
abbrev value : ℕ → MessageLine → List ℕ
value n line = message_text (map entry_in (take n line.slots))

text : (n : ℕ) (line : MessageLine) → line_text (entries_in n line) ≡ name ++ (value n line ++ (line_feed ∷ []))
text n line = line_parts (entries_in n line) ∙ ap (λ (es : List _). name ++ (message_text es ++ (line_feed ∷ []))) (take-map entry_in n line.slots)

pub put_entries-end-requires : goal.put_entries-end-requires
put_entries-end-requires c =
    let a = c.args in
    let behind = room_next name _ (rw (text a.keys a.line.now) at c.requires.1) c.put_word-value.ensures in
    (omega (arith, length-take a.keys a.line.now.slots), room_first (value a.keys a.line.now) (line_feed ∷ []) behind)

pub put_byte-requires : goal.put_byte-requires
put_byte-requires c =
    let a = c.args in
    let behind = room_next name _ (rw (text a.keys a.line.now) at c.requires.1) c.put_word-value.ensures in
    room_next (value a.keys a.line.now) (line_feed ∷ []) behind c.put_entries-end.ensures

pub returns : goal.returns
returns c = rw (text c.args.keys c.args.line.now) (put_then c.put_word-value.ensures (put_then c.put_entries-end.ensures c.put_byte.ensures))
