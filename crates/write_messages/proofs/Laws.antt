-- A message line part by part, and lines one by one.
use Prim.Native.Nat.{ℕ, suc, ◌+◌, ◌≤◌, ◌<◌}
use mathlib.Core.Path.{◌≡◌, refl, sym, ap, ◌∙◌}
use mathlib.Core.Bool.{Bool, true, false}
use mathlib.Core.List.{List, [], ◌∷◌, ◌++◌, map}
use native.Mathlib.Numerals.{add-one}
use lib.{ListN.length, ListN.get_or, ListN.drop, ListN.length-map, ListN.get_or-map, ListN.drop_of_length-le, Seq.drop-cons}
use lib.{IntN.ℤ}
use Rattle.model.specs.{Text.bytes, Text.comma, Text.line_feed, Stored.entry_in, Stored.entries_in, Stored.absent_slot}
use Rattle.model.specs.declared.{Entry.Entry, EntrySlot.EntrySlot, MessageLine.MessageLine}
use Rattle.model.specs.declared.Entry.TheVariants.{Absent, Number}
use Rattle.model_text.specs.Text.{joined, prefixed, unlines, named, pair_text, pairs, message_text, message_line, message_lines}
use Rattle.model_text.proofs.Texts.{joined-prefixed, unlines-more, unlines-end}
use Rattle.write_messages.specs.Messages.{part_text, line_text}

-- ---- The parts from key k on, the first of them with or without a comma before it

unfoldable pub parts_from : Bool → ℕ → List Entry → List ℕ
parts_from first k [] = []
parts_from first k (Absent ∷ es) = parts_from first (suc k) es
parts_from first k (Number z ∷ es) = part_text first k z ++ parts_from false (suc k) es

parts-prefixed : (k : ℕ) (es : List Entry) → parts_from false k es ≡ prefixed comma (map pair_text (pairs k es))
unfolding parts_from pairs prefixed
parts-prefixed k [] = refl
parts-prefixed k (Absent ∷ es) = parts-prefixed (suc k) es
parts-prefixed k (Number z ∷ es) = ap (λ (t : List ℕ). comma ∷ (pair_text (k, z) ++ t)) (parts-prefixed (suc k) es)

parts-joined : (k : ℕ) (es : List Entry) → parts_from true k es ≡ joined comma (map pair_text (pairs k es))
unfolding parts_from pairs joined
parts-joined k [] = refl
parts-joined k (Absent ∷ es) = parts-joined (suc k) es
parts-joined k (Number z ∷ es) =
    ap (λ (t : List ℕ). pair_text (k, z) ++ t) (parts-prefixed (suc k) es)
    ∙ sym (joined-prefixed comma (pair_text (k, z)) (map pair_text (pairs (suc k) es)))

-- all parts make the message
pub parts_all : (es : List Entry) → parts_from true 0 es ≡ message_text es
unfolding message_text
parts_all es = parts-joined 0 es

-- ---- One key more, of the entries that an array holds

module _ (slots : List EntrySlot) where
  abbrev es : List Entry
  es = map entry_in slots

  here : (k : ℕ) → k < length slots → drop k es ≡ (get_or slots k absent_slot).entry ∷ drop (k + 1) es
  here k h =
      let l : k < length es = rw (length-map slots entry_in) h in
      rw (add-one k, drop-cons es k Absent l, get_or-map entry_in slots k absent_slot)

  pub parts_none : (first : Bool) (k : ℕ) → k < length slots → (get_or slots k absent_slot).entry ≡ Absent → parts_from first k (drop k es) ≡ parts_from first (k + 1) (drop (k + 1) es)
  unfolding parts_from
  parts_none first k h e = rw (here k h, e, add-one k)

  pub parts_one : (first : Bool) (k : ℕ) (z : ℤ) → k < length slots → (get_or slots k absent_slot).entry ≡ Number z
      → parts_from first k (drop k es) ≡ part_text first k z ++ parts_from false (k + 1) (drop (k + 1) es)
  unfolding parts_from
  parts_one first k z h e = rw (here k h, e, add-one k)

  pub parts_end : (first : Bool) (k : ℕ) → length slots ≤ k → parts_from first k (drop k es) ≡ []
  unfolding parts_from
  parts_end first k h = let l : length es ≤ k = rw (length-map slots entry_in) h in rw (drop_of_length-le es l)

-- ---- The line

-- `msg=`, as the code has it
abbrev pub name : List ℕ
name = 109 ∷ 115 ∷ 103 ∷ 61 ∷ []

-- the name with its equals sign, what follows it, the line feed
pub line_parts : (m : List Entry) → line_text m ≡ name ++ (message_text m ++ (line_feed ∷ []))
unfolding named bytes
line_parts m = refl

-- what the code would read behind its array
abbrev pub no_line : MessageLine
no_line = record { slots = [] }

module _ (K : ℕ) (messages : List MessageLine) where
  abbrev ms : List (List Entry)
  ms = map (entries_in K) messages

  size : length ms ≡ length messages
  size = length-map messages (entries_in K)

  pub lines_more : (i : ℕ) → i < length messages → message_lines (drop i ms) ≡ line_text (entries_in K (get_or messages i no_line)) ++ message_lines (drop (i + 1) ms)
  unfolding message_lines unlines
  lines_more i h =
      unlines-more message_line ms i (entries_in K no_line) (rw size h)
      ∙ ap (λ (es : List Entry). line_text es ++ message_lines (drop (i + 1) ms)) (get_or-map (entries_in K) messages i no_line)

  pub lines_end : (i : ℕ) → length messages ≤ i → message_lines (drop i ms) ≡ []
  unfolding message_lines
  lines_end i h = unlines-end message_line ms i (rw size h)
