-- A `msg` line, by its name and part by part.
use mathlib.Core.Path.{◌≡◌, refl}
use mathlib.Core.List.{List, [], ◌∷◌}
use Prim.Native.Nat.{ℕ, ◌-◌, ◌+◌, ◌≤◌}
use native.Mathlib.Omega.{arith}
use lib.{IntN.ℤ, ListN.length, ListN.set, ListN.take, ListN.drop, Seq.drop-drop}
use Rattle.model.specs.{Parsed.got, Parsed.refused, Text.bytes, Text.comma, Text.split, Pair.ByKey, Pair.pair, Messages.all_absent, Messages.parts, Text.free}
use Rattle.model.specs.{Messages.message, Messages.message_line, Stored.entry_in, Stored.first_of}
use Rattle.model.specs.declared.{Entry.Entry, Entry.TheVariants.Number, EntrySlot.EntrySlot}
use Rattle.model_text.specs.Found.{Word}
use Rattle.model_text.proofs.TextLaws.{rest}
use Rattle.read_pair.specs.Pair.{by_key}
use Rattle.read_pair.proofs.Laws.{part-bad, part-ok}

pub msg-word : Word (bytes "msg") (109 ∷ 115 ∷ 103 ∷ 61 ∷ [])
unfolding bytes free
msg-word = record { sign = refl; no_sign = refl; no-feed = refl }

pub parts_none : (K : ℕ) (e : ByKey Entry) → parts K e [] ≡ got e
unfolding parts
parts_none K e = refl

pub message-empty : (K : ℕ) (s : List ℕ) → length s ≡ 0 → message K s ≡ got (all_absent K)
unfolding message
message-empty K [] h = refl
message-empty K (b ∷ s) h = absurd (omega arith)

pub message-parts : (K : ℕ) (s : List ℕ) → (length s ≡ 0 → ⊥) → message K s ≡ parts K (all_absent K) (split comma s)
unfolding message
message-parts K [] h = absurd (h refl)
message-parts K (b ∷ s) h = refl

-- what stands from v to e in the text from a on
pub text-within : (s : List ℕ) (a v e : ℕ) → take (a + e - (a + v)) (drop (a + v) s) ≡ take (e - v) (drop v (take (length s - a) (drop a s)))
text-within s a v e = let n : a + e - (a + v) ≡ e - v = omega arith in rw (rest s a, drop-drop v a s, n)

module _ (K : ℕ) (s : List ℕ) where
  pub line-bad : (r : ℕ) → message K s ≡ refused r → message_line K s ≡ refused r
  unfolding message_line
  line-bad r h = rw h

  pub line_ok : (next : ℕ) (slots : List EntrySlot) → message K s ≡ got (by_key entry_in K next slots) → message_line K s ≡ got (first_of entry_in K slots)
  unfolding message_line by_key
  line_ok next slots h = rw h

-- ---- One part more, and what the array holds before it

module _ (K : ℕ) (some : 1 ≤ K) (next : ℕ) (slots : List EntrySlot) (p : List ℕ) (ps : List (List ℕ)) where
  abbrev before : ByKey Entry
  before = by_key entry_in K next slots

  pub part_bad : (r : ℕ) → pair K next p ≡ refused r → parts K before (p ∷ ps) ≡ refused r
  unfolding parts
  part_bad r h = rw (part-bad entry_in Number K next slots p r h)

  pub part_more : (k : ℕ) (v : ℤ) → pair K next p ≡ got (k, v) → parts K before (p ∷ ps) ≡ parts K (by_key entry_in K (k + 1) (set slots k (record { entry = Number v }))) ps
  unfolding parts
  part_more k v h = rw (part-ok entry_in Number K next slots p k v (record { entry = Number v }) some refl h)
