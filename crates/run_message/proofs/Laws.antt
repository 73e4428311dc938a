-- The fields that are filled already, at each level, are the first of those that the model fills.
use mathlib.Core.Path.{◌≡◌, refl, sym, ap, ap₂, ◌∙◌}
use mathlib.Core.Bool.{Bool, true, false, cond}
use mathlib.Core.List.{List, [], ◌∷◌, ◌++◌, map}
use Prim.Native.Nat.{ℕ, suc, ◌+◌, ◌≤◌, ◌<◌}
use native.Mathlib.{Omega.arith, Numerals.add-one}
use lib.{ListN.length, ListN.get_or, ListN.take, ListN.set, ListN.replicate, ListN.length-map, ListN.length-replicate, ListN.get_or-replicate, Seq.take-suc}
use lib.{Seq.take-suc-set, Seq.take_all, Seq.map-set_same}
use Rattle.model.specs.{Stored.key_capacity, Stored.first_of, Stored.key_in, Stored.entry_in, Stored.keys_in, Stored.side, Stored.held, Stored.open_slot, Stored.absent_slot}
use Rattle.model.specs.{Stored.absent_field}
use Rattle.model_run.specs.{Message.shown}
use Rattle.model_run.proofs.Message.{fill-length, fill-at}
use Rattle.run_message.specs.Message.{field_of, received_by, ReceivedTo, Cleared}
use Rattle.model.proofs.Stored.{map-set, first-set, first-same, first-at, first_count}
use Rattle.model.specs.declared.{Entry.Entry, Field.Field, Key.Key, Level.Level, KeySlot.KeySlot, EntrySlot.EntrySlot}
use Rattle.model.specs.declared.Entry.TheVariants.{Absent}
use Rattle.model.specs.declared.Owner.TheVariants.{A, B}
use Rattle.model.specs.declared.Level.TheVariants.{Low, High}

side-field : (l : Level) (k : Key) (e : Entry) → side l (field_of k e) ≡ shown l k e
side-field Low k e = refl
side-field (High A) k e = refl
side-field (High B) k e = refl

absent-side : (l : Level) → side l absent_field ≡ Absent
absent-side Low = refl
absent-side (High A) = refl
absent-side (High B) = refl

-- ---- No line left

pub cleared-held : (n : ℕ) (m : List Field) → n ≤ key_capacity → Cleared m → (l : Level) → held n m l ≡ replicate n Absent
unfolding held
cleared-held n m h e Low = rw e (first-same (side Low) n key_capacity absent_field h)
cleared-held n m h e (High A) = rw e (first-same (side (High A)) n key_capacity absent_field h)
cleared-held n m h e (High B) = rw e (first-same (side (High B)) n key_capacity absent_field h)

module _ (n : ℕ) (ss : List KeySlot) (ts : List EntrySlot) (keys : n ≤ length ss) where
  abbrev ks : List Key
  ks = keys_in n ss

  abbrev es : List Entry
  es = first_of entry_in n ts

  keys-count : length ks ≡ n
  keys-count = first_count key_in n ss keys

  -- what a receive leaves, and the field of a key
  abbrev w : Bool → Level → List Entry
  w more l = received_by n ks more es l

  received-length : (more : Bool) (l : Level) → length (w more l) ≡ n
  received-length true l = fill-length l ks es ∙ keys-count
  received-length false l = length-replicate n Absent

  received-at : (more : Bool) (l : Level) (k : ℕ) → k < n
      → side l (cond more (field_of (get_or ss k open_slot).key (get_or ts k absent_slot).entry) absent_field) ≡ get_or (w more l) k Absent
  received-at true l k h =
      side-field l (get_or ss k open_slot).key (get_or ts k absent_slot).entry
      ∙ ap₂ (shown l) (sym (first-at key_in n ss k open_slot h)) (sym (first-at entry_in n ts k absent_slot h))
      ∙ sym (fill-at l ks es k (omega (arith, keys-count)))
  received-at false l k h = absent-side l ∙ sym (get_or-replicate n k Absent Absent h)

  -- one field more
  pub received_more : (more : Bool) (m : List Field) (k : ℕ) (f : Field) → k < n → k < length m
      → f ≡ cond more (field_of (get_or ss k open_slot).key (get_or ts k absent_slot).entry) absent_field → ReceivedTo k n m ks more es → ReceivedTo (k + 1) n (set m k f) ks more es
  received_more more m k f h g e before l =
      ap (λ (i : ℕ). take i (map (side l) (set m k f))) (add-one k)
      ∙ ap (take (suc k)) (map-set (side l) m k f)
      ∙ take-suc-set (map (side l) m) k (side l f) (omega (arith, length-map m (side l)))
      ∙ ap₂ (λ (xs : List Entry) (x : Entry). xs ++ (x ∷ [])) (before l) (ap (side l) e ∙ received-at more l k h)
      ∙ sym (take-suc (w more l) k Absent (omega (arith, received-length more l)))
      ∙ ap (λ (i : ℕ). take i (w more l)) (sym (add-one k))

  -- all of them
  pub received-all : (more : Bool) (m : List Field) (k : ℕ) → k ≡ n → ReceivedTo k n m ks more es → (l : Level) → held n m l ≡ w more l
  unfolding held
  received-all more m k e h l =
      ap (λ (i : ℕ). first_of (side l) i m) (sym e) ∙ h l ∙ ap (λ (i : ℕ). take i (w more l)) e ∙ take_all n (w more l) (omega (arith, received-length more l))

-- ---- One field changed

pub held-set : (n : ℕ) (m : List Field) (l : Level) (k : ℕ) (f : Field) → k < n → held n (set m k f) l ≡ set (held n m l) k (side l f)
unfolding held
held-set n m l k f h = first-set (side l) n m k f h

pub held_same : (n : ℕ) (m : List Field) (l : Level) (k : ℕ) (f d : Field) → side l f ≡ side l (get_or m k d) → held n (set m k f) l ≡ held n m l
unfolding held
held_same n m l k f d e = ap (take n) (map-set_same (side l) m k f d e)
