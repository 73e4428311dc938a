-- The entries of a record's message and those of a job's: each give the other back.
use mathlib.Core.Path.{◌≡◌, refl, ap, ◌∙◌}
use mathlib.Core.Bool.{true}
use mathlib.Core.List.{List, map, map-map}
use Prim.Native.Nat.{ℕ, ◌≤◌}
use native.Mathlib.Omega.{arith}
use lib.{IntN.ℤ, Signed.mag, ListN.length, ListN.replicate, ListN.length-map, ListN.length-replicate}
use borrow.Author.Tests.{leb-true, le-leb}
use Rattle.model.specs.{Limits.greatest_number, Accepted.Every, Accepted.InRange, Accepted.EntryInRange, Accepted.Full}
use Rattle.model.specs.declared.Entry.{Entry}
use Rattle.model.specs.declared.Entry.TheVariants.{Absent, Number}
use Rattle.model.proofs.Accepted.{every-replicate}
use Rattle.model_text.specs.Text.{pairs}
use Rattle.model_text.proofs.Bytes.{every-made-from}
use Rattle.model_text.proofs.TextLaws.{and_both}
use Rattle.model_record.specs.Data.{EntryRecord}
use Rattle.model_record.specs.Record.{rising, enters_all, entry_key, entry_fits, entries_fit, entry_pair, entry_record, entry_records}
use Rattle.model_text.proofs.Tests.{and-made, Pass, all-every, every-all}
use Rattle.model_record.proofs.Lists.{map-back-all}
use Rattle.model_record.proofs.Pairs.{key_in, keys_in, entered-length, entered-every, pairs-entered, pairs-rise, pairs-range, pairs-count, entered-pairs}

-- the entries that these stand for, where there are K keys
abbrev pub entries_from : ℕ → List EntryRecord → List Entry
entries_from K rs = enters_all Number (replicate K Absent) (map entry_pair rs)

-- ---- From a record

-- the keys of entries that fit rise, and each fits
entries-told : (K : ℕ) (rs : List EntryRecord) → entries_fit K rs ≡ true → (rising K 0 (keys_in (map entry_pair rs)) ≡ true) × Every (Pass entry_fits) rs
unfolding entries_fit
entries-told K rs h =
    let a = and_both (rising K 0 (map entry_key rs)) _ h in
    (ap (rising K 0) (map-map key_in entry_pair rs) ∙ a.0, all-every entry_fits rs a.1)

-- entries that fit make an entry or none for every key, each in range
pub entries-full : (K : ℕ) (rs : List EntryRecord) → entries_fit K rs ≡ true → Full K (entries_from K rs)
entries-full K rs h = (
  entered-length Number (replicate K Absent) (map entry_pair rs) ∙ length-replicate K Absent,
  entered-every Number EntryInRange (replicate K Absent) (map entry_pair rs) (every-replicate EntryInRange K Absent tt)
      (every-made-from entry_pair (λ (kv : ℕ × ℤ). InRange kv.1) (Pass entry_fits) (λ e f. leb-true (mag e.value) greatest_number f) rs (entries-told K rs h).1),
)

-- and come back
pub entries-back : (K : ℕ) (rs : List EntryRecord) → entries_fit K rs ≡ true → entry_records (entries_from K rs) ≡ rs
unfolding entry_records
entries-back K rs h =
    ap (map entry_record) (entered-pairs K (map entry_pair rs) (entries-told K rs h).0) ∙ map-back-all entry_pair entry_record (λ e. refl) rs

-- ---- From a job

-- the entries of a job come back
pub entries_from-is : (es : List Entry) → entries_from (length es) (entry_records es) ≡ es
unfolding entry_records
entries_from-is es =
    ap (enters_all Number (replicate (length es) Absent)) (map-back-all entry_record entry_pair (λ kv. refl) (pairs 0 es)) ∙ pairs-entered es

-- there are no more than keys
pub entries-count : (es : List Entry) → length (entry_records es) ≤ length es
unfolding entry_records
entries-count es = omega (arith, length-map (pairs 0 es) entry_record, pairs-count 0 es)

-- entries in range fit
pub entries_fit-holds : (es : List Entry) → Every EntryInRange es → entries_fit (length es) (entry_records es) ≡ true
unfolding entries_fit entry_records
entries_fit-holds es h =
    let K = length es in
    and-made (ap (rising K 0) (map-map entry_key entry_record (pairs 0 es)) ∙ pairs-rise K 0 0 es (omega arith) (omega arith))
    (every-all entry_fits (entry_records es)
    (every-made-from entry_record (Pass entry_fits) (λ (kv : ℕ × ℤ). InRange kv.1) (λ kv r. le-leb (mag kv.1) greatest_number r) (pairs 0 es)
    (pairs-range 0 es h)))
