-- A further row: each field is entered at its key, and nothing at any other key.
use mathlib.Core.Path.{◌≡◌, refl, sym, ap, ◌∙◌, subst}
use mathlib.Core.Logic.{◌≢◌}
use mathlib.Core.List.{List, [], ◌∷◌}
use Prim.Native.Nat.{ℕ, zero, suc, ◌+◌, ◌<◌}
use native.Mathlib.Omega.{arith}
use lib.{Dec.eqb, ListN.length, ListN.get_or, ListN.set, ListN.replicate, ListN.length-set, ListN.length-replicate, Seq.get_or-set_same, Seq.get_or-set_other}
use borrow.Author.Tests.{eqb-true}
use Rattle.model.specs.{Parsed.got, Number.number, Accepted.Every, Accepted.EntryInRange, Accepted.Full}
use Rattle.model.specs.declared.Entry.{Entry}
use Rattle.model.specs.declared.Entry.TheVariants.{Absent, Number}
use Rattle.model.proofs.{Parsed.bind-got, Parsed.need-got, Accepted.every_set, Accepted.number-range}
use Rattle.model_log.specs.Log.{Row, fields, key_count, field, entries, message_row, or_bad}
use Rattle.model_log.specs.Claims.{Held}
use Rattle.model_log.proofs.{Passed.or-bad-got, Keys.Climbs, Keys.climbs-least}

field-range : (f : List ℕ) (e : Entry) → field f ≡ got e → EntryInRange e
unfolding field
field-range [] e h = let p : Absent ≡ e = cc in subst EntryInRange p tt
field-range (b ∷ f) e h =
    let q = bind-got (or_bad (number (b ∷ f))) _ e h in
    let i = q.2 in
    let p : Number q.0 ≡ e = cc in
    subst EntryInRange p (number-range (b ∷ f) q.0 (or-bad-got (number (b ∷ f)) q.0 q.1))

-- What entering the fields fs at the keys ks makes of the entries es: it keeps what stands at any other key
record Entered (ks : List ℕ) (fs : List (List ℕ)) (es all : List Entry) : Type 0 where
  full : Full key_count all
  at : (j : ℕ) → j < length ks → field (get_or fs j []) ≡ got (get_or all (get_or ks j 0) Absent)
  other : (k : ℕ) → ((j : ℕ) → j < length ks → get_or ks j 0 ≢ k) → get_or all k Absent ≡ get_or es k Absent

entries-entered : (next : ℕ) (ks : List ℕ) (fs : List (List ℕ)) (es all : List Entry) → Climbs next ks → length fs ≡ length ks → Full key_count es
    → entries ks fs es ≡ got all → Entered ks fs es all
unfolding entries
entries-entered next [] fs es all h c l e =
    let p : es ≡ all = cc in
    record { full = subst (Full key_count) p l; at = λ j m. absurd (omega arith); other = λ k n. ap (λ (x : List Entry). get_or x k Absent) (sym p) }
entries-entered next (k ∷ ks) [] es all h c l e = absurd (omega arith)
entries-entered next (k ∷ ks) (f ∷ fs) es all h c l e =
    let q = bind-got (field f) _ all e in
    let x = q.0 in
    let now : Full key_count (set es k x) = (length-set es k x ∙ l.0, every_set EntryInRange es k x l.1 (field-range f x q.1)) in
    let i = entries-entered (k + 1) ks fs (set es k x) all h.2 (omega arith) now q.2 in
    let below : k < length es = omega (arith, h.1, l.0) in
    let kept : get_or all k Absent ≡ x = i.other k (λ j m p. omega (arith, climbs-least (k + 1) ks h.2 j m)) ∙ get_or-set_same es k x Absent below in
    record {
      full = i.full;
      at = at (q.1 ∙ ap got (sym kept)) i.at;
      other = λ j n. i.other j (λ m b. n (suc m) (omega arith)) ∙ get_or-set_other es k j x Absent (λ p. n 0 (omega arith) (sym p));
    }
  where
    at : field f ≡ got (get_or all k Absent) → ((j : ℕ) → j < length ks → field (get_or fs j []) ≡ got (get_or all (get_or ks j 0) Absent))
        → (j : ℕ) → j < suc (length ks) → field (get_or (f ∷ fs) j []) ≡ got (get_or all (get_or (k ∷ ks) j 0) Absent)
    at q i zero m = q
    at q i (suc j) m = i j (omega arith)

-- a message of no entries
none-range : (n : ℕ) → Every EntryInRange (replicate n Absent)
none-range zero = tt
none-range (suc n) = (tt, none-range n)

none-absent : (n k : ℕ) → get_or (replicate n Absent) k Absent ≡ Absent
none-absent zero k = refl
none-absent (suc n) zero = refl
none-absent (suc n) (suc k) = none-absent n k

pub row-held : (next : ℕ) (ks : List ℕ) (r : Row) (es : List Entry) → Climbs next ks → message_row ks r ≡ got es
    → (fs : List (List ℕ)) × (fields r ≡ got fs) × Held ks fs es
unfolding message_row
row-held next ks r es h e =
    let p = bind-got (fields r) _ es e in
    let fs = p.0 in
    let q = need-got (eqb (length fs) (length ks)) 41 _ es p.2 in
    let c = eqb-true (length fs) (length ks) q.0 in
    let i = entries-entered next ks fs (replicate key_count Absent) es h c (length-replicate key_count Absent, none-range key_count) q.1 in
    (fs, p.1, record { count = c; full = i.full; at = i.at; other = λ k n. i.other k n ∙ none-absent key_count k })
