-- A text in two parts is put part by part; the digits of a number are as many as its width.
use mathlib.Core.Path.{◌≡◌, refl, sym, ap, ap₂, ◌∙◌}
use mathlib.Core.Logic.{◌⊎◌, inl, inr, ⊎_elim}
use mathlib.Core.List.{List, [], ◌∷◌, ◌++◌}
use Prim.Native.Nat.{ℕ, zero, suc, ◌+◌, ◌/◌, ◌<◌, ◌≤◌}
use native.Mathlib.{Omega.arith, Numerals.add-one}
use lib.{ListN.length, ListN.take, ListN.drop, ListN.get_or, ListN.set, ListN.length-append, Seq.drop-cons, Seq.set_out, IntN.ℤ, IntN.pos, IntN.negsuc}
use lib.{IntN.nat_abs, Signed.lt_z}
use borrow.Author.Tests.{lt-ltb, le-ltb}
use Rattle.model.specs.{Placed.placed, Decimal.digits, Decimal.width_to, Decimal.width, Decimal.most_digits, Decimal.natural, Decimal.whole, Written.text, Written.written}
use Rattle.model.specs.Written.{write}
use borrow.Rule.Slice.PartMut.{put_mid}
use Rattle.std.proofs.Common.{drop-drop}
use Rattle.model.proofs.{Placed.placed-nil, Placed.placed-between, Placed.placed-append, Placed.placed-length, Placed.placed-front, Decimal.tens, Decimal.tens-most}
use Rattle.model.proofs.{Decimal.digits-length, Written.write-fits}
use Rattle.write_text.specs.Put.{Put, Room, signed}

-- a text, and another behind it
pub put_then : {d d' d'' s t : List ℕ} {at p q : ℕ} → Put d at s d' p → Put d' p t d'' q → Put d at (s ++ t) d'' q
put_then {d} {d'} {d''} {s} {t} {at} {p} {q} h k =
    record {
      memory = k.memory ∙ ap₂ (λ (m : List ℕ) (i : ℕ). placed m i t) h.memory h.next ∙ placed-append d at s t;
      next = omega (arith, h.next, k.next, length-append s t);
    }

pub put-length : {d d' s : List ℕ} {at p : ℕ} → Put d at s d' p → length d' ≡ length d
put-length {d} {d'} {s} {at} h = ap length h.memory ∙ placed-length d at s

-- there is room for the first part of a text, and behind it for the other
pub room_first : {d : List ℕ} {at : ℕ} (s t : List ℕ) → Room d at (s ++ t) → Room d at s
room_first s t r =
    let l = length-append s t in
    record { near = omega (arith, r.near); fits = ⊎_elim inl (λ h. inr (omega arith)) r.fits }

pub room_next : {d d' : List ℕ} {at p : ℕ} (s t : List ℕ) → Room d at (s ++ t) → Put d at s d' p → Room d' p t
room_next s t r h =
    let l = length-append s t in
    let n = put-length h in
    record { near = omega (arith, r.near, h.next); fits = ⊎_elim (λ e. inl (n ∙ e)) (λ e. inr (omega (arith, h.next))) r.fits }

pub ruleset rooms = (room_first, room_next)

-- a text in three parts
module _ {d d' : List ℕ} {at p : ℕ} (s t u : List ℕ) {all : List ℕ} (e : all ≡ s ++ (t ++ u)) where
  pub room_second : Room d at all → Put d at s d' p → Room d' p t
  room_second r h = room_first t u (room_next s (t ++ u) (rw e at r) h)

  pub room_third : {d'' : List ℕ} {q : ℕ} → Room d at all → Put d at s d' p → Put d' p t d'' q → Room d'' q u
  room_third r h k = room_next t u (room_next s (t ++ u) (rw e at r) h) k

  pub put_three : {d'' o : List ℕ} {q r : ℕ} → Put d at s d' p → Put d' p t d'' q → Put d'' q u o r → Put d at all o r
  put_three h k l = rw e (put_then h (put_then k l))

-- the memory has room for the whole text from one of its places on
pub room_inside : {d s : List ℕ} {at : ℕ} → Room d at s → at < length d → at + length s ≤ length d
room_inside r h = ⊎_elim (λ e. absurd (omega arith)) (λ e. e) r.fits

-- a part of the memory that is now a text
pub placed_part : (d : List ℕ) (at : ℕ) {s t : List ℕ} {k : ℕ} → t ≡ s → k ≡ length s → at + length s ≤ length d → put_mid at k d t ≡ placed d at s
placed_part d at {s} {t} {k} e n fits =
    ap (λ (x : List ℕ). take at d ++ (x ++ drop k (drop at d))) e
    ∙ ap (λ (x : List ℕ). take at d ++ (s ++ x)) (drop-drop k at d ∙ ap (λ (m : ℕ). drop m d) (omega arith))
    ∙ sym (placed-between d at s fits)

pub put_part : (d : List ℕ) (at : ℕ) (s t : List ℕ) (k : ℕ) → t ≡ s → k ≡ length s → at + length s ≤ length d → Put d at s (put_mid at k d t) (at + length s)
put_part d at s t k e n fits = record { memory = placed_part d at e n fits; next = refl }

-- no text at all
pub put_nothing : (d : List ℕ) (at : ℕ) → Put d at [] d at
put_nothing d at = record { memory = sym (placed-nil d at); next = omega arith }

-- a byte at its place, and a text that begins where the memory has ended
pub put_inside : (d : List ℕ) (at b : ℕ) → Put d at (b ∷ []) (set d at b) (at + 1)
unfolding placed
put_inside d at b = record { memory = refl; next = refl }

placed-outside : (d : List ℕ) (at : ℕ) (s : List ℕ) → length d ≤ at → placed d at s ≡ d
unfolding placed
placed-outside d at [] h = refl
placed-outside d at (b ∷ s) h = rw (set_out d at b h) (placed-outside d (suc at) s (omega arith))

pub put_outside : (d : List ℕ) (at : ℕ) (s : List ℕ) (p : ℕ) → length d ≤ at → p ≡ at + length s → Put d at s d p
put_outside d at s p h e = record { memory = sym (placed-outside d at s h); next = e }

-- ---- The width of a number

-- no number of v digits reaches n, or v is 0
abbrev pub Reached : ℕ → ℕ → Type 0
Reached v n = (v ≡ 0) ⊎ (tens v ≤ n)

width_is : (v f n : ℕ) → v ≤ f → n < tens (suc v) → Reached v n → width_to (suc f) n ≡ suc v
unfolding width_to tens
width_is zero f n l h r = rw (lt-ltb n 10 h)
width_is (suc v) zero n l h r = absurd (omega arith)
width_is (suc v) (suc f) n l h r =
    let m = tens-most v in
    let k : tens (suc v) ≤ n = ⊎_elim (λ e. absurd (omega arith)) (λ e. e) r in
    let g : 10 ≤ n = omega arith in
    rw (le-ltb n 10 g) (ap suc (width_is v f (n / 10) (omega arith) (omega arith) (reached v k)))
  where
    reached : (u : ℕ) → tens (suc u) ≤ n → Reached u (n / 10)
    reached zero k = inl refl
    reached (suc u) k = inr (omega arith)

-- and so many digits more than one have a number of the range
pub width-found : (v n : ℕ) → v < most_digits → n < tens (suc v) → Reached v n → suc v ≡ width n
unfolding width
width-found v n few h r = sym (width_is v 9 n (omega arith) h r)

-- ---- Numbers

pub natural_length : (n : ℕ) → length (natural n) ≡ width n
unfolding natural
natural_length n = digits-length (width n) n

-- the digits are a number's text
pub put_digits : (d : List ℕ) (at w n : ℕ) (d' : List ℕ) → w ≡ width n → d' ≡ placed d at (digits w n) → Put d at (natural n) d' (at + w)
unfolding natural
put_digits d at w n d' e h = record { memory = h ∙ ap (λ (x : ℕ). placed d at (digits x n)) e; next = ap (λ (x : ℕ). at + x) (e ∙ sym (natural_length n)) }

-- what is stored where the memory has room for it, and otherwise only counted
pub ruleset stored = (room_inside, natural_length, put_inside, put_part, put_digits, put_outside)

whole_is : (z : ℤ) → signed (lt_z z (pos 0)) (nat_abs z) ≡ whole z
unfolding whole
whole_is (pos n) = rw (le-ltb n 0 (omega arith))
whole_is (negsuc n) = refl

-- a number of the full range, by the sign and the size that the machine finds
pub whole_found : {x z : ℤ} {n : ℕ} → z ≡ x → n ≡ nat_abs z → signed (lt_z z (pos 0)) n ≡ whole x
whole_found {x} {z} {n} e h = ap (signed (lt_z z (pos 0))) h ∙ whole_is z ∙ ap whole e

-- ---- A text of which the rest is still to put

pub record Putting (d : List ℕ) (at : ℕ) (s d' : List ℕ) (p : ℕ) (rest : List ℕ) : Type 0 where
  pub memory : placed d' p rest ≡ placed d at s
  pub place : p + length rest ≡ at + length s

pub putting-begins : {d s rest : List ℕ} {at : ℕ} → rest ≡ s → Putting d at s d at rest
putting-begins {d} {s} {rest} {at} e = record { memory = ap (placed d at) e; place = ap (λ (t : List ℕ). at + length t) e }

-- a part of the rest is put
pub putting-more : {d s d' d'' : List ℕ} {at p q : ℕ} (t rest : List ℕ) → Putting d at s d' p (t ++ rest) → Put d' p t d'' q → Putting d at s d'' q rest
putting-more {d} {s} {d'} {d''} {at} {p} {q} t rest h k =
    record {
      memory = ap₂ (λ (m : List ℕ) (i : ℕ). placed m i rest) k.memory k.next ∙ placed-append d' p t rest ∙ h.memory;
      place = omega (arith, h.place, k.next, length-append t rest);
    }

-- there is room for it, if there is for the whole
pub putting-room : {d s d' : List ℕ} {at p : ℕ} (t rest : List ℕ) → Room d at s → length d' ≡ length d → Putting d at s d' p (t ++ rest) → Room d' p t
putting-room t rest r n h =
    let l = length-append t rest in
    record { near = omega (arith, r.near, h.place); fits = ⊎_elim (λ e. inl (n ∙ e)) (λ e. inr (omega (arith, h.place))) r.fits }

-- a byte of a word, and those behind it
pub word_more : (w : List ℕ) (i : ℕ) → i < length w → drop i w ≡ (get_or w i 0 ∷ []) ++ drop (i + 1) w
word_more w i h = drop-cons w i 0 h ∙ rw (add-one i)

-- nothing is left
pub putting-ends : {d s d' rest : List ℕ} {at p : ℕ} → rest ≡ [] → Putting d at s d' p rest → Put d at s d' p
putting-ends {d} {s} {d'} {rest} {at} {p} e h =
    let none : length rest ≡ 0 = ap length e in
    record { memory = sym (placed-nil d' p) ∙ ap (placed d' p) (sym e) ∙ h.memory; next = omega (arith, h.place) }

-- ---- Counted in no memory, then written or refused

pub put_count : {d d' s : List ℕ} {n : ℕ} → Put d 0 s d' n → n ≡ length s
put_count h = omega (arith, h.next)

pub put_written : (short : ℕ) {m m' s : List ℕ} {n : ℕ} → Put m 0 s m' n → length s ≤ length m → write short m (text s) ≡ written (record { number = 0; line = 0; bytes = length s }) m'
put_written short {m} {m'} {s} h fits = write-fits short m s fits ∙ ap (written (record { number = 0; line = 0; bytes = length s })) (sym (h.memory ∙ placed-front m s fits))
