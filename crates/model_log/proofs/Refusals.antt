-- The refusals of an export, with their rows, and that they depend on it alone.
use mathlib.Core.Path.{◌≡◌, refl, ap, ◌∙◌, subst}
use mathlib.Core.Logic.{inl, inr}
use mathlib.Core.List.{List, [], ◌∷◌}
use Prim.Native.Nat.{ℕ, ◌+◌, ◌<◌, ◌≤◌}
use native.Mathlib.Omega.{arith}
use lib.{Dec.eqb, Dec.leb, Dec.ltb, ListN.length, ListN.set, ListN.replicate, ListN.length-append}
use borrow.Author.Tests.{ltb-true, ltb-false}
use Rattle.model.specs.{Limits.most_messages, Parsed.Parsed, Parsed.got, Number.up_to, Number.number}
use Rattle.model.specs.{Phase.one_more, Written.Written, Written.write}
use Rattle.model.specs.Parsed as Parsed
use Rattle.model.specs.declared.Entry.{Entry}
use Rattle.model.specs.declared.Entry.TheVariants.{Absent}
use Rattle.model.proofs.{Written.write-refused, Refused.Refuses, Refused.bind-refuses, Refused.need-refuses}
use Rattle.model_log.specs.Log.{Row, ended, unfinished, rows, clean, fields, or_bad, key_count, greatest_key, key_numbers, header, field, entries, message_row}
use Rattle.model_log.specs.Log.{Logged, messages, refused, at_row, further, read_rows, read_log, draft, write_log}
use Rattle.model_log.specs.Claims.{KnownRefusal, OnlyThese, ExportAlone}
use Rattle.model_log.proofs.Passed.{more-got}

-- ---- The refusals of a piece of text

module _ (P : ℕ → Type 0) where
  bad-refuses : {A : Type 0} (r : Parsed A) → P 42 → Refuses P (or_bad r)
  bad-refuses (got a) h = tt
  bad-refuses (Parsed.refused n) h = h

  -- one more, within the limit
  more-refuses : {A B : Type 0} (limit : ℕ) (f : B → Parsed A) (xs : List A) (v : B) → (limit ≤ length xs → P 8) → (length xs < limit → Refuses P (f v))
      → Refuses P (one_more limit f xs v)
  unfolding one_more
  more-refuses limit f xs v h k =
      need-refuses P (ltb (length xs) limit) 8 _ (λ e. h (ltb-false (length xs) limit e))
      (λ e. bind-refuses P (f v) _ (k (ltb-true (length xs) limit e)) (λ a. tt))

  -- ---- The rows

  fields-refuse : (r : Row) → P 41 → Refuses P (fields r)
  unfolding fields
  fields-refuse unfinished h = h
  fields-refuse (ended t) h = need-refuses P (clean t) 41 _ (λ e. h) (λ e. tt)

  keys-refuse : (next : ℕ) (fs : List (List ℕ)) → P 42 → Refuses P (key_numbers next fs)
  unfolding key_numbers
  keys-refuse next [] h = tt
  keys-refuse next (f ∷ fs) h =
      bind-refuses P (or_bad (up_to greatest_key f)) _ (bad-refuses (up_to greatest_key f) h) (λ k.
      need-refuses P (leb next k) 42 _ (λ e. h) (λ e.
      bind-refuses P (key_numbers (k + 1) fs) _ (keys-refuse (k + 1) fs h) (λ ks. tt)))

  header-refuses : (r : Row) → P 41 → P 42 → Refuses P (header r)
  unfolding header
  header-refuses r g h = bind-refuses P (fields r) (key_numbers 0) (fields-refuse r g) (λ fs. keys-refuse 0 fs h)

  field-refuses : (f : List ℕ) → P 42 → Refuses P (field f)
  unfolding field
  field-refuses [] h = tt
  field-refuses (b ∷ f) h = bind-refuses P (or_bad (number (b ∷ f))) _ (bad-refuses (number (b ∷ f)) h) (λ z. tt)

  entries-refuse : (ks : List ℕ) (fs : List (List ℕ)) (es : List Entry) → P 42 → Refuses P (entries ks fs es)
  unfolding entries
  entries-refuse [] fs es h = tt
  entries-refuse (k ∷ ks) [] es h = tt
  entries-refuse (k ∷ ks) (f ∷ fs) es h = bind-refuses P (field f) _ (field-refuses f h) (λ e. entries-refuse ks fs (set es k e) h)

  row-refuses : (ks : List ℕ) (r : Row) → P 41 → P 42 → Refuses P (message_row ks r)
  unfolding message_row
  row-refuses ks r g h =
      bind-refuses P (fields r) _ (fields-refuse r g) (λ fs.
      need-refuses P (eqb (length fs) (length ks)) 41 _ (λ e. g) (λ e. entries-refuse ks fs (replicate key_count Absent) h))

-- ---- The export

-- its refusal is a known one, if there is one
abbrev Known : Logged → Type 0
Known (messages ms) = Unit {0}
Known (refused n row) = KnownRefusal n row

at-row-known : {A : Type 0} (n : ℕ) (x : Parsed A) (f : A → Logged) → Refuses (λ r. KnownRefusal r n) x → ((a : A) → x ≡ got a → Known (f a))
    → Known (at_row n x f)
at-row-known n (got a) f h k = k a refl
at-row-known n (Parsed.refused r) f h k = h

-- behind the messages ms, of which each has a row, and the first row before them
further-known : (ks : List ℕ) (n : ℕ) (ms : List (List Entry)) (rs : List Row) → n ≡ length ms + 2 → length ms ≤ most_messages → Known (further ks n ms rs)
unfolding further
further-known ks n ms [] e l = tt
further-known ks n ms (r ∷ rs) e l =
    at-row-known n (one_more most_messages (message_row ks) ms r) _
    (more-refuses (λ x. KnownRefusal x n) most_messages (message_row ks) ms r (λ b. inl (refl, omega arith))
    (λ b. row-refuses (λ x. KnownRefusal x n) ks r (inr (inl refl, omega arith, omega arith)) (inr (inr refl, omega arith, omega arith))))
    (λ more q.
    let g = more-got most_messages (message_row ks) ms r more q in
    let s = ap length g.1.2 in
    let t = length-append ms (g.1.0 ∷ []) in
    further-known ks (n + 1) more rs (omega arith) (omega (arith, g.0)))

rows-known : (rs : List Row) → Known (read_rows rs)
unfolding read_rows
rows-known [] = inr (inl refl, omega arith, omega arith)
rows-known (r ∷ rs) =
    at-row-known 1 (header r) _
    (header-refuses (λ x. KnownRefusal x 1) r (inr (inl refl, omega arith, omega arith)) (inr (inr refl, omega arith, omega arith)))
    (λ ks q. further-known ks 2 [] rs refl (omega arith))

pub only-these : OnlyThese
unfolding read_log
only-these s n row e = subst Known e (rows-known (rows s))

pub export-alone : ExportAlone
unfolding write_log
export-alone s n row e m =
    ap (λ (x : Logged). (write 43 m (draft x)).answer) e ∙ ap (λ (w : Written). w.answer) (write-refused 43 m n row)
