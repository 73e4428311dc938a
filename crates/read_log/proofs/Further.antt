-- The rows behind the first, one by one: t is the text that is left, the first n of xs hold the messages before it, and its first row has the number row.
use Prim.Native.Nat.{ℕ, ◌+◌, ◌<◌, ◌≤◌}
use mathlib.Core.Path.{◌≡◌, refl, sym, ap, ◌∙◌}
use mathlib.Core.List.{List, [], ◌∷◌, map}
use Rattle.std.specs.Prelude.{Err}
use native.Mathlib.Omega.{arith}
use lib.{ListN.length, ListN.take, ListN.drop, ListN.set, ListN.replicate}
use borrow.Author.Tests.{eq-eqb, ne_eqb}
use Rattle.model.specs.{Parsed.got, Parsed.refused, Text.comma, Text.split, Limits.most_messages, Refusal.number_of, Stored.entries_in}
use Rattle.model.specs.declared.Refusal.{Refusal}
use Rattle.model.specs.declared.{Entry.Entry, Entry.TheVariants.Absent, MessageLine.MessageLine}
use Rattle.model_log.specs.Log as Log
use Rattle.model_log.specs.Log.{Row, rows, fields, key_count, key_numbers, header, entries, message_row, messages, further, read_rows, read_log}
use Rattle.read_line.proofs.Laws.{array-full, array-bad, array_ok}
use Rattle.read_log.specs.Log.{scan, RowTaken}
use Rattle.read_log.proofs.Rows.{rows-some, scan-faulty, scan-first}

-- ---- The message of a row, by the row's fields

module _ (ks : List ℕ) (r : Row) where
  row-faulty : (x : ℕ) → fields r ≡ refused x → message_row ks r ≡ refused x
  unfolding message_row
  row-faulty x h = rw h

  module _ (fs : List (List ℕ)) (h : fields r ≡ got fs) where
    pub row_count : (length fs ≡ length ks → ⊥) → message_row ks r ≡ refused 41
    unfolding message_row
    row_count n = rw (h, ne_eqb _ _ n)

    pub row_read : length fs ≡ length ks → message_row ks r ≡ entries ks fs (replicate key_count Absent)
    unfolding message_row
    row_read n = rw (h, eq-eqb _ _ n)

-- what is taken from a text of which this is the first row
pub taken_refused : {ks t : List ℕ} {first : Row} {others : List Row} {x : Refusal} → rows t ≡ first ∷ others → message_row ks first ≡ refused (number_of x) → RowTaken ks t (Err x)
taken_refused {ks} {t} {first} {others} s h = record { first = first; others = others; split = s; read = sym h; ahead = tt }

pub taken-faulty : {ks t : List ℕ} {x : Refusal} → 1 ≤ length t → scan 0 1 t ≡ refused (number_of x) → RowTaken ks t (Err x)
taken-faulty {ks} {t} {x} some q =
    let f = scan-faulty 0 1 (number_of x) t q some in
    taken_refused f.1.rows (row-faulty ks f.1.first 41 f.1.refuses ∙ ap refused (sym f.0))

-- ---- One row

abbrev shown : MessageLine → List Entry
shown = entries_in key_count

module _ (ks : List ℕ) (row : ℕ) (t : List ℕ) (n : ℕ) (xs : List MessageLine) where
  abbrev pub from : Log.Logged
  from = further ks row (map shown (take n xs)) (rows t)

  -- no row is left
  pub none_left : length t ≡ 0 → from ≡ messages (map shown (take n xs))
  unfolding rows further
  none_left h = go t h
    where
      go : (u : List ℕ) → length u ≡ 0 → further ks row (map shown (take n xs)) (rows u) ≡ messages (map shown (take n xs))
      go [] h = refl
      go (b ∷ u) h = absurd (omega arith)

  module _ (some : 1 ≤ length t) where
    -- one message too many
    pub one-too-many : most_messages ≤ n → n ≤ length xs → from ≡ Log.refused 8 row
    unfolding further
    one-too-many l h = go t some
      where
        go : (u : List ℕ) → 1 ≤ length u → further ks row (map shown (take n xs)) (rows u) ≡ Log.refused 8 row
        go [] e = absurd (omega arith)
        go (b ∷ u) e = let k = rows-some b u in rw (k.2, array-full shown most_messages (message_row ks) n xs k.0 l h)

    module _ (l : n < most_messages) (h : n < length xs) (first : Row) (others : List Row) (split : rows t ≡ first ∷ others) where
      -- a row that gives no message
      pub row-refused : (x : ℕ) → message_row ks first ≡ refused x → from ≡ Log.refused x row
      unfolding further
      row-refused x e = rw (split, array-bad shown most_messages (message_row ks) n xs first l h x e)

      -- a message more
      pub row_more : (line : MessageLine) → message_row ks first ≡ got (shown line) → from ≡ further ks (row + 1) (map shown (take (n + 1) (set xs n line))) others
      unfolding further
      row_more line e = rw (split, array_ok shown most_messages (message_row ks) n xs first l h line e)

-- ---- The whole export, by its first row

pub log-faulty : (s : List ℕ) (x : ℕ) → scan 0 1 s ≡ refused x → read_log s ≡ Log.refused x 1
unfolding scan rows header read_rows read_log
log-faulty [] x q = let z : 41 ≡ x = cc in ap (λ (n : ℕ). Log.refused n 1) z
log-faulty (b ∷ s) x q = let f = scan-faulty 0 1 x (b ∷ s) q (omega arith) in rw (f.1.rows, f.1.refuses, f.0)

module _ (s : List ℕ) (e m : ℕ) (q : scan 0 1 s ≡ got (e, m)) where
  pub log-keys-bad : (x : ℕ) → key_numbers 0 (split comma (take e s)) ≡ refused x → read_log s ≡ Log.refused x 1
  unfolding header read_rows read_log
  log-keys-bad x h = let f = scan-first s e m q in rw (f.rows, f.fields, h)

  pub log-keys : (ks : List ℕ) → key_numbers 0 (split comma (take e s)) ≡ got ks → read_log s ≡ further ks 2 [] (rows (drop (e + 2) s))
  unfolding header read_rows read_log
  log-keys ks h = let f = scan-first s e m q in rw (f.rows, f.fields, h)
