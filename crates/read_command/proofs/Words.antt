-- A word's number tells it from every other word, so that the table may be asked by it.
use mathlib.Core.Path.{◌≡◌, refl, sym, ap, ◌∙◌}
use mathlib.Core.Bool.{Bool, true, false, cond, ◌&&◌, true≢false}
use mathlib.Core.List.{List, [], ◌∷◌, ◌++◌}
use Prim.Native.Nat.{ℕ, zero, suc, ◌+◌, ◌-◌, ◌*◌, ◌%◌, ◌<◌, ◌≤◌}
use native.Mathlib.{Numerals.add-one, Omega.arith, Decide.dec_lt, Nat.mod-eq_of_lt, Nat.suc-add, Nat.zero-add}
use lib.{Dec.eqb, Dec.ltb, Dec.leb, ListN.length, ListN.get_or, ListN.take, Seq.take-suc, Seq.length-take-le}
use borrow.Author.Tests.{eq-eqb, ne_eqb, lt-ltb, le-ltb, ltb-true, leb-true}
use Rattle.model.specs.{Parsed.got, Parsed.refused, Parsed.◌>>=◌, Text.bytes, Text.same, Command.Row, Command.table, Command.row_of}
use Rattle.model_text.proofs.{TextLaws.and_both, LineLaws.same_refl, LineLaws.same-eq}
use Rattle.read_command.specs.Code.{longest_word, six_bytes, packed, with_count, code_of, said_by, lookup, lookup_code}

-- ---- Packing a word, byte by byte

-- 256 to the i, one more than the greatest number of i bytes
unfoldable pub power : ℕ → ℕ
power zero = 1
power (suc i) = power i * 256

power-up : (d i : ℕ) → power i ≤ power (d + i)
unfolding power
power-up zero i = rw zero-add (omega arith)
power-up (suc d) i = rw suc-add (omega (arith, power-up d i))

power_le : (i : ℕ) → i < longest_word → power i ≤ six_bytes
unfolding power
power_le i h = let e : (6 - i) + i ≡ 6 = omega arith in rw e at (power-up (6 - i) i)

packed_more : (a : ℕ) (w : List ℕ) (b : ℕ) → packed a (w ++ (b ∷ [])) ≡ packed a w * 256 + b
unfolding packed
packed_more a [] b = refl
packed_more a (x ∷ w) b = packed_more (a * 256 + x) w b

-- the first i bytes of s make a
pub record Packed (s : List ℕ) (i a : ℕ) : Type 0 where
  pub small : a < power i
  pub is : a ≡ packed 0 (take i s)

pub packed_none : (s : List ℕ) → Packed s 0 0
unfolding power packed
packed_none s = record { small = omega arith; is = refl }

-- one byte more; the remainder is there for the bytes of a word that is too long
pub packed-next : (s : List ℕ) (i a : ℕ) → i < length s → get_or s i 0 < 256 → (i ≤ longest_word → Packed s i a)
    → i + 1 ≤ longest_word → Packed s (i + 1) (a % six_bytes * 256 + get_or s i 0)
unfolding power
packed-next s i a h b p l =
    let q = p (omega arith) in
    let e : a % six_bytes ≡ a = mod-eq_of_lt (omega (arith, q.small, power_le i (omega arith))) in
    let f = q.small in
    record { small = rw (e, add-one) (omega arith); is = rw (e, q.is, add-one, take-suc s i 0 h, packed_more) }

pub count_long : (a i : ℕ) → longest_word < i → with_count a i ≡ 0
unfolding with_count
count_long a i h = rw (lt-ltb _ _ h)

pub count-short : (a i : ℕ) → i ≤ longest_word → with_count a i ≡ a * 8 + i
unfolding with_count
count-short a i h = rw (le-ltb _ _ h)

-- the first i bytes of s, where they are the word
pub code_at : (s : List ℕ) (i a : ℕ) → i ≤ length s → (i ≤ longest_word → Packed s i a) → with_count a i ≡ code_of (take i s)
unfolding code_of
code_at s i a h p = rw (length-take-le i s h) (go (dec_lt longest_word i))
  where
    go : Dec (longest_word < i) → with_count a i ≡ with_count (packed 0 (take i s)) i
    go (yes l) = count_long a i l ∙ sym (count_long _ i l)
    go (no l) = ap (λ (n : ℕ). with_count n i) (p (omega arith)).is

-- ---- Two words of one number are the same

abbrev pub Bytes : List ℕ → Type 0
Bytes w = (i : ℕ) → get_or w i 0 < 256

packed-same : (w u : List ℕ) (a b : ℕ) → Bytes w → Bytes u → length w ≡ length u → packed a w ≡ packed b u → (a ≡ b) × (w ≡ u)
unfolding packed
packed-same [] [] a b f g l e = (e, refl)
packed-same [] (y ∷ u) a b f g l e = absurd (omega arith)
packed-same (x ∷ w) [] a b f g l e = absurd (omega arith)
packed-same (x ∷ w) (y ∷ u) a b f g l e =
    let r = packed-same w u (a * 256 + x) (b * 256 + y) (λ i. f (suc i)) (λ i. g (suc i)) (omega arith) e in
    let s = r.0 in
    let p : x < 256 = f 0 in
    let q : y < 256 = g 0 in
    let z : x ≡ y = omega arith in
    (omega arith, cc (r.1, z))

-- what the words of the table have in common: they are of one byte at least, and not too long
pub record Short (u : List ℕ) : Type 0 where
  pub each : Bytes u
  pub some : 1 ≤ length u
  pub few : length u ≤ longest_word

code-eq : (w u : List ℕ) → Bytes w → Short u → code_of w ≡ code_of u → w ≡ u
unfolding code_of
code-eq w u f s e = go (dec_lt longest_word (length w))
  where
    go : Dec (longest_word < length w) → w ≡ u
    go (yes l) = let z = sym (count_long _ _ l) ∙ e ∙ count-short _ _ s.few in absurd (omega arith)
    go (no l) =
        let z = sym (count-short _ _ (omega arith)) ∙ e ∙ count-short _ _ s.few in
        (packed-same w u 0 0 f s.each (omega arith) (omega arith)).1

-- ---- The same as a test

pub code_same : (w u : List ℕ) → Bytes w → Short u → eqb (code_of w) (code_of u) ≡ same w u
code_same w u f s = go (same w u) refl
  where
    go : (t : Bool) → same w u ≡ t → eqb (code_of w) (code_of u) ≡ t
    go true p = eq-eqb _ _ (ap code_of (same-eq w u p))
    go false p = ne_eqb _ _ (λ e. true≢false (sym (same_refl w) ∙ ap (same w) (code-eq w u f s e) ∙ p))

-- ---- The table's words are short: one computed test

unfoldable pub small : List ℕ → Bool
small [] = true
small (b ∷ bs) = ltb b 256 && small bs

unfoldable short : List Row → Bool
short [] = true
short (r ∷ rs) = (small r.word && (leb 1 (length r.word) && leb (length r.word) longest_word)) && short rs

small_bytes : (u : List ℕ) → small u ≡ true → Bytes u
unfolding small
small_bytes [] e i = omega arith
small_bytes (b ∷ bs) e zero = ltb-true b 256 (and_both (ltb b 256) (small bs) e).0
small_bytes (b ∷ bs) e (suc i) = small_bytes bs (and_both (ltb b 256) (small bs) e).1 i

pub word-short : (u : List ℕ) → small u && (leb 1 (length u) && leb (length u) longest_word) ≡ true → Short u
word-short u e =
    let p = and_both _ _ e in
    let q = and_both _ _ p.1 in
    record { each = small_bytes u p.0; some = leb-true _ _ q.0; few = leb-true _ _ q.1 }

rows-by-code : (rs : List Row) (w : List ℕ) → Bytes w → short rs ≡ true → lookup_code rs (code_of w) ≡ (row_of rs w >>= said_by)
unfolding lookup_code row_of short
rows-by-code [] w f s = refl
rows-by-code (r ∷ rs) w f s =
    let p = and_both _ (short rs) s in
    rw (code_same w r.word f (word-short r.word p.0), rows-by-code rs w f p.1) (go (same w r.word))
  where
    go : (t : Bool) → cond t (said_by r) (row_of rs w >>= said_by) ≡ (cond t (got r) (row_of rs w) >>= said_by)
    go true = refl
    go false = refl

pub bytes_take : (s : List ℕ) (e : ℕ) → Bytes s → Bytes (take e s)
bytes_take s zero f i = omega arith
bytes_take [] (suc e) f i = omega arith
bytes_take (b ∷ s) (suc e) f zero = f 0
bytes_take (b ∷ s) (suc e) f (suc i) = bytes_take s e (λ j. f (suc j)) i

-- what the table says by the number of the first e bytes of s
pub lookup-at : (s : List ℕ) (e x : ℕ) → Bytes s → x ≡ code_of (take e s) → lookup_code table x ≡ lookup (take e s)
unfolding lookup short small table bytes
lookup-at s e x f h = rw h (rows-by-code table (take e s) (bytes_take s e f) refl)

-- ---- The numbers of the table's words

-- x is the number of no row's word, as a match over these numbers leaves it
unfoldable pub NoneOf : Type 0 → ℕ → List Row → Type 0
NoneOf P x [] = P
NoneOf P x (r ∷ rs) = NoneOf (P × (x ≡ code_of r.word → ⊥)) x rs

none_of : (P : Type 0) (x : ℕ) (rs : List Row) → NoneOf P x rs → P × (lookup_code rs x ≡ refused 6)
unfolding NoneOf lookup_code
none_of P x [] h = (h, refl)
none_of P x (r ∷ rs) h =
    let g = none_of (P × (x ≡ code_of r.word → ⊥)) x rs h in
    (g.0.0, rw (ne_eqb _ _ g.0.1) g.1)

pub no_code : (P : Type 0) (x : ℕ) (rs : List Row) → NoneOf P x rs → lookup_code rs x ≡ refused 6
no_code P x rs h = (none_of P x rs h).1
