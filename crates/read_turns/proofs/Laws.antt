-- Laws of the line `turns` of a sheet of the form f: its name, its letters, and the end of the text after it.
use mathlib.Core.Path.{◌≡◌, refl, sym, ap, ◌∙◌}
use mathlib.Core.Bool.{Bool, true, false, cond, ◌&&◌, ◌||◌, true≢false}
use mathlib.Core.List.{List, [], ◌∷◌, ◌++◌, map, append-nil, append_assoc}
use Prim.Native.Nat.{ℕ, ◌+◌, ◌<◌, ◌≤◌}
use native.Mathlib.Omega.{arith}
use lib.{Dec.eqb, ListN.length, ListN.take, ListN.drop, ListN.set, ListN.get_or}
use borrow.Author.Tests.{eq-eqb, ne_eqb, eqb-true, lt-leb, le-leb}
use Rattle.model.specs.{Parsed.Parsed, Parsed.got, Parsed.refused, Parsed.◌>>=◌, Text.bytes, Text.find, Text.line_feed, Phase.Phase, Phase.one, Text.free}
use Rattle.model.specs.{Turns.letter_l, Turns.letter_b, Turns.second, Turns.letter, Turns.letters, Turns.turns_line, Turns.nothing_after, Turns.read_turns, Stored.level_of, Form.Fits}
use Rattle.model.specs.declared.{Form.Form, Level.Level}
use Rattle.model.specs.declared.Level.TheVariants.{Low, High}
use Rattle.model.specs.declared.Owner.TheVariants.{A, B}
use Rattle.model_text.specs.Found.{Word}
use Rattle.model_text.proofs.{TextLaws.uncons, TextLaws.done, LineLaws.lines_none, LineLaws.lines_more}
use Rattle.read_line.specs.Phase.{Reads}
use Rattle.std.specs.Prelude.{Ok, Err}
use Rattle.model.specs.declared.{Fault.Fault, Refusal.TheVariants.Misplaced}
use Rattle.model.proofs.Stored.{map_more}
use Rattle.model.specs.Form.{third_of}
use Rattle.read_turns.specs.Turns.{LetterKnown, turns_in}

pub turns-word : Word (bytes "turns") (116 ∷ 117 ∷ 114 ∷ 110 ∷ 115 ∷ 61 ∷ [])
unfolding bytes free
turns-word = record { sign = refl; no_sign = refl; no-feed = refl }

-- ---- The letters of s, of which those before i are copied

-- what letters gives after those that gave ls
abbrev pub onto : List Level → Parsed (List Level) → Parsed (List Level)
onto ls (got more) = got (ls ++ more)
onto ls (refused n) = refused n

pub onto-none : (r : Parsed (List Level)) → onto [] r ≡ r
onto-none (got ls) = refl
onto-none (refused n) = refl

module _ (f : Form) (s : List ℕ) (i : ℕ) (copy : List ℕ) where
  abbrev copied : List Level
  copied = map level_of (take i copy)

  pub letters-end : length s ≤ i → onto copied (letters f (drop i s)) ≡ got copied
  unfolding letters
  letters-end h = rw (done s i h) (ap got (append-nil copied))

  module _ (h : i < length s) where
    pub letters-bad : letter f (get_or s i 0) ≡ refused 9 → onto copied (letters f (drop i s)) ≡ refused 9
    unfolding letters
    letters-bad e = rw (uncons s i h, e)

    pub letters-next : i < length copy → letter f (get_or s i 0) ≡ got (level_of (get_or s i 0))
        → onto copied (letters f (drop i s)) ≡ onto (map level_of (take (i + 1) (set copy i (get_or s i 0)))) (letters f (drop (i + 1) s))
    unfolding letters
    letters-next l e = rw (uncons s i h, e, map_more level_of i copy (get_or s i 0) l) (go (letters f (drop (i + 1) s)))
      where
        go : (r : Parsed (List Level)) → onto copied (r >>= (λ ls. got (level_of (get_or s i 0) ∷ ls))) ≡ onto (copied ++ (level_of (get_or s i 0) ∷ [])) r
        go (got ls) = ap got (sym (append_assoc copied (level_of (get_or s i 0) ∷ []) ls))
        go (refused n) = refl

-- a byte by the form's letters, of which each is that of its level
second-by : (two : Bool) (high b : ℕ) → (b ≡ letter_l → ⊥) → (b ≡ high → ⊥)
    → second two b ≡ cond (eqb b (cond two letter_b high)) (got (level_of b)) (refused 9)
second-by false high b low n = rw (ne_eqb _ _ n)
second-by true high b low n = go (eqb b letter_b) refl
  where
    go : (t : Bool) → eqb b letter_b ≡ t → cond t (got (High B)) (refused 9) ≡ cond t (got (cond (eqb b letter_l) Low (cond t (High B) (High A)))) (refused 9)
    go true q = rw (ne_eqb _ _ low)
    go false q = refl

module _ {f : Form} (fits : Fits f) (b : ℕ) where
  letter-low : b ≡ f.low → LetterKnown f b true
  unfolding letter
  letter-low e = record { read = rw (eq-eqb _ _ e, eq-eqb _ _ (e ∙ fits.low)) }

  letter-high : (b ≡ f.low → ⊥) → b ≡ f.high → LetterKnown f b true
  unfolding letter
  letter-high n e = record { read = rw (ne_eqb _ _ n, eq-eqb _ _ e) (ap got (sym (ap level_of e ∙ fits.high))) }

  letter-third : (b ≡ f.low → ⊥) → (b ≡ f.high → ⊥) → (t : ℕ) → t ≡ third_of f → LetterKnown f b (eqb b t)
  unfolding letter
  letter-third n m t e = record { read = rw (ne_eqb _ _ n, ne_eqb _ _ m, e) (second-by f.owners f.high b (λ l. n (l ∙ sym fits.low)) m) }

  -- held to the three at once
  pub letter-among : (t : ℕ) → t ≡ third_of f → LetterKnown f b ((eqb b f.low || eqb b f.high) || eqb b t)
  letter-among t e = low (eqb b f.low) refl
    where
      high : (x : Bool) → eqb b f.high ≡ x → (b ≡ f.low → ⊥) → LetterKnown f b (x || eqb b t)
      high true q n = letter-high n (eqb-true b f.high q)
      high false q n = letter-third n (λ m. true≢false (sym (eq-eqb b f.high m) ∙ q)) t e

      low : (x : Bool) → eqb b f.low ≡ x → LetterKnown f b ((x || eqb b f.high) || eqb b t)
      low true q = letter-low (eqb-true b f.low q)
      low false q = high (eqb b f.high) refl (λ m. true≢false (sym (eq-eqb b f.low m) ∙ q))

module _ {f : Form} {b : ℕ} {r : Bool} (h : LetterKnown f b r) where
  pub letter-is : r ≡ true → letter f b ≡ got (level_of b)
  letter-is q = h.read ∙ ap (λ (x : Bool). cond x (got (level_of b)) (refused 9)) q

  pub letter-is-not : r ≡ false → letter f b ≡ refused 9
  letter-is-not q = h.read ∙ ap (λ (x : Bool). cond x (got (level_of b)) (refused 9)) q

-- what is read as long as all letters are known
abbrev pub sofar : Bool → Parsed (List Level) → Parsed (List Level)
sofar known r = cond known r (refused 9)

-- one letter more, known or not
pub letters-more : (f : Form) (s : List ℕ) (i : ℕ) (copy : List ℕ) → i < length s → i < length copy → (known r : Bool) → LetterKnown f (get_or s i 0) r
    → sofar known (onto (map level_of (take i copy)) (letters f (drop i s)))
    ≡ sofar (known && r) (onto (map level_of (take (i + 1) (set copy i (get_or s i 0)))) (letters f (drop (i + 1) s)))
letters-more f s i copy h l false r k = refl
letters-more f s i copy h l true true k = letters-next f s i copy h l k.read
letters-more f s i copy h l true false k = letters-bad f s i copy h k.read

-- ---- The line `turns`

module _ (f : Form) (s : List ℕ) where
  pub turns-long : f.letters < length s → turns_line f s ≡ refused 8
  unfolding turns_line
  turns-long h = rw (lt-leb _ _ h)

  pub turns-none : length s ≡ 0 → turns_line f s ≡ refused 9
  unfolding turns_line
  turns-none h = let l : length s ≤ f.letters = omega arith in rw (le-leb _ _ l, h)

  pub turns-letters : length s ≤ f.letters → (length s ≡ 0 → ⊥) → turns_line f s ≡ letters f s
  unfolding turns_line
  turns-letters h n = let l : 1 ≤ length s = omega arith in rw (le-leb _ _ h, le-leb _ _ l)

-- ---- Nothing after the line `turns`: t is what is left of s from b on, and e the place of its first line feed

abbrev pub the_line : Form → ℕ → List (List ℕ) → Phase (List Level)
the_line f n ls = one (bytes "turns") (turns_line f) n ls

module _ (f : Form) (bs : List ℕ) {s : List ℕ} {first : ℕ} where
  pub last-refused : {e : Fault} → Reads (the_line f) (turns_in bs) s first (Err e) → Reads (read_turns f) (turns_in bs) s first (Err e)
  unfolding read_turns
  last-refused h = record { read = ap nothing_after h.read; ahead = tt }

  module _ {n b : ℕ} {x : ℕ} (h : Reads (the_line f) (turns_in bs) s first (Ok (x, record { line = n; at = b }))) (t : List ℕ) (d : t ≡ drop b s) (e : ℕ) (q : e ≡ find line_feed t) where
    pub last_more : e < length t → Reads (read_turns f) (turns_in bs) s first (Err (record { refusal = Misplaced; line = n }))
    unfolding read_turns
    last_more l =
        let m : find line_feed t < length t = omega arith in
        record { read = rw (← h.read, ← d, lines_more t m); ahead = tt }

    pub last_none : length t ≤ e → Reads (read_turns f) (turns_in bs) s first (Ok (x, record { line = n; at = b }))
    unfolding read_turns
    last_none l =
        let m : length t ≤ find line_feed t = omega arith in
        record { read = rw (← h.read, ← d, lines_none t m); ahead = h.ahead }
