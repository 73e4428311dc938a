-- At most how many bytes a sheet has.
use mathlib.Core.Path.{◌≡◌, sym, subst}
use mathlib.Core.List.{List, [], ◌∷◌, ◌++◌, map}
use mathlib.Core.Bool.{Bool, true, false}
use Prim.Native.Nat.{ℕ, suc, ◌+◌, ◌*◌, ◌<◌, ◌≤◌, zero-le}
use native.Mathlib.Omega.{arith}
use lib.{IntN.ℤ, ListN.length, ListN.length-append, ListN.length-map}
use Rattle.model.specs.{Job.Job, Accepted.Sound, Form.form_of, Text.bytes, Text.colon, Text.line_feed, Text.equals_sign, Decimal.natural}
use Rattle.model.specs.declared.{Form.Form, Key.Key, Owner.Owner, Level.Level}
use Rattle.model.specs.declared.Key.TheVariants.{Open, Secret}
use Rattle.model.proofs.Forms.{every-form-fits}
use Rattle.model_text.specs.Text.{unlines, named, pair_text, command_lines, message_lines}
use Rattle.model_text.proofs.Numbers.{digit-length}
use Rattle.model_text.proofs.Short.{pair-short, lines-short, command-lines-short}
use Rattle.model_sheet.specs.Sheet.{owner_text, secret_text, secrets_from, secret_line, letter_of, head_lines, secret_lines, turns_lines, sheet_text}
use Rattle.model_sheet.specs.Claims.{longest_by, Short}

-- a line has its name, an equals sign, its value and a line feed; then come the lines that follow
line-length : (w v : List ℕ) (ls : List (List ℕ)) → length (unlines (named w v ∷ ls)) ≡ length w + length v + 2 + length (unlines ls)
unfolding unlines named
line-length w v ls = omega (arith, length-append (w ++ (equals_sign ∷ v)) (line_feed ∷ unlines ls), length-append w (equals_sign ∷ v))

-- 8 bytes of `sheet`, and 7 of `keys` with one digit
head-short : (n K : ℕ) → n < 10 → K < 10 → length (head_lines n K) ≡ 15
unfolding head_lines unlines bytes
head-short n K l h =
    let first = line-length (bytes "sheet") (natural n) (named (bytes "keys") (natural K) ∷ []) in
    omega (arith, first, line-length (bytes "keys") (natural K) [], digit-length n l, digit-length K h)

-- `secret=`, a pair of at most 13 bytes and the line feed; a colon and an owner, where it is named
abbrev widest : Bool → ℕ
widest false = 21
widest true = 23

secret-short : (two : Bool) (k : ℕ) (o : Owner) (d : ℤ) → k < 10 → length (unlines (secret_line (secret_text two k o d) ∷ [])) ≤ widest two
unfolding bytes secret_text unlines
secret-short false k o d h = omega (arith, line-length (bytes "secret") (pair_text (k, d) ++ []) [], length-append (pair_text (k, d)) [], pair-short (k, d) h)
secret-short true k o d h =
    let named = owner_text true o in
    omega (arith, line-length (bytes "secret") (pair_text (k, d) ++ named) [], length-append (pair_text (k, d)) named, pair-short (k, d) h)

-- for each of at most eight keys
module _ (two : Bool) where
  unfoldable rest_of : ℕ → List Key → List ℕ
  rest_of i ks = unlines (map secret_line (secrets_from two i ks))

  one_more : (i : ℕ) (o : Owner) (d : ℤ) (ks : List Key) → i < 10 → length (rest_of i (Secret o d ∷ ks)) ≤ widest two + length (rest_of (suc i) ks)
  unfolding secrets_from unlines rest_of
  one_more i o d ks h =
      let l = secret_line (secret_text two i o d) in
      omega (arith, secret-short two i o d h, length-append l (line_feed ∷ rest_of (suc i) ks), length-append l (line_feed ∷ []))

secrets-from-short : (two : Bool) (i : ℕ) (ks : List Key) → i + length ks ≤ 10 → length (rest_of two i ks) ≤ widest two * length ks
unfolding secrets_from unlines rest_of
secrets-from-short two i [] h = zero-le
secrets-from-short false i (Open ∷ ks) h = omega (arith, secrets-from-short false (suc i) ks (omega arith))
secrets-from-short true i (Open ∷ ks) h = omega (arith, secrets-from-short true (suc i) ks (omega arith))
secrets-from-short false i (Secret o d ∷ ks) h = omega (arith, one_more false i o d ks (omega arith), secrets-from-short false (suc i) ks (omega arith))
secrets-from-short true i (Secret o d ∷ ks) h = omega (arith, one_more true i o d ks (omega arith), secrets-from-short true (suc i) ks (omega arith))

secrets-short : (two : Bool) (ks : List Key) → length ks ≤ 8 → length (secret_lines two ks) ≤ 8 * widest two
unfolding secret_lines rest_of
secrets-short false ks h = omega (arith, secrets-from-short false 0 ks (omega arith))
secrets-short true ks h = omega (arith, secrets-from-short true 0 ks (omega arith))

-- what the form adds to the other lines
by_form : (two : Bool) (secrets others : ℕ) → secrets ≤ 8 * widest two → others ≤ 6102 → secrets + others ≤ longest_by two
by_form false secrets others h k = omega arith
by_form true secrets others h k = omega arith

-- 7 bytes of `turns=` and the line feed, and the letters
turns-short : (f : Form) (ts : List Level) → length (turns_lines f ts) ≡ length ts + 7
unfolding turns_lines unlines bytes
turns-short f ts = omega (arith, line-length (bytes "turns") (map (letter_of f) ts) [], length-map ts (letter_of f))

-- all of them
pub short : Short
unfolding sheet_text
short j h =
    let ks = j.keys in
    let cs = j.commands in
    let ms = j.messages in
    let f = form_of j.form in
    let fits = every-form-fits j.form in
    let a = head_lines j.form (length ks) in
    let b = secret_lines f.owners ks in
    let c = command_lines cs in
    let d = message_lines ms in
    let t = turns_lines f j.turns in
    let most : length ks ≤ 8 = omega (arith, h.most_keys, fits.keys) in
    let few : length cs ≤ 64 = omega (arith, h.most_commands, fits.commands) in
    let others : length a + (length c + (length d + length t)) ≤ 6102 =
    omega (
      arith,
      head-short j.form (length ks) (omega (arith, h.form.1)) (omega arith),
      turns-short f j.turns,
      h.most_turns,
      fits.letters,
      command-lines-short (length ks) (length cs) cs most few h.commands,
      few,
      lines-short (length ks) ms most h.messages,
      h.most_messages,
      fits.messages,
    ) in
    let all : length (a ++ (b ++ (c ++ (d ++ t)))) ≡ length b + (length a + (length c + (length d + length t))) =
    omega (arith, length-append a (b ++ (c ++ (d ++ t))), length-append b (c ++ (d ++ t)), length-append c (d ++ t), length-append d t) in
    subst (λ (n : ℕ). n ≤ longest_by f.owners) (sym all) (by_form f.owners (length b) _ (secrets-short f.owners ks most) others)

-- of either form
pub most-of-all : (j : Job) → Sound j → length (sheet_text j) ≤ 6286
most-of-all j h = go (form_of j.form).owners (short j h)
  where
    go : (two : Bool) → length (sheet_text j) ≤ longest_by two → length (sheet_text j) ≤ 6286
    go true l = l
    go false l = omega arith
