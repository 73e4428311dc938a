-- A sheet and what it is turned into, line by line.
use Prim.Native.Nat.{ℕ, suc, ◌-◌}
use mathlib.Core.Path.{◌≡◌, refl, sym, ap, ap₂, ◌∙◌}
use mathlib.Core.Bool.{true, false}
use mathlib.Core.List.{List, [], ◌∷◌, ◌++◌, map, append-nil, append_assoc}
use native.Mathlib.Omega.{arith}
use lib.{IntN.ℤ, ListN.length, ListN.take, ListN.length-append, Seq.take-append_seam}
use Rattle.model.specs.{Job.Job, Form.form_of, Form.form_one, Form.form_two, Accepted.Every, Accepted.KeyBy, Text.bytes, Text.same, Text.colon, Text.equals_sign, Text.lines, Turns.letter_a}
use Rattle.model.specs.{Decimal.natural, Decimal.width, Decimal.width_to, Decimal.digits, Sheet.accepted, Sheet.read_sheet}
use Rattle.model.specs.declared.{Form.Form, Key.Key, Command.Command, Entry.Entry, Level.Level, Owner.Owner}
use Rattle.model.specs.declared.Key.TheVariants.{Open, Secret}
use Rattle.model.specs.declared.Owner.TheVariants.{A, B}
use Rattle.model.specs.declared.Level.TheVariants.{Low, High}
use Rattle.model_run.specs.{Owners.of_form}
use Rattle.model_text.specs.Text.{unlines, named, pair_text, command_line, command_lines, message_line, message_lines}
use Rattle.model_text.proofs.Readings.{accepted-passes}
use Rattle.model_sheet.specs.Sheet.{owner_text, secret_text, secrets_from, secret_line, letter_of, head_lines, secret_lines, turns_lines, sheet_text}
use Rattle.model_sheet.proofs.{Texts.unlines-append, Secrets.secrets_of, Lines.turns_of, Lines.lines_of, Lines.lines-back}
use Rattle.model_forms.specs.Forms.{number}
use Rattle.model_forms.specs.Claims.{other, owned, letter_in, line_in}
use Rattle.model_forms.specs.declared.Asked.{Asked}
use Rattle.model_forms.specs.declared.Asked.TheVariants.{One, Two}

map-append : (f : List ℕ → List ℕ) (xs ys : List (List ℕ)) → map f (xs ++ ys) ≡ map f xs ++ map f ys
map-append f [] ys = refl
map-append f (x ∷ xs) ys = ap (λ (r : List (List ℕ)). f x ∷ r) (map-append f xs ys)

-- the form of what is asked for
abbrev form_in : Asked → Form
form_in One = form_one
form_in Two = form_two

-- ---- Each kind of line

sheet-line : (a : Asked) → line_in a (named (bytes "sheet") (natural (number (other a)))) ≡ named (bytes "sheet") (natural (number a))
unfolding line_in named bytes same natural width width_to digits
sheet-line One = refl
sheet-line Two = refl

keys-line : (a : Asked) (v : List ℕ) → line_in a (named (bytes "keys") v) ≡ named (bytes "keys") v
unfolding line_in named bytes same
keys-line a v = refl

secret-line : (a : Asked) (v : List ℕ) → line_in a (named (bytes "secret") v) ≡ owned a (named (bytes "secret") v)
unfolding line_in named bytes same
secret-line a v = refl

do-line : (a : Asked) (v : List ℕ) → line_in a (named (bytes "do") v) ≡ named (bytes "do") v
unfolding line_in named bytes same
do-line a v = refl

msg-line : (a : Asked) (v : List ℕ) → line_in a (named (bytes "msg") v) ≡ named (bytes "msg") v
unfolding line_in named bytes same
msg-line a v = refl

turns-line : (a : Asked) (v : List ℕ) → line_in a (named (bytes "turns") v) ≡ named (bytes "turns") (map (letter_in a) v)
unfolding line_in named bytes same
turns-line One v = refl
turns-line Two v = refl

-- ---- All of a kind

named-owner : (v w : List ℕ) → named (bytes "secret") v ++ w ≡ named (bytes "secret") (v ++ w)
unfolding named
named-owner v w = append_assoc (bytes "secret") (equals_sign ∷ v) w

-- the last two bytes of a line are its owner
without : (l w : List ℕ) → length w ≡ 2 → take (length (l ++ w) - 2) (l ++ w) ≡ l
without l w h =
    let n : length (l ++ w) - 2 ≡ length l = omega (arith, length-append l w) in
    ap (λ (n : ℕ). take n (l ++ w)) n ∙ take-append_seam l w

secret-in : (a : Asked) (k : ℕ) (o : Owner) (d : ℤ) → KeyBy false (Secret o d)
    → line_in a (secret_line (secret_text (form_in (other a)).owners k o d)) ≡ secret_line (secret_text (form_in a).owners k o d)
unfolding secret_text
secret-in One k o d h =
    secret-line One (pair_text (k, d) ++ owner_text true o)
    ∙ ap (owned One) (sym (named-owner (pair_text (k, d)) (owner_text true o)))
    ∙ without (named (bytes "secret") (pair_text (k, d))) (owner_text true o) refl
    ∙ ap (named (bytes "secret")) (sym (append-nil (pair_text (k, d))))
secret-in Two k A d h =
    secret-line Two (pair_text (k, d) ++ [])
    ∙ ap (λ (v : List ℕ). owned Two (named (bytes "secret") v)) (append-nil (pair_text (k, d)))
    ∙ named-owner (pair_text (k, d)) (colon ∷ letter_a ∷ [])
secret-in Two k B d h = absurd (let e : false ≡ true = h in let z : ◌≡◌ {A = ℕ} 0 1 = cc in omega arith)

secrets-in : (a : Asked) (k : ℕ) (ks : List Key) → Every (KeyBy false) ks
    → map (line_in a) (map secret_line (secrets_from (form_in (other a)).owners k ks)) ≡ map secret_line (secrets_from (form_in a).owners k ks)
unfolding secrets_from
secrets-in a k [] h = refl
secrets-in a k (Open ∷ ks) h = secrets-in a (suc k) ks h.1
secrets-in a k (Secret o d ∷ ks) h = ap₂ (λ (l : List ℕ) (r : List (List ℕ)). l ∷ r) (secret-in a k o d h.0) (secrets-in a (suc k) ks h.1)

commands-in : (a : Asked) (cs : List Command) → map (line_in a) (map command_line cs) ≡ map command_line cs
commands-in a [] = refl
commands-in a (c ∷ cs) = ap₂ (λ (l : List ℕ) (r : List (List ℕ)). l ∷ r) (do-line a _) (commands-in a cs)

messages-in : (a : Asked) (ms : List (List Entry)) → map (line_in a) (map message_line ms) ≡ map message_line ms
messages-in a [] = refl
messages-in a (m ∷ ms) = ap₂ (λ (l : List ℕ) (r : List (List ℕ)). l ∷ r) (msg-line a _) (messages-in a ms)

letter-in : (a : Asked) (l : Level) → letter_in a (letter_of (form_in (other a)) l) ≡ letter_of (form_in a) l
letter-in One Low = refl
letter-in One (High A) = refl
letter-in One (High B) = refl
letter-in Two Low = refl
letter-in Two (High A) = refl
letter-in Two (High B) = refl

letters-in : (a : Asked) (ts : List Level) → map (letter_in a) (map (letter_of (form_in (other a))) ts) ≡ map (letter_of (form_in a)) ts
letters-in a [] = refl
letters-in a (l ∷ ts) = ap₂ (λ (b : ℕ) (r : List ℕ). b ∷ r) (letter-in a l) (letters-in a ts)

-- ---- The sheet

form_in-is : (a : Asked) → form_of (number a) ≡ form_in a
unfolding form_of
form_in-is One = refl
form_in-is Two = refl

-- the lines of a job in the form of what is asked for
abbrev lines_in : Asked → Job → List (List ℕ)
lines_in a j =
    named (bytes "sheet") (natural (number a)) ∷ named (bytes "keys") (natural (length j.keys)) ∷ secrets_of (form_in a).owners j.keys
    ++ (map command_line j.commands ++ (map message_line j.messages ++ turns_of (form_in a) j.turns))

lines-of : (a : Asked) (j : Job) → lines_of (of_form (number a) j) ≡ lines_in a j
lines-of a j = rw (form_in-is a)

lines-in : (a : Asked) (j : Job) → Every (KeyBy false) j.keys → map (line_in a) (lines_in (other a) j) ≡ lines_in a j
lines-in a j h =
    let ks = j.keys in
    let cs = map command_line j.commands in
    let ms = map message_line j.messages in
    let ts = turns_of (form_in (other a)) j.turns in
    ap₂ (λ (l : List ℕ) (r : List (List ℕ)). l ∷ r) (sheet-line a)
    (ap₂ (λ (l : List ℕ) (r : List (List ℕ)). l ∷ r) (keys-line a (natural (length ks)))
    (map-append (line_in a) (secrets_of (form_in (other a)).owners ks) (cs ++ (ms ++ ts))
    ∙ ap₂ ◌++◌ (secrets-in a 0 ks h)
    (map-append (line_in a) cs (ms ++ ts)
    ∙ ap₂ ◌++◌ (commands-in a j.commands)
    (map-append (line_in a) ms ts
    ∙ ap₂ ◌++◌ (messages-in a j.messages)
    (ap (λ (l : List ℕ). l ∷ []) (turns-line a (map (letter_of (form_in (other a))) j.turns) ∙ ap (named (bytes "turns")) (letters-in a j.turns)))))))

text-lines : (j : Job) → unlines (lines_of j) ≡ sheet_text j
unfolding sheet_text head_lines secret_lines command_lines message_lines turns_lines
text-lines j = simp unlines-append

-- an accepted sheet of the other form, whose secrets are all A's
pub line-by-line : (a : Asked) (s : List ℕ) (j : Job) → read_sheet s ≡ accepted j → of_form (number (other a)) j ≡ j → Every (KeyBy false) j.keys
    → sheet_text (of_form (number a) j) ≡ unlines (map (line_in a) (lines s))
line-by-line a s j e own h =
    sym (text-lines (of_form (number a) j))
    ∙ ap unlines (lines-of a j ∙ sym (lines-in a j h))
    ∙ ap (λ (ls : List (List ℕ)). unlines (map (line_in a) ls)) (sym (lines-of (other a) j) ∙ ap lines_of own ∙ lines-back (lines s) j (accepted-passes s j e).reads)
