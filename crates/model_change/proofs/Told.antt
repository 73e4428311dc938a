-- No sheet is refused with a number other than 1 to 9 and 46.
use Prim.Native.Nat.{ℕ, ◌+◌, ◌-◌}
use mathlib.Core.Path.{refl, subst}
use mathlib.Core.Logic.{inl, inr}
use mathlib.Core.Bool.{Bool, true, false}
use mathlib.Core.List.{List, [], ◌∷◌}
use native.Mathlib.Omega.{arith}
use lib.{IntN.ℤ, Dec.eqb, Dec.leb, Dec.ltb, ListN.length}
use Rattle.model.specs.{Parsed.Parsed, Parsed.◌>>=◌, Text.divide, Text.find, Text.same, Text.split, Text.space, Text.comma, Text.colon, Text.equals_sign, Text.bytes, Text.lines}
use Rattle.model.specs.{Limits.most_bytes, Limits.forms, Number.up_to, Number.number, Number.from_one, Command.Limits, Command.limits}
use Rattle.model.specs.{Command.table, Command.row_of, Command.words, Command.read_command, Pair.pair, Pair.part, Pair.ByKey, Head.sheet_line, Head.read_first}
use Rattle.model.specs.{Head.keys_line, Head.read_keys, Head.apart, Head.owner, Head.secret, Head.secret_line, Head.all_open, Head.read_secrets, Program.read_commands, Messages.parts, Messages.all_absent}
use Rattle.model.specs.{Messages.message, Messages.message_line, Messages.read_messages, Turns.letter_a, Turns.letter_b, Turns.second, Turns.letter, Turns.letters, Turns.turns_line, Turns.nothing_after, Turns.read_turns}
use Rattle.model.specs.{Phase.Phase, Phase.got, Phase.refused, Phase.after, Phase.numbered, Phase.one, Phase.onward, Phase.each_line, Phase.many, Phase.one_more, Phase.some}
use Rattle.model.specs.{Sheet.Reading, Sheet.accepted, Sheet.next, Sheet.targets, Sheet.read_body, Sheet.read_lines, Sheet.forbidden_line, Sheet.closed, Sheet.read_sheet, Form.form_of, Job.Job}
use Rattle.model.specs.Parsed as Parsed
use Rattle.model.specs.Sheet as Sheet
use Rattle.model.specs.declared.{Form.Form, Key.Key, Entry.Entry, Entry.TheVariants.Number, Command.Command}
use Rattle.model.proofs.{Accepted.either, Refused.Refuses, Refused.bind-refuses, Refused.need-refuses, Refused.up-to-refuses, Refused.number-refuses, Refused.by-row-refuses, Refused.row-refuses}
use Rattle.model_change.specs.Claims.{OfReading, RefusalsTold}

-- a refusal of a piece of text has one of these numbers
abbrev Says : {A : Type 0} → Parsed A → Type 0
Says r = Refuses OfReading r

bind : {A B : Type 0} (r : Parsed A) (f : A → Parsed B) → Says r → ((a : A) → Says (f a)) → Says (r >>= f)
bind r f h k = bind-refuses OfReading r f h k

four : OfReading 4
four = inl (omega arith, omega arith)

six : OfReading 6
six = inl (omega arith, omega arith)

eight : OfReading 8
eight = inl (omega arith, omega arith)

nine : OfReading 9
nine = inl (omega arith, omega arith)

owners : OfReading 46
owners = inr refl

divide-told : (c n : ℕ) (s : List ℕ) → OfReading n → Says (divide c n s)
unfolding divide
divide-told c n s h = either Says (ltb (find c s) (length s)) _ _ tt h

from_one-says : (m : ℕ) (s : List ℕ) → Says (from_one m s)
unfolding from_one
from_one-says m s = bind (up_to m s) _ (up-to-refuses OfReading four m s) (λ n. need-refuses OfReading (leb 1 n) 4 _ (λ e. four) (λ e. tt))

command-told : (l : Limits) (s : List ℕ) → Says (read_command l s)
unfolding read_command words
command-told l s = go (split space s)
  where
    go : (ws : List (List ℕ)) → Says (words l ws)
    go [] = six
    go (w ∷ ps) = bind (row_of table w) _ (row-refuses OfReading six table w) (λ r. by-row-refuses OfReading four six l r.op r.parts ps)

pair-told : (K next : ℕ) (p : List ℕ) → Says (pair K next p)
unfolding pair
pair-told K next p =
    bind (divide colon 4 p) _ (divide-told colon 4 p four) (λ kv.
    bind (up_to (K - 1) kv.0) _ (up-to-refuses OfReading four (K - 1) kv.0) (λ k.
    need-refuses OfReading (leb next k) 5 _ (λ q. inl (omega arith, omega arith)) (λ q.
    bind (number kv.1) _ (number-refuses OfReading four kv.1) (λ v. tt))))

part-told : {A : Type 0} (f : ℤ → A) (K : ℕ) (e : ByKey A) (p : List ℕ) → Says (part f K e p)
unfolding part
part-told f K e p = bind (pair K e.next p) _ (pair-told K e.next p) (λ kv. tt)

-- a secret: the colons, the pair, the owner
apart-told : (two : Bool) (s : List ℕ) → Says (apart two s)
unfolding apart
apart-told false s = tt
apart-told true s = bind (divide colon 4 s) _ (divide-told colon 4 s four) (λ kv. bind (divide colon 4 kv.1) _ (divide-told colon 4 kv.1 four) (λ vo. tt))

owner-told : (s : List ℕ) → Says (owner s)
unfolding owner
owner-told [] = owners
owner-told (b ∷ []) = either Says (eqb b letter_a) _ _ tt (either Says (eqb b letter_b) _ _ tt owners)
owner-told (b ∷ c ∷ s) = owners

secret-told : (two : Bool) (K next : ℕ) (s : List ℕ) → Says (secret two K next s)
unfolding secret
secret-told two K next s =
    bind (apart two s) _ (apart-told two s) (λ po. bind (pair K next po.0) _ (pair-told K next po.0) (λ kv. bind (owner po.1) _ (owner-told po.1) (λ o. tt)))

secret-line-told : (f : Form) (K : ℕ) (e : ByKey Key) (s : List ℕ) → Says (secret_line f K e s)
unfolding secret_line
secret-line-told f K e s = bind (secret f.owners K e.next s) _ (secret-told f.owners K e.next s) (λ kx. tt)

parts-told : (K : ℕ) (e : ByKey Entry) (ps : List (List ℕ)) → Says (parts K e ps)
unfolding parts
parts-told K e [] = tt
parts-told K e (p ∷ ps) = bind (part Number K e p) _ (part-told Number K e p) (λ d. parts-told K d ps)

message-told : (K : ℕ) (s : List ℕ) → Says (message_line K s)
unfolding message_line message
message-told K s = bind (message K s) _ (go s) (λ e. tt)
  where
    go : (s : List ℕ) → Says (message K s)
    go [] = tt
    go (b ∷ bs) = parts-told K (all_absent K) (split comma (b ∷ bs))

more-told : {A B : Type 0} (limit : ℕ) (f : B → Parsed A) (xs : List A) (v : B) → Says (f v) → Says (one_more limit f xs v)
unfolding one_more
more-told limit f xs v h = need-refuses OfReading (ltb (length xs) limit) 8 _ (λ e. eight) (λ e. bind (f v) _ h (λ a. tt))

second-told : (two : Bool) (b : ℕ) → Says (second two b)
second-told false b = nine
second-told true b = either Says (eqb b letter_b) _ _ tt nine

letters-told : (f : Form) (s : List ℕ) → Says (letters f s)
unfolding letters letter
letters-told f [] = tt
letters-told f (b ∷ bs) =
    bind (letter f b) _ (either Says (eqb b f.low) _ _ tt (either Says (eqb b f.high) _ _ tt (second-told f.owners b))) (λ l.
    bind (letters f bs) _ (letters-told f bs) (λ ls. tt))

turns-told : (f : Form) (s : List ℕ) → Says (turns_line f s)
unfolding turns_line
turns-told f s =
    need-refuses OfReading (leb (length s) f.letters) 8 _ (λ e. eight) (λ e.
    need-refuses OfReading (leb 1 (length s)) 9 _ (λ e. nine) (λ e. letters-told f s))

-- ---- The phases

abbrev Phased : {A : Type 0} → Phase A → Type 0
Phased (got a n ls) = Unit {0}
Phased (refused r n) = OfReading r

three : OfReading 3
three = inl (omega arith, omega arith)

after-told : (w l : List ℕ) → Says (after w l)
unfolding after
after-told w l = bind (divide equals_sign 3 l) _ (divide-told equals_sign 3 l three) (λ ws. need-refuses OfReading (same ws.0 w) 3 _ (λ e. three) (λ e. tt))

numbered-told : {A : Type 0} (n : ℕ) (ls : List (List ℕ)) (r : Parsed A) → Says r → Phased (numbered n ls r)
numbered-told n ls (Parsed.got a) h = tt
numbered-told n ls (Parsed.refused r) h = h

one_told : {A : Type 0} (w : List ℕ) (f : List ℕ → Parsed A) → ((s : List ℕ) → Says (f s)) → (n : ℕ) (ls : List (List ℕ)) → Phased (one w f n ls)
unfolding one
one_told w f h n [] = three
one_told w f h n (l ∷ ls) = numbered-told n ls (after w l >>= f) (bind (after w l) f (after-told w l) h)

many-told : {A : Type 0} (w : List ℕ) (f : A → List ℕ → Parsed A) → ((a : A) (s : List ℕ) → Says (f a s)) → (n : ℕ) (a : A) (ls : List (List ℕ)) → Phased (many w f n a ls)
unfolding many
many-told w f h n a [] = tt
many-told {A} w f h n a (l ∷ ls) = go (λ b. many-told w f h (n + 1) b ls) (after w l)
  where
    on : ((b : A) → Phased (many w f (n + 1) b ls)) → (r : Parsed A) → Says r → Phased (onward n r (λ b. many w f (n + 1) b ls))
    on later (Parsed.got b) k = later b
    on later (Parsed.refused r) k = k

    go : ((b : A) → Phased (many w f (n + 1) b ls)) → (r : Parsed (List ℕ)) → Phased (each_line n a (l ∷ ls) r (f a) (λ b. many w f (n + 1) b ls))
    go later (Parsed.got v) = on later (f a v) (h a v)
    go later (Parsed.refused r) = tt

some-told : {A : Type 0} (x : Phase (List A)) → Phased x → Phased (some x)
some-told (got [] n ls) h = three
some-told (got (c ∷ cs) n ls) h = tt
some-told (refused r n) h = h

nothing-told : {A : Type 0} (x : Phase A) → Phased x → Phased (nothing_after x)
nothing-told (got a n []) h = tt
nothing-told (got a n (l ∷ ls)) h = three
nothing-told (refused r n) h = h

-- ---- The sheet

abbrev Told : Reading → Type 0
Told (Sheet.refused n l) = OfReading n
Told (accepted j) = Unit {0}

next-told : {A : Type 0} (x : Phase A) (f : A → ℕ → List (List ℕ) → Reading) → Phased x → ((a : A) (n : ℕ) (ls : List (List ℕ)) → Told (f a n ls)) → Told (next x f)
next-told (got a n ls) f h k = k a n ls
next-told (refused r n) f h k = h

targets-told : (n m : ℕ) (cs : List Command) (j : Job) → Told (targets n m cs j)
unfolding targets
targets-told n m [] j = tt
targets-told n m (c ∷ cs) j = either Told (ltb m c.t) _ _ (inl (omega arith, omega arith)) (targets-told (n + 1) m cs j)

body-told : (f : Form) (ks : List Key) (K top : ℕ) (ls : List (List ℕ)) → Told (read_body f ks K top ls)
unfolding read_body read_commands read_messages read_turns
body-told f ks K top ls =
    let one-command = one_more f.commands (read_command (limits K f.commands)) in
    let one-message = one_more f.messages (message_line K) in
    next-told (read_commands f K top ls) _
    (some-told (many (bytes "do") one-command top [] ls)
    (many-told (bytes "do") one-command (λ cs s. more-told f.commands (read_command (limits K f.commands)) cs s (command-told _ s)) top [] ls))
    (λ cs n₁ ls₁.
    next-told (read_messages f K n₁ ls₁) _
    (many-told (bytes "msg") one-message (λ ms s. more-told f.messages (message_line K) ms s (message-told K s)) n₁ [] ls₁)
    (λ ms n₂ ls₂.
    next-told (read_turns f n₂ ls₂) _
    (nothing-told (one (bytes "turns") (turns_line f) n₂ ls₂) (one_told (bytes "turns") (turns_line f) (turns-told f) n₂ ls₂))
    (λ ts n₃ ls₃. targets-told top (length cs) cs _)))

lines-told : (ls : List (List ℕ)) → Told (read_lines ls)
unfolding read_lines read_first read_keys read_secrets sheet_line keys_line
lines-told ls =
    next-told (read_first 1 ls) _ (one_told (bytes "sheet") sheet_line (from_one-says forms) 1 ls) (λ number n₁ ls₁.
    next-told (read_keys (form_of number) n₁ ls₁) _ (one_told (bytes "keys") (keys_line (form_of number)) (from_one-says (form_of number).keys) n₁ ls₁) (λ K n₂ ls₂.
    next-told (read_secrets (form_of number) K n₂ ls₂) _ (many-told (bytes "secret") (secret_line (form_of number) K) (secret-line-told (form_of number) K) n₂ (all_open K) ls₂) (λ ks top ls₃.
    body-told (form_of number) ks.at K top ls₃)))

sheet-told : (s : List ℕ) → Told (read_sheet s)
unfolding read_sheet
sheet-told s =
    either Told (ltb most_bytes (length s)) _ _ (inl (omega arith, omega arith))
    (either Told (leb 1 (forbidden_line 1 s)) _ _ (inl (omega arith, omega arith))
    (either Told (closed s) _ _ (lines-told (lines s)) (inl (omega arith, omega arith))))

pub refusals-told : RefusalsTold
refusals-told s n l e = subst Told e (sheet-told s)
