-- The job of an accepted sheet is sound: each step of reading keeps what it read within its limit.
use Prim.Native.Nat.{ℕ, zero, suc, pred, ◌+◌, ◌-◌, ◌<◌, ◌≤◌, zero-le, suc-le-suc}
use mathlib.Core.Path.{◌≡◌, refl, sym, ◌∙◌, ap, subst}
use mathlib.Core.Bool.{Bool, true, false, cond}
use mathlib.Core.List.{List, [], ◌∷◌, ◌++◌}
use lib.{Dec.eqb, Dec.leb, Dec.ltb, IntN.ℤ, IntN.pos, IntN.negsuc, ListN.length, ListN.set, ListN.replicate, ListN.get_or, ListN.length-set, ListN.length-replicate}
use lib.{ListN.length-append}
use borrow.Author.Tests.{eq-eqb, leb-true, ltb-true, ltb-false}
use native.Mathlib.Omega.{arith}
use Rattle.model.specs.{Limits.most_bytes, Limits.variables, Limits.greatest_number, Limits.forms, Form.form_of}
use Rattle.model.specs.{Limits.least_number, Parsed.Parsed, Parsed.got, Parsed.refused, Parsed.need, Parsed.◌>>=◌, Parsed.◌>>◌, Text.bytes, Text.same, Text.divide}
use Rattle.model.specs.{Text.split, Text.lines, Text.count, Text.line_feed, Text.space, Text.comma, Text.minus, Text.colon, Number.natural, Number.within}
use Rattle.model.specs.{Number.up_to, Number.from_one, Number.negative, Number.positive, Number.number, Command.Row, Command.Limits, Command.table, Command.blank}
use Rattle.model.specs.{Command.operand, Command.operands, Command.row_of, Command.by_row, Command.words, Command.read_command, Command.limits, Pair.ByKey}
use Rattle.model.specs.{Pair.everywhere, Pair.pair, Pair.part, Head.sheet_line, Head.keys_line, Head.apart, Head.owner, Head.secret, Head.secret_line, Head.all_open, Head.read_first, Head.read_keys}
use Rattle.model.specs.{Head.read_secrets, Messages.parts, Messages.all_absent, Messages.message, Messages.message_line, Messages.read_messages, Turns.letter_b, Turns.second, Turns.letter}
use Rattle.model.specs.{Turns.letters, Turns.turns_line, Turns.nothing_after, Turns.read_turns, Job.Job, Phase.Phase, Phase.after, Phase.one, Phase.many}
use Rattle.model.specs.{Phase.one_more, Phase.some, Phase.numbered, Phase.onward, Phase.each_line, Sheet.Reading, Sheet.accepted, Sheet.next, Sheet.targets}
use Rattle.model.specs.{Sheet.read_body, Sheet.read_lines, Sheet.forbidden_line, Sheet.closed, Sheet.read_sheet, Program.read_commands, Accepted.row_for}
use Rattle.model.specs.{Accepted.ordinal, Accepted.has, Accepted.kept, Accepted.Bare, Accepted.InRange, Accepted.KeyInRange, Accepted.OwnerBy, Accepted.KeyBy, Accepted.LevelBy, Accepted.EntryInRange, Accepted.Within}
use Rattle.model.specs.{Accepted.Every, Accepted.Full, Accepted.SoundBy, Accepted.Sound, Accepted.AcceptedSound, Accepted.KeysRise}
use Rattle.model.specs.Data.{Form, Entry, Absent, Number, Key, Open, Secret, Op, Command, Operand, InV, InW, InK, InT, InN, Level, Owner, A, B}
use Rattle.model.proofs.Forms.{every-form-fits, form-number}
use Rattle.model.specs.Phase as Phase
use Rattle.model.specs.Sheet as Sheet

-- ---- Choices

pub either : {A : Type 0} (P : A → Type 0) (b : Bool) (x y : A) → P x → P y → P (cond b x y)
either P true x y h k = h
either P false x y h k = k

unless : {A : Type 0} (b : Bool) {x d : A} → (b ≡ false → x ≡ d) → cond b x d ≡ x
unless true h = refl
unless false h = sym (h refl)

clash : {A : Type 0} {b : Bool} → b ≡ true → b ≡ false → A
clash t f = absurd (let z : ◌≡◌ {A = ℕ} 0 1 = cc in omega arith)

-- ---- Facts of every element

module _ {A : Type 0} (P : A → Type 0) where
  pub every-at : (xs : List A) (i : ℕ) (d : A) → Every P xs → i < length xs → P (get_or xs i d)
  every-at [] i d h b = absurd (omega arith)
  every-at (x ∷ xs) zero d h b = h.0
  every-at (x ∷ xs) (suc i) d h b = every-at xs i d h.1 (omega arith)

  pub every_set : (xs : List A) (i : ℕ) (a : A) → Every P xs → P a → Every P (set xs i a)
  every_set [] i a h p = tt
  every_set (x ∷ xs) zero a h p = (p, h.1)
  every_set (x ∷ xs) (suc i) a h p = (h.0, every_set xs i a h.1 p)

  pub every-replicate : (n : ℕ) (a : A) → P a → Every P (replicate n a)
  every-replicate zero a p = tt
  every-replicate (suc n) a p = (p, every-replicate n a p)

  pub every-snoc : (xs : List A) (a : A) → Every P xs → P a → Every P (xs ++ (a ∷ []))
  every-snoc [] a h p = (p, tt)
  every-snoc (x ∷ xs) a h p = (h.0, every-snoc xs a h.1 p)

  pub every-both : (Q R : A → Type 0) → ((x : A) → P x → Q x → R x) → (xs : List A) → Every P xs → Every Q xs → Every R xs
  every-both Q R f [] h k = tt
  every-both Q R f (x ∷ xs) h k = (f x h.0 k.0, every-both Q R f xs h.1 k.1)

-- ---- What holds of whatever is read

-- a fact of the value that a piece of text gives, if it gives one
abbrev pub GotOf : {A : Type 0} → (A → Type 0) → Parsed A → Type 0
GotOf P (got a) = P a
GotOf P (refused n) = Unit {0}

abbrev Any : {A : Type 0} → A → Type 0
Any a = Unit {0}

any : {A : Type 0} (r : Parsed A) → GotOf Any r
any (got a) = tt
any (refused n) = tt

module _ {A B : Type 0} (P : A → Type 0) (Q : B → Type 0) where
  bind : (r : Parsed A) (f : A → Parsed B) → GotOf P r → ((a : A) → P a → GotOf Q (f a)) → GotOf Q (r >>= f)
  bind (got a) f h g = g a h
  bind (refused n) f h g = tt

module _ {A : Type 0} (P : A → Type 0) where
  guard : (b : Bool) (n : ℕ) (r : Parsed A) → (b ≡ true → GotOf P r) → GotOf P (need b n >> r)
  guard true n r h = h refl
  guard false n r h = tt

  imply : (Q : A → Type 0) (r : Parsed A) → ((a : A) → P a → Q a) → GotOf P r → GotOf Q r
  imply Q (got a) f h = f a h
  imply Q (refused n) f h = tt

-- ---- Numbers

up_to-ok : (m : ℕ) (s : List ℕ) → GotOf (λ x. x ≤ m) (up_to m s)
unfolding up_to within
up_to-ok m s = bind Any (λ x. x ≤ m) (natural s) (within m) (any (natural s)) (λ n h. guard (λ x. x ≤ m) (leb n m) 4 (got n) (leb-true n m))

abbrev Positive : ℕ → ℕ → Type 0
Positive m n = (1 ≤ n) × (n ≤ m)

from_one-ok : (m : ℕ) (s : List ℕ) → GotOf (Positive m) (from_one m s)
unfolding from_one
from_one-ok m s = bind (λ x. x ≤ m) (Positive m) (up_to m s) _ (up_to-ok m s) (λ n h. guard (Positive m) (leb 1 n) 4 (got n) (λ e. (leb-true 1 n e, h)))

negative-range : (n : ℕ) → Positive least_number n → InRange (negsuc (pred n))
negative-range zero h = absurd (omega (arith, h.0))
negative-range (suc n) h = omega (arith, h.1)

number_ok : (s : List ℕ) → GotOf InRange (number s)
unfolding number negative positive
number_ok [] = tt
number_ok (b ∷ bs) =
    either (GotOf InRange) (eqb b minus) _ _
    (bind (Positive least_number) InRange (from_one least_number bs) _ (from_one-ok least_number bs) negative-range)
    (bind (λ x. x ≤ greatest_number) InRange (up_to greatest_number (b ∷ bs)) _ (up_to-ok greatest_number (b ∷ bs)) (λ n h. h))

-- a number that is read lies within its limit
pub up-to-bound : (m n : ℕ) (s : List ℕ) → up_to m s ≡ got n → n ≤ m
up-to-bound m n s e = subst (GotOf (λ x. x ≤ m)) e (up_to-ok m s)

pub from-one-bound : (m n : ℕ) (s : List ℕ) → from_one m s ≡ got n → (1 ≤ n) × (n ≤ m)
from-one-bound m n s e = subst (GotOf (Positive m)) e (from_one-ok m s)

pub number-range : (s : List ℕ) (z : ℤ) → number s ≡ got z → InRange z
number-range s z e = subst (GotOf InRange) e (number_ok s)

-- ---- `key:value`

abbrev Rising : ℕ → ℕ → ℕ × ℤ → Type 0
Rising K next kv = (next ≤ kv.0) × (kv.0 < K) × InRange kv.1

pair_ok : (K next : ℕ) (p : List ℕ) → 1 ≤ K → GotOf (Rising K next) (pair K next p)
unfolding pair
pair_ok K next p some =
    bind Any (Rising K next) (divide colon 4 p) _ (any (divide colon 4 p)) (λ kv h.
    bind (λ x. x ≤ K - 1) (Rising K next) (up_to (K - 1) kv.0) _ (up_to-ok (K - 1) kv.0) (λ k below.
    guard (Rising K next) (leb next k) 5 _ (λ e.
    bind InRange (Rising K next) (number kv.1) _ (number_ok kv.1) (λ v r. (leb-true next k e, omega arith, r)))))

-- what stands at each of the keys
abbrev Held : {A : Type 0} → (A → Type 0) → ℕ → ByKey A → Type 0
Held P K e = (length e.at ≡ K) × Every P e.at

module _ {A : Type 0} (P : A → Type 0) (K : ℕ) where
  everywhere-ok : (a : A) → P a → Held P K (everywhere K a)
  everywhere-ok a p = (length-replicate K a, every-replicate P K a p)

  part-ok : (f : ℤ → A) → ((z : ℤ) → InRange z → P (f z)) → 1 ≤ K → (e : ByKey A) (p : List ℕ) → Held P K e → GotOf (Held P K) (part f K e p)
  unfolding part
  part-ok f range some e p h =
      bind (Rising K e.next) (Held P K) (pair K e.next p) _ (pair_ok K e.next p some)
      (λ kv r. (length-set e.at kv.0 (f kv.1) ∙ h.0, every_set P e.at kv.0 (f kv.1) h.1 (range kv.1 r.2)))

-- ---- `secret` lines

-- a key that was read: its dummy is in range, and its owner one of the form's
abbrev KeyFine : Bool → Key → Type 0
KeyFine two k = KeyInRange k × KeyBy two k

two-owners : (o : Owner) → OwnerBy true o
two-owners A = tt
two-owners B = refl

owner-ok : (two : Bool) (s : List ℕ) → GotOf (λ (po : List ℕ × List ℕ). GotOf (OwnerBy two) (owner po.1)) (apart two s)
unfolding apart owner
owner-ok false s = tt
owner-ok true s =
    let named : (t : List ℕ) → GotOf (OwnerBy true) (owner t) = λ t. imply Any (OwnerBy true) (owner t) (λ o h. two-owners o) (any (owner t)) in
    bind Any _ (divide colon 4 s) _ (any (divide colon 4 s)) (λ kv h. bind Any _ (divide colon 4 kv.1) _ (any (divide colon 4 kv.1)) (λ vo g. named vo.1))

module _ (K : ℕ) (some : 1 ≤ K) where
  -- its key is one of the keys, and it is as it must be
  abbrev SecretFine : Bool → ℕ × Key → Type 0
  SecretFine two kx = (kx.0 < K) × KeyFine two kx.1

  one-secret-ok : (two : Bool) (next : ℕ) (s : List ℕ) → GotOf (SecretFine two) (secret two K next s)
  unfolding secret
  one-secret-ok two next s =
      let P = SecretFine two in
      bind _ P (apart two s) _ (owner-ok two s) (λ po own.
      bind (Rising K next) P (pair K next po.0) _ (pair_ok K next po.0 some) (λ kv r.
      bind (OwnerBy two) P (owner po.1) _ own (λ o mine. (r.1, (r.2, mine)))))

  secret-ok : (f : Form) (e : ByKey Key) (s : List ℕ) → Held (KeyFine f.owners) K e → GotOf (Held (KeyFine f.owners) K) (secret_line f K e s)
  unfolding secret_line
  secret-ok f e s h =
      let P = KeyFine f.owners in
      bind (SecretFine f.owners) (Held P K) (secret f.owners K e.next s) _ (one-secret-ok f.owners e.next s)
      (λ kx r. (length-set e.at kx.0 kx.1 ∙ h.0, every_set P e.at kx.0 kx.1 h.1 r.1))

  parts-ok : (e : ByKey Entry) (ps : List (List ℕ)) → Held EntryInRange K e → GotOf (Held EntryInRange K) (parts K e ps)
  unfolding parts
  parts-ok e [] h = h
  parts-ok e (p ∷ ps) h =
      bind (Held EntryInRange K) (Held EntryInRange K) (part Number K e p) _ (part-ok EntryInRange K Number (λ z r. r) some e p h) (λ e' h'. parts-ok e' ps h')

  message-ok : (s : List ℕ) → GotOf (Held EntryInRange K) (message K s)
  unfolding message
  message-ok [] = everywhere-ok EntryInRange K Absent tt
  message-ok (b ∷ bs) = parts-ok (all_absent K) (split comma (b ∷ bs)) (everywhere-ok EntryInRange K Absent tt)

  message-line-ok : (s : List ℕ) → GotOf (Full K) (message_line K s)
  unfolding message_line
  message-line-ok s = bind (Held EntryInRange K) (Full K) (message K s) _ (message-ok s) (λ e h. h)

-- ---- Commands

-- what is asked of a command that was read
abbrev Plain : Limits → Command → Type 0
Plain l c = Within l.keys l.target c × Bare c

-- What holds of a command whose parts os are being read: each operand is within its limit, and 0 if it is none of them
record Fine (l : Limits) (o : Op) (os : List Operand) (c : Command) : Type 0 where
  op : c.op ≡ o
  v : (c.v < variables) × (has os InV ≡ false → c.v ≡ 0)
  w : (c.w < variables) × (has os InW ≡ false → c.w ≡ 0)
  k : (c.k < l.keys) × (has os InK ≡ false → c.k ≡ 0)
  t : (c.t ≤ l.target) × (has os InT ≡ false → c.t ≡ 0)
  n : InRange c.n × (has os InN ≡ false → c.n ≡ pos 0)

has_first : (o : Operand) (os : List Operand) → has (o ∷ os) o ≡ true
unfolding has
has_first o os = ap (λ (b : Bool). cond b true (has os o)) (eq-eqb (ordinal o) (ordinal o) refl)

has-later : (p o : Operand) (os : List Operand) → has os o ≡ true → has (p ∷ os) o ≡ true
unfolding has
has-later p o os h = either (λ (b : Bool). b ≡ true) (eqb (ordinal p) (ordinal o)) true (has os o) refl h

module _ (l : Limits) (some : 1 ≤ l.keys) (op : Op) (os : List Operand) where
  blank_ok : Fine l op os (blank op)
  blank_ok =
      record {
        op = refl;
        v = (omega arith, λ e. refl);
        w = (omega arith, λ e. refl);
        k = (omega arith, λ e. refl);
        t = (omega arith, λ e. refl);
        n = (omega arith, λ e. refl);
      }

  operand-ok : (o : Operand) (p : List ℕ) (c : Command) → has os o ≡ true → Fine l op os c → GotOf (Fine l op os) (operand l o p c)
  unfolding operand
  operand-ok InV p c i h =
      bind _ _ (up_to (variables - 1) p) _ (up_to-ok (variables - 1) p)
      (λ x b. record { op = h.op; v = (omega arith, clash i); w = h.w; k = h.k; t = h.t; n = h.n })
  operand-ok InW p c i h =
      bind _ _ (up_to (variables - 1) p) _ (up_to-ok (variables - 1) p)
      (λ x b. record { op = h.op; v = h.v; w = (omega arith, clash i); k = h.k; t = h.t; n = h.n })
  operand-ok InK p c i h =
      bind _ _ (up_to (l.keys - 1) p) _ (up_to-ok (l.keys - 1) p)
      (λ x b. record { op = h.op; v = h.v; w = h.w; k = (omega arith, clash i); t = h.t; n = h.n })
  operand-ok InT p c i h =
      bind _ _ (up_to l.target p) _ (up_to-ok l.target p)
      (λ x b. record { op = h.op; v = h.v; w = h.w; k = h.k; t = (b, clash i); n = h.n })
  operand-ok InN p c i h =
      bind _ _ (number p) _ (number_ok p)
      (λ x b. record { op = h.op; v = h.v; w = h.w; k = h.k; t = h.t; n = (b, clash i) })

  operands-ok : (rest : List Operand) (ps : List (List ℕ)) (c : Command) → ((o : Operand) → has rest o ≡ true → has os o ≡ true) → Fine l op os c → GotOf (Fine l op os) (operands l rest ps c)
  unfolding operands
  operands-ok (o ∷ rest) (p ∷ ps) c i h =
      bind (Fine l op os) (Fine l op os) (operand l o p c) _ (operand-ok o p c (i o (has_first o rest)) h)
      (λ d g. operands-ok rest ps d (λ x e. i x (has-later o x rest e)) g)
  operands-ok (o ∷ rest) [] c i h = h
  operands-ok [] ps c i h = h

-- every row of the table is that of its word
abbrev Own : Row → Type 0
Own r = row_for r.op ≡ r

own-rows : Every Own table
unfolding table row_for
own-rows = (refl, (refl, (refl, (refl, (refl, (refl, (refl, (refl, (refl, (refl, (refl, (refl, (refl, (refl, (refl, tt)))))))))))))))

row_ok : (P : Row → Type 0) (rs : List Row) (w : List ℕ) → Every P rs → GotOf P (row_of rs w)
unfolding row_of
row_ok P [] w h = tt
row_ok P (r ∷ rs) w h = either (GotOf P) (same w r.word) (got r) (row_of rs w) h.0 (row_ok P rs w h.1)

-- such a command is what these parts leave of it
fine-kept : {l : Limits} {o : Op} {os : List Operand} {c : Command} → Fine l o os c → kept os c ≡ c
unfolding kept
fine-kept {c = c} h i =
    record { op = c.op; v = unless _ h.v.1 i; w = unless _ h.w.1 i; k = unless _ h.k.1 i; t = unless _ h.t.1 i; n = unless _ h.n.1 i }

plain : (l : Limits) (r : Row) (c : Command) → Own r → Fine l r.op r.parts c → Plain l c
plain l r c own h =
    (record { v = h.v.0; w = h.w.0; k = h.k.0; t = h.t.0; n = h.n.0 }, ap (λ (x : Row). kept x.parts c) (ap row_for h.op ∙ own) ∙ fine-kept h)

by-row-ok : (l : Limits) → 1 ≤ l.keys → (r : Row) (ps : List (List ℕ)) → Own r → GotOf (λ (c : Command). (c.op ≡ r.op) × Plain l c) (by_row l r.op r.parts ps)
unfolding by_row
by-row-ok l some r ps own =
    let fine = operands-ok l some r.op r.parts r.parts ps (blank r.op) (λ o i. i) (blank_ok l some r.op r.parts) in
    let read = operands l r.parts ps (blank r.op) in
    either (GotOf (λ (c : Command). (c.op ≡ r.op) × Plain l c)) (eqb (length r.parts) (length ps)) read (refused 6)
    (imply (Fine l r.op r.parts) (λ (c : Command). (c.op ≡ r.op) × Plain l c) read (λ c h. (h.op, plain l r c own h)) fine) tt

-- a command that is read by the row of a word
pub row-command : (l : Limits) → 1 ≤ l.keys → (w : List ℕ) (r : Row) (ps : List (List ℕ)) (c : Command) → row_of table w ≡ got r → by_row l r.op r.parts ps ≡ got c
    → (c.op ≡ r.op) × (Within l.keys l.target c × Bare c)
row-command l keyed w r ps c e f =
    subst (GotOf (λ (c : Command). (c.op ≡ r.op) × Plain l c)) f (by-row-ok l keyed r ps (subst (GotOf Own) e (row_ok Own table w own-rows)))

command-ok : (l : Limits) → 1 ≤ l.keys → (s : List ℕ) → GotOf (Plain l) (read_command l s)
unfolding read_command words
command-ok l some s = go (split space s)
  where
    go : (ps : List (List ℕ)) → GotOf (Plain l) (words l ps)
    go [] = tt
    go (w ∷ ps) =
        bind Own (Plain l) (row_of table w) _ (row_ok Own table w own-rows) (λ r own.
        imply (λ (c : Command). (c.op ≡ r.op) × Plain l c) (Plain l) (by_row l r.op r.parts ps) (λ c h. h.1) (by-row-ok l some r ps own))

-- ---- Letters

second-ok : (two : Bool) (b : ℕ) → GotOf (LevelBy two) (second two b)
second-ok false b = tt
second-ok true b = either (GotOf (LevelBy true)) (eqb b letter_b) _ _ refl tt

module _ (f : Form) where
  letter-ok : (b : ℕ) → GotOf (LevelBy f.owners) (letter f b)
  unfolding letter
  letter-ok b = either (GotOf (LevelBy f.owners)) (eqb b f.low) _ _ tt (either (GotOf (LevelBy f.owners)) (eqb b f.high) _ _ tt (second-ok f.owners b))

  -- so many levels, each of the form
  abbrev Levels : ℕ → List Level → Type 0
  Levels n ls = (length ls ≡ n) × Every (LevelBy f.owners) ls

  letters-ok : (s : List ℕ) → GotOf (Levels (length s)) (letters f s)
  unfolding letters
  letters-ok [] = (refl, tt)
  letters-ok (b ∷ bs) =
      bind (LevelBy f.owners) (Levels (suc (length bs))) (letter f b) _ (letter-ok b) (λ l h.
      bind (Levels (length bs)) (Levels (suc (length bs))) (letters f bs) _ (letters-ok bs) (λ ls e. (ap suc e.0, (h, e.1))))

  abbrev Lettered : List Level → Type 0
  Lettered ls = (1 ≤ length ls) × (length ls ≤ f.letters) × Every (LevelBy f.owners) ls

  turns-ok : (s : List ℕ) → GotOf Lettered (turns_line f s)
  unfolding turns_line
  turns-ok s =
      guard Lettered (leb (length s) f.letters) 8 _ (λ e.
      guard Lettered (leb 1 (length s)) 9 _ (λ g.
      imply (Levels (length s)) Lettered (letters f s)
      (λ ls n. (omega (arith, n.0, leb-true 1 (length s) g), omega (arith, n.0, leb-true (length s) f.letters e), n.1)) (letters-ok s)))

-- ---- Phases

-- a fact of what a phase reads, if it does not refuse
abbrev ReadOf : {A : Type 0} → (A → Type 0) → Phase A → Type 0
ReadOf P (Phase.got a n ls) = P a
ReadOf P (Phase.refused r n) = Unit {0}

module _ {A : Type 0} (P : A → Type 0) where
  one_ok : (w : List ℕ) (f : List ℕ → Parsed A) (n : ℕ) (ls : List (List ℕ)) → ((s : List ℕ) → GotOf P (f s)) → ReadOf P (one w f n ls)
  unfolding one
  one_ok w f n [] h = tt
  one_ok w f n (l ∷ ls) h = go (after w l >>= f) (bind Any P (after w l) f (any (after w l)) (λ s t. h s))
    where
      go : (r : Parsed A) → GotOf P r → ReadOf P (numbered n ls r)
      go (got a) p = p
      go (refused r) p = tt

  many-ok : (w : List ℕ) (f : A → List ℕ → Parsed A) (n : ℕ) (a : A) (ls : List (List ℕ)) → ((b : A) (s : List ℕ) → P b → GotOf P (f b s)) → P a → ReadOf P (many w f n a ls)
  unfolding many
  many-ok w f n a [] h p = p
  many-ok w f n a (l ∷ ls) h p = go (after w l) (λ b q. many-ok w f (n + 1) b ls h q)
    where
      further : (r : Parsed A) → ((b : A) → P b → ReadOf P (many w f (n + 1) b ls)) → GotOf P r → ReadOf P (onward n r (λ b. many w f (n + 1) b ls))
      further (got b) rest q = rest b q
      further (refused r) rest q = tt

      go : (r : Parsed (List ℕ)) → ((b : A) → P b → ReadOf P (many w f (n + 1) b ls)) → ReadOf P (each_line n a (l ∷ ls) r (f a) (λ b. many w f (n + 1) b ls))
      go (got v) rest = further (f a v) rest (h a v p)
      go (refused r) rest = p

  -- at most so many, each as P says
  abbrev AtMost : ℕ → List A → Type 0
  AtMost limit xs = (length xs ≤ limit) × Every P xs

  one_more-ok : (limit : ℕ) (f : List ℕ → Parsed A) (xs : List A) (s : List ℕ) → GotOf P (f s) → AtMost limit xs → GotOf (AtMost limit) (one_more limit f xs s)
  unfolding one_more
  one_more-ok limit f xs s h p =
      guard (AtMost limit) (ltb (length xs) limit) 8 _ (λ e.
      bind P (AtMost limit) (f s) _ h (λ a q. (let b = ltb-true (length xs) limit e in omega (arith, length-append xs (a ∷ [])), every-snoc P xs a p.1 q)))

  some-ok : (limit : ℕ) (x : Phase (List A)) → ReadOf (AtMost limit) x → ReadOf (λ xs. (1 ≤ length xs) × AtMost limit xs) (some x)
  some-ok limit (Phase.got [] n ls) h = tt
  some-ok limit (Phase.got (a ∷ xs) n ls) h = (suc-le-suc zero-le, h)
  some-ok limit (Phase.refused r n) h = tt

-- ---- The sheet

abbrev AcceptedOf : (Job → Type 0) → Reading → Type 0
AcceptedOf Q (accepted j) = Q j
AcceptedOf Q (Sheet.refused n l) = Unit {0}

module _ (Q : Job → Type 0) where
  next-ok : {A : Type 0} (P : A → Type 0) (x : Phase A) (f : A → ℕ → List (List ℕ) → Reading) → ReadOf P x → ((a : A) (n : ℕ) (ls : List (List ℕ)) → P a → AcceptedOf Q (f a n ls)) → AcceptedOf Q (next x f)
  next-ok P (Phase.got a n ls) f h g = g a n ls h
  next-ok P (Phase.refused r n) f h g = tt

  targets-ok : (n m : ℕ) (cs : List Command) (j : Job) → (Every (λ (c : Command). c.t ≤ m) cs → Q j) → AcceptedOf Q (targets n m cs j)
  unfolding targets
  targets-ok n m [] j h = h tt
  targets-ok n m (c ∷ cs) j h = go (ltb m c.t) refl (λ f. targets-ok (n + 1) m cs j f)
    where
      go : (b : Bool) → ltb m c.t ≡ b → ((Every (λ (d : Command). d.t ≤ m) cs → Q j) → AcceptedOf Q (targets (n + 1) m cs j)) → AcceptedOf Q (cond b (Sheet.refused 7 n) (targets (n + 1) m cs j))
      go true e rest = tt
      go false e rest = rest (λ far. h (ltb-false m c.t e, far))

-- every command's target is within the count, once that is tested
tightened : (K l m : ℕ) (c : Command) → Plain (limits K l) c → c.t ≤ m → Within K m c
tightened K l m c h b = let w = h.0 in record { v = w.v; w = w.w; k = w.k; t = b; n = w.n }

nothing_ok : {A : Type 0} (P : A → Type 0) (x : Phase A) → ReadOf P x → ReadOf P (nothing_after x)
nothing_ok P (Phase.got a n []) h = h
nothing_ok P (Phase.got a n (l ∷ ls)) h = tt
nothing_ok P (Phase.refused r n) h = tt

secrets-ok : (f : Form) (K : ℕ) → 1 ≤ K → (n : ℕ) (ls : List (List ℕ)) → ReadOf (Held (KeyFine f.owners) K) (read_secrets f K n ls)
unfolding read_secrets
secrets-ok f K some n ls =
    let P = KeyFine f.owners in
    many-ok (Held P K) (bytes "secret") (secret_line f K) n (all_open K) ls (λ e s h. secret-ok K some f e s h) (everywhere-ok P K Open (tt, tt))

-- ---- The phases of a sheet of the form f

module _ (f : Form) (own : form_of f.number ≡ f) (numbered : (1 ≤ f.number) × (f.number ≤ forms)) where
  abbrev Coming : ℕ → List Command → Type 0
  Coming K cs = (1 ≤ length cs) × AtMost (Plain (limits K f.commands)) f.commands cs

  -- what the phases read, put together
  finished : (K : ℕ) (ks : ByKey Key) (cs : List Command) (ms : List (List Entry)) (ts : List Level)
      → Positive f.keys K → Held (KeyFine f.owners) K ks → Coming K cs → AtMost (Full K) f.messages ms → Lettered f ts
      → Every (λ (c : Command). c.t ≤ length cs) cs
      → Sound (record { form = f.number; keys = ks.at; commands = cs; messages = ms; turns = ts })
  finished K ks cs ms ts hk held hc hm ht far =
      let e : K ≡ length ks.at = sym held.0 in
      let P = KeyFine f.owners in
      subst (λ (g : Form). SoundBy g (record { form = f.number; keys = ks.at; commands = cs; messages = ms; turns = ts })) (sym own)
      (record {
        form = numbered;
        some_keys = omega (arith, hk.0, held.0);
        most_keys = omega (arith, hk.1, held.0);
        keys = every-both P P KeyInRange (λ k h g. h.0) ks.at held.1 held.1;
        owners = every-both P P (KeyBy f.owners) (λ k h g. h.1) ks.at held.1 held.1;
        some_commands = hc.0;
        most_commands = hc.1.0;
        commands =
            subst (λ (n : ℕ). Every (Within n (length cs)) cs) e
            (every-both (Plain (limits K f.commands)) (λ (c : Command). c.t ≤ length cs) (Within K (length cs)) (λ c h b. tightened K f.commands (length cs) c h b) cs hc.1.1 far);
        bare = every-both (Plain (limits K f.commands)) (λ (c : Command). c.t ≤ length cs) Bare (λ c h b. h.1) cs hc.1.1 far;
        most_messages = hm.0;
        messages = subst (λ (n : ℕ). Every (Full n) ms) e hm.1;
        some_turns = ht.0;
        most_turns = ht.1;
        levels = ht.2;
      })

  module _ (K : ℕ) (some : 1 ≤ K) (n : ℕ) (ls : List (List ℕ)) where
    commands-ok : ReadOf (Coming K) (read_commands f K n ls)
    unfolding read_commands
    commands-ok =
        let m = f.commands in
        let P = Plain (limits K m) in
        let g = read_command (limits K m) in
        some-ok P m (many (bytes "do") (one_more m g) n [] ls)
        (many-ok (AtMost P m) (bytes "do") (one_more m g) n [] ls (λ cs s h. one_more-ok P m g cs s (command-ok (limits K m) some s) h) (zero-le, tt))

    messages-ok : ReadOf (AtMost (Full K) f.messages) (read_messages f K n ls)
    unfolding read_messages
    messages-ok =
        many-ok (AtMost (Full K) f.messages) (bytes "msg") (one_more f.messages (message_line K)) n [] ls
        (λ ms s h. one_more-ok (Full K) f.messages (message_line K) ms s (message-line-ok K some s) h) (zero-le, tt)

  letters-read-ok : (n : ℕ) (ls : List (List ℕ)) → ReadOf (Lettered f) (read_turns f n ls)
  unfolding read_turns
  letters-read-ok n ls = nothing_ok (Lettered f) (one (bytes "turns") (turns_line f) n ls) (one_ok (Lettered f) (bytes "turns") (turns_line f) n ls (turns-ok f))

  body_ok : (K : ℕ) (ks : ByKey Key) (top : ℕ) (ls : List (List ℕ)) → Positive f.keys K → Held (KeyFine f.owners) K ks → AcceptedOf Sound (read_body f ks.at K top ls)
  unfolding read_body
  body_ok K ks top ls hk held =
      next-ok Sound (Coming K) (read_commands f K top ls) _ (commands-ok K hk.0 top ls) (λ cs n₁ ls₁ hc.
      next-ok Sound (AtMost (Full K) f.messages) (read_messages f K n₁ ls₁) _ (messages-ok K hk.0 n₁ ls₁) (λ ms n₂ ls₂ hm.
      next-ok Sound (Lettered f) (read_turns f n₂ ls₂) _ (letters-read-ok n₂ ls₂) (λ ts n₃ ls₃ ht.
      targets-ok Sound top (length cs) cs _ (finished K ks cs ms ts hk held hc hm ht))))

  keys-ok : (n : ℕ) (ls : List (List ℕ)) → ReadOf (Positive f.keys) (read_keys f n ls)
  unfolding read_keys keys_line
  keys-ok n ls = one_ok (Positive f.keys) (bytes "keys") (keys_line f) n ls (λ s. from_one-ok f.keys s)

-- the first line chooses the form
lines_ok : (ls : List (List ℕ)) → AcceptedOf Sound (read_lines ls)
unfolding read_lines read_first
lines_ok ls =
    next-ok Sound Any (read_first 1 ls) _ (one_ok Any (bytes "sheet") sheet_line 1 ls (λ s. any (sheet_line s))) (λ a n₁ ls₁ h.
    let f = form_of a in
    let own = (every-form-fits a).own in
    next-ok Sound (Positive f.keys) (read_keys f n₁ ls₁) _ (keys-ok f own (form-number a) n₁ ls₁) (λ K n₂ ls₂ hk.
    next-ok Sound (Held (KeyFine f.owners) K) (read_secrets f K n₂ ls₂) _ (secrets-ok f K hk.0 n₂ ls₂) (λ ks top ls₃ held.
    body_ok f own (form-number a) K ks top ls₃ hk held)))

sheet-ok : (s : List ℕ) → AcceptedOf Sound (read_sheet s)
unfolding read_sheet
sheet-ok s =
    either (AcceptedOf Sound) (ltb most_bytes (length s)) (Sheet.refused 1 0) _ tt
    (either (AcceptedOf Sound) (leb 1 (forbidden_line 1 s)) (Sheet.refused 2 (forbidden_line 1 s)) _ tt
    (either (AcceptedOf Sound) (closed s) (read_lines (lines s)) (Sheet.refused 2 (count line_feed s + 1)) (lines_ok (lines s)) tt))

pub accepted-sound : AcceptedSound
accepted-sound s j e = subst (AcceptedOf Sound) e (sheet-ok s)

-- a secret that is read is at one of the keys
pub secret-below : (two : Bool) (K next : ℕ) (s : List ℕ) (kx : ℕ × Key) → 1 ≤ K → secret two K next s ≡ got kx → kx.0 < K
secret-below two K next s kx some e = (subst (GotOf (SecretFine K some two)) e (one-secret-ok K some two next s)).0

pub keys-rise : KeysRise
keys-rise K next p kv some e = subst (GotOf (Rising K next)) e (pair_ok K next p some)
