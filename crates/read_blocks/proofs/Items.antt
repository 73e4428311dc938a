-- What stands at a place, and what ends a block, case by case.
use Prim.Native.Nat.{ℕ, zero, suc, ◌+◌, ◌<◌, ◌≤◌}
use mathlib.Core.Path.{◌≡◌, refl, sym, ap, ap₂, subst, ◌∙◌}
use mathlib.Core.Bool.{Bool, true, false, true≢false}
use mathlib.Core.List.{List, [], ◌∷◌}
use native.Mathlib.{Omega.arith}
use lib.{ListN.length, ListN.take, ListN.drop, ListN.set, ListN.length-drop, Seq.drop-drop}
use Rattle.model.specs.{Parsed.got, Text.find, Text.space, Text.lines}
use Rattle.model.specs.Refusal.{number_of, parsed}
use Rattle.model.specs.Parsed as Parsed
use Rattle.model.specs.declared.{Command.Command, Refusal.Refusal, TextFault.TextFault}
use Rattle.model.specs.declared.Refusal.TheVariants.{BadCommand, UnpairedBlock}
use Rattle.model.proofs.Handed.{handed}
use Rattle.std.specs.Prelude.{Result, Ok, Err}
use Rattle.std.specs.Result.{IsErrAnd, MatchResult, is_ok}
use Rattle.model_blocks.specs.Block.{Block, test_to, jump_to, ◌then◌}
use Rattle.model_blocks.specs.Dialect.{BlockWord, else_word, end_word, other_word, tested, in_if, Standing, adding, opening, deepest}
use Rattle.model_blocks.specs.Dialect as Dialect
use Rattle.model_text.proofs.LineLaws.{lines_none, lines_more}
use Rattle.read_command.specs.{Code.code_of, Command.parts_after}
use Rattle.read_command.proofs.Words.{Bytes, bytes_take}
use Rattle.pack_command.specs.Pack.{command_number}
use Rattle.read_dialect.specs.Words.{by_code}
use Rattle.read_blocks.specs.Blocks.{opener_word, near_by, next_line, fault, Starts, LineAt, reading, refused_by, RefusedFrom, Goes, NoMore, StopsAt, ItemRead, BlockRead, NestedRead, OtherGoes, OtherRead, OwnRead}
use Rattle.read_blocks.specs.declared.{Mark.Mark, Line.Line, Close.Close, Body.Body, Item.Item}
use Rattle.read_blocks.proofs.Words.{by_code-is}
use Rattle.read_blocks.proofs.Lines.{opener_of, own-refused, over-open, end-bad, else-while, else-else, line-length}
use Rattle.read_blocks.proofs.Goes.{goes_to, own-goes, nested-refused, nested-on, if-goes, while-goes, else-goes, other-to, other_goes}

-- ---- The line at a place

bytes_drop : (s : List ℕ) (a : ℕ) → Bytes s → Bytes (drop a s)
bytes_drop s zero h i = h i
bytes_drop [] (suc a) h i = omega arith
bytes_drop (b ∷ s) (suc a) h i = bytes_drop s a (λ j. h (suc j)) i

-- t is the text from p on
module _ (s t : List ℕ) (p : Mark) (g : t ≡ drop p.at s) (i : p.at ≤ length s) (e : ℕ) (q : e ≡ find 10 t) where
  pub no_line : length t ≤ e → NoMore s p
  no_line h = ap lines (sym g) ∙ lines_none t (omega (arith, q))

  -- its first line, whose first word ends at f and has the number code
  pub line_at : e < length t → (f code : ℕ) → (f ≡ find space (take e t)) × (code ≡ code_of (take f (take e t))) → Bytes s → {w : BlockWord} → w ≡ by_code code
      → LineAt s p (record { word = f; end = e }) w
  line_at h f code r bytes {w} said =
      let n : p.at + e + 1 ≡ p.at + suc e = omega arith in
      let l = ap length g ∙ length-drop p.at s in
      let x : lines t ≡ take e t ∷ lines (drop (suc e) t) = rw q (lines_more t (omega (arith, q))) in
      let y = ap (λ (z : List ℕ). take e z) g in
      record {
        first =
            ap lines (sym g) ∙ x
            ∙ ap (λ (z : List ℕ). z ∷ lines (drop (suc e) t)) y
            ∙ ap (λ (z : List ℕ). take e (drop p.at s) ∷ lines z) (ap (drop (suc e)) g ∙ drop-drop (suc e) p.at s ∙ ap (λ (k : ℕ). drop k s) (sym n));
        inside = omega (arith, l);
        word = r.0 ∙ ap (find space) y;
        says =
            sym (by_code-is (take f (take e (drop p.at s))) (bytes_take (take e (drop p.at s)) f (bytes_take (drop p.at s) e (bytes_drop s p.at bytes))))
            ∙ ap (λ (z : List ℕ). by_code (code_of (take f z))) (sym y) ∙ ap by_code (sym r.1) ∙ sym said;
      }

-- ---- Refusals

-- what the exit of a `?` returns, by what is said of its fault
pub exits : {X : Type 0} (P : Result X TextFault → Type 0) {x : TextFault} {r : Result X TextFault} → IsErrAnd r (λ y. y ≡ x) → P (Err x) → P r
exits P {x} {r} h k = subst P (sym (handed x r h)) k

-- what was read and is answered as it stands, with a fault in the place of a refusal: the fault, and the value
pub mapped_err : {A : Type 0} (P : A → Type 0) (Q : Refusal → Type 0) (r : Result A Refusal) → MatchResult r P Q → false ≡ is_ok r → (e : Refusal) × (r ≡ Err e) × Q e
mapped_err P Q (Ok y) m n = absurd (true≢false (sym n))
mapped_err P Q (Err e) m n = (e, refl, m)

pub mapped_ok : {A : Type 0} (Q : Refusal → Type 0) (x : A) (r : Result A Refusal) → MatchResult r (λ y. ◌≡◌ {A = Result A TextFault} (Ok x) (Ok y)) Q → true ≡ is_ok r → r ≡ Ok x
mapped_ok Q x (Ok y) m n = cc
mapped_ok Q x (Err e) m n = absurd (true≢false n)

-- a command that is refused
pub own-fails : (K f : ℕ) (l : List ℕ) (p : Mark) {x : TextFault} {e : Refusal} {r : Result Command Refusal} → x ≡ fault p e → r ≡ Err e
    → parsed r ≡ Dialect.own_command K (take f l) (parts_after f l)
    → (Dialect.own_command K (take f l) (parts_after f l) ≡ Parsed.refused (number_of x.refusal)) × (x.line ≡ p.line)
own-fails K f l p g k h = (sym h ∙ ap parsed k ∙ ap (λ (y : TextFault). Parsed.refused (number_of y.refusal)) (sym g), ap (λ (y : TextFault). y.line) g)

-- ---- What is read, by its case

pub item-as : (K d : ℕ) (s : List ℕ) (p : Mark) (m m' : List ℕ) (i : Item) {x : Item} → ItemRead K d s p m m' (Ok i) → i ≡ x → ItemRead K d s p m m' (Ok x)
item-as K d s p m m' i h e = subst (λ (y : Item). ItemRead K d s p m m' (Ok y)) e h

pub body-as : (K d : ℕ) (s : List ℕ) (p : Mark) (m m' : List ℕ) (b : Body) {q : Mark} {x : Close} → BlockRead K d s p m m' (Ok b) → p ≡ q → b.stop ≡ x
    → Goes K d s q b.place m m' × StopsAt s b.place x
unfolding BlockRead
body-as K d s p m m' b h f e = (subst (λ (z : Mark). Goes K d s z b.place m m') f h.0, subst (StopsAt s b.place) e h.1)

pub body-refused : (K d : ℕ) (s : List ℕ) (p : Mark) (m m' : List ℕ) (x : TextFault) {q : Mark} → BlockRead K d s p m m' (Err x) → p ≡ q → RefusedFrom K d s q x
unfolding BlockRead
body-refused K d s p m m' x h f = subst (λ (z : Mark). RefusedFrom K d s z x) f h

module _ (K d : ℕ) (s : List ℕ) where
  -- a command of the dialect's own
  pub own-item : (p : Mark) (ln : Line) → LineAt s p ln other_word → Starts s p → {l : List ℕ} → l ≡ take ln.end (drop p.at s) → (m m' : List ℕ) (q : Mark)
      → OwnRead K l ln.word p m m' (Ok q) → Goes K d s p q m m' × (p.at < q.at)
  unfolding OwnRead
  own-item p ln h i g m m' q r =
      let n = ap length g ∙ line-length K s h in
      let k = own-goes K d s p ln h i r.0 (ap (λ (z : List ℕ). Dialect.own_command K (take ln.word z) (parts_after ln.word z)) (sym g) ∙ r.1) m in
      let to : q ≡ next_line p ln.end 1 = r.2 ∙ ap (λ (x : ℕ). next_line p x 1) n in (
        subst (λ (x : Mark). Goes K d s p x m m') (sym to) (subst (λ (x : List ℕ). Goes K d s p (next_line p ln.end 1) m x) (sym r.3) k),
        omega (arith, ap (λ (x : Mark). x.at) to),
      )

  pub own-item-refused : (p : Mark) (ln : Line) → LineAt s p ln other_word → {l : List ℕ} → l ≡ take ln.end (drop p.at s) → (m m' : List ℕ) (x : TextFault)
      → OwnRead K l ln.word p m m' (Err x) → RefusedFrom K d s p x
  unfolding OwnRead
  own-item-refused p ln h g m m' x r o k =
      own-refused K d s p ln h x.refusal (ap (λ (z : List ℕ). Dialect.own_command K (take ln.word z) (parts_after ln.word z)) (sym g) ∙ r.0) o k
      ∙ ap (Dialect.refused (number_of x.refusal)) (sym r.1)

-- an `if` or a `while` on v at p: its line, and that a block more may be open
pub record Opened (K d : ℕ) (s : List ℕ) (looping : Bool) (p : Mark) (ln : Line) (v : ℕ) : Type 0 where
  pub line : LineAt s p ln (opener_word looping)
  pub starts : Starts s p
  pub shallow : d < deepest
  pub tests : tested (parts_after ln.word (take ln.end (drop p.at s))) ≡ got v

pub nested-refuses : {K d : ℕ} {s : List ℕ} {looping : Bool} {p : Mark} {ln : Line} {v : ℕ} → Opened K d s looping p ln v → (x : TextFault) → RefusedFrom K (d + 1) s (next_line p ln.end 1) x
    → RefusedFrom K d s p x
nested-refuses {K} {d} {s} {looping} {p} {ln} {v} u x r = nested-refused K d s looping p ln u.line u.starts u.shallow v u.tests x r

module _ {K d : ℕ} {s : List ℕ} {looping : Bool} {p : Mark} {ln : Line} {v : ℕ} (u : Opened K d s looping p ln v) {m m' : List ℕ} where
  pub nested-open : {q : Mark} → Goes K (d + 1) s (next_line p ln.end 1) q m m' → NoMore s q → {x : TextFault} → x ≡ fault q UnpairedBlock → RefusedFrom K d s p x
  unfolding ◌then◌
  nested-open {q} g h e o k =
      nested-on K d s looping p ln u.line u.starts u.shallow v u.tests g o k ∙ over-open K s q h _ _ _ ∙ ap refused_by (sym e)

  pub nested-end : {q : Mark} {ln' : Line} → Goes K (d + 1) s (next_line p ln.end 1) q m m' → LineAt s q ln' end_word → ln'.word < ln'.end → {x : TextFault} → x ≡ fault q BadCommand
      → RefusedFrom K d s p x
  unfolding ◌then◌
  nested-end {q} {ln'} g h z e o k =
      nested-on K d s looping p ln u.line u.starts u.shallow v u.tests g o k ∙ end-bad K d s q ln' h _ _ _ z ∙ ap refused_by (sym e)

  -- what follows an `else`
  pub nested-other : looping ≡ false → length m < 65536 → length m' ≡ length m → {q : Mark} (g : Goes K (d + 1) s (next_line p ln.end 1) q m m') (m'' : List ℕ) (r : Result Mark TextFault)
      → OtherRead K d s p.count v q m' m'' r → NestedRead K d s p m m'' r
  unfolding OtherRead NestedRead
  nested-other n short same {q} g m'' (Ok z) r = (
    else-goes K d s p ln u.starts u.shallow v u.tests (subst (λ (y : Bool). LineAt s p ln (opener_word y)) n u.line) g r short same,
    omega (arith, g.onward, r.onward),
  )
  nested-other n short same {q} g m'' (Err x) r = λ o k.
      nested-on K d s looping p ln u.line u.starts u.shallow v u.tests g o k
      ∙ ap (λ (b : Bool). reading K s q (adding g.block (opening (opener_of b v) o))) n
      ∙ r o g.block k

  -- its `end`: r is the place behind it, and the memory m₂ has the commands that are made here
  module _ {q : Mark} {ln' : Line} (g : Goes K (d + 1) s (next_line p ln.end 1) q m m') (h : LineAt s q ln' end_word) (a : ln'.end ≤ ln'.word) (short : length m < 65536) where
    pub nested-if : looping ≡ false → {r : Mark} → r ≡ next_line q ln'.end 0 → {m₁ : List ℕ} {c : Command} → m₁ ≡ set m' p.count (command_number c) → c ≡ test_to (near_by q.count) v
        → Goes K d s p r m m₁ × (p.at < r.at)
    nested-if n to k test = (
      goes_to K d s to (k ∙ ap (λ (x : Command). set m' p.count (command_number x)) test)
          (if-goes K d s p ln u.starts u.shallow v u.tests (subst (λ (y : Bool). LineAt s p ln (opener_word y)) n u.line) g ln' h a short),
      omega (arith, g.onward, ap (λ (x : Mark). x.at) to),
    )

    pub nested-loop : looping ≡ true → length m' ≡ length m → {r : Mark} → r ≡ next_line q ln'.end 1 → {m₁ m₂ : List ℕ} {c b : Command} → m₁ ≡ set m' p.count (command_number c)
        → c ≡ test_to (near_by (q.count + 1)) v → m₂ ≡ set m₁ q.count (command_number b) → b ≡ jump_to (near_by p.count) → Goes K d s p r m m₂ × (p.at < r.at)
    nested-loop n same to {m₁} k test j jump =
        let k' = k ∙ ap (λ (x : Command). set m' p.count (command_number x)) test in (
          goes_to K d s to (j ∙ ap₂ (λ (x : List ℕ) (y : Command). set x q.count (command_number y)) k' jump)
              (while-goes K d s p ln u.starts u.shallow v u.tests (subst (λ (y : Bool). LineAt s p ln (opener_word y)) n u.line) g ln' h a short same),
          omega (arith, g.onward, ap (λ (x : Mark). x.at) to),
        )

  pub nested-while : looping ≡ true → {q : Mark} {ln' : Line} → Goes K (d + 1) s (next_line p ln.end 1) q m m' → LineAt s q ln' else_word → {x : TextFault} → x ≡ fault q UnpairedBlock
      → RefusedFrom K d s p x
  unfolding ◌then◌
  nested-while n {q} {ln'} g h e o k =
      nested-on K d s looping p ln u.line u.starts u.shallow v u.tests g o k
      ∙ ap (λ (b : Bool). reading K s q (adding g.block (opening (opener_of b v) o))) n
      ∙ else-while K d s q ln' h v o.sofar o.blocks _
      ∙ ap refused_by (sym e)

-- ---- What follows an `else`, by what ends it

module _ (K d : ℕ) (s : List ℕ) (p : Mark) (ln : Line) (h : LineAt s p ln else_word) (a : ln.end ≤ ln.word) (v t : ℕ) where
  -- its first body is b
  abbrev RefusesOther : TextFault → Type 0
  RefusesOther x = (o : Standing) (b : Block) → length o.blocks ≡ d → reading K s p (adding b (opening (in_if v) o)) ≡ refused_by x

  module _ {m m' : List ℕ} where
    pub other-open : {q : Mark} → Goes K (d + 1) s (next_line p ln.end 1) q m m' → NoMore s q → {x : TextFault} → x ≡ fault q UnpairedBlock → RefusesOther x
    unfolding ◌then◌
    other-open {q} g n e o b k = other-to K d s p ln h a v t g o b k ∙ over-open K s q n _ _ _ ∙ ap refused_by (sym e)

    -- its `end`: r is the place behind it, and the memory m₂ has the commands that are made here
    pub other-closed : {q : Mark} {ln' : Line} (g : Goes K (d + 1) s (next_line p ln.end 1) q m m') → LineAt s q ln' end_word → ln'.end ≤ ln'.word → length m < 65536
        → length m' ≡ length m → t < p.count → {r : Mark} → r ≡ next_line q ln'.end 0 → {m₁ m₂ : List ℕ} {c b : Command} → m₁ ≡ set m' t (command_number c)
        → c ≡ test_to (near_by (p.count + 1)) v → m₂ ≡ set m₁ p.count (command_number b) → b ≡ jump_to (near_by q.count) → OtherGoes K d s t v p r m m₂
    other-closed {q} {ln'} g n a' short same before {r} to {m₁} {m₂} k test j jump =
        let k' = k ∙ ap (λ (x : Command). set m' t (command_number x)) test in
        subst (λ (x : Mark). OtherGoes K d s t v p x m m₂) (sym to)
        (subst (OtherGoes K d s t v p (next_line q ln'.end 0) m) (sym (j ∙ ap₂ (λ (x : List ℕ) (y : Command). set x p.count (command_number y)) k' jump))
        (other_goes K d s p ln h a v t g ln' n a' before short same))

    pub other-else : {q : Mark} {ln' : Line} → Goes K (d + 1) s (next_line p ln.end 1) q m m' → LineAt s q ln' else_word → {x : TextFault} → x ≡ fault q UnpairedBlock → RefusesOther x
    unfolding ◌then◌
    other-else {q} {ln'} g n e o b k = other-to K d s p ln h a v t g o b k ∙ else-else K d s q ln' n v o.sofar o.blocks _ b ∙ ap refused_by (sym e)

    pub other-end : {q : Mark} {ln' : Line} → Goes K (d + 1) s (next_line p ln.end 1) q m m' → LineAt s q ln' end_word → ln'.word < ln'.end → {x : TextFault} → x ≡ fault q BadCommand
        → RefusesOther x
    unfolding ◌then◌
    other-end {q} {ln'} g n z e o b k = other-to K d s p ln h a v t g o b k ∙ end-bad K d s q ln' n _ _ _ z ∙ ap refused_by (sym e)
