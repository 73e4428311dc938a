-- The parts of a command's line, as the code takes them apart at its spaces.
use mathlib.Core.Path.{◌≡◌, refl, sym, ap, ◌∙◌}
use mathlib.Core.Bool.{cond}
use mathlib.Core.List.{List, [], ◌∷◌}
use Prim.Native.Nat.{ℕ, ◌+◌, ◌-◌, ◌<◌, ◌≤◌}
use native.Mathlib.{Omega.arith, Decide.dec_lt}
use lib.{IntN.pos, Dec.ltb, ListN.length, ListN.take, ListN.drop, Seq.take_all}
use borrow.Author.Tests.{ne_eqb, le-ltb, lt-ltb}
use Rattle.model.specs.{Limits.variables, Parsed.Parsed, Parsed.got, Parsed.refused, Parsed.◌>>=◌, Text.find, Text.space, Text.split, Number.up_to, Number.number}
use Rattle.model.specs.{Command.Row, Command.Limits, Command.table, Command.blank, Command.operand, Command.operands, Command.by_row, Command.row_of, Command.words}
use Rattle.model.specs.{Command.read_command}
use Rattle.model.specs.declared.{Op.Op, Command.Command, Operand.Operand}
use Rattle.model.specs.declared.Operand.TheVariants.{InV, InW, InK, InT, InN}
use Rattle.model.proofs.Accepted.{up-to-bound}
use Rattle.model_text.proofs.{TextLaws.rest, LineLaws.split-end, LineLaws.split_at, LineLaws.split-some}
use Rattle.read_command.specs.{Code.said_by, Code.lookup, Command.shape_as, Command.single, Command.halves, Command.one_of, Command.two_of}
use Rattle.read_command.specs.{Command.mapped, Command.command_of, Command.with_number, Command.parts_after, Command.by_word}
use Rattle.read_command.specs.declared.Shape.{Shape}
use Rattle.read_command.specs.declared.Shape.TheVariants.{Alone, K, T, VN, VW, VK, KV, VT}

-- what follows a space at f, as the code takes it: `&t[f + 1..]`
abbrev pub behind : List ℕ → ℕ → List ℕ
behind t f = take (length t - (f + 1)) (drop (f + 1) t)

pub split-behind : (t : List ℕ) (f : ℕ) → f ≡ find space t → f < length t → split space t ≡ take f t ∷ split space (behind t f)
split-behind t f q h = split_at space t f q h _ (rest t (f + 1))

-- the word of a line and its parts
pub split-word : (s : List ℕ) (e : ℕ) → e ≡ find space s → split space s ≡ take e s ∷ parts_after e s
unfolding parts_after
split-word s e q = go (dec_lt e (length s))
  where
    go : Dec (e < length s) → split space s ≡ take e s ∷ cond (ltb e (length s)) (split space (drop (e + 1) s)) []
    go (yes h) = rw (lt-ltb _ _ h, split_at space s e q h _ refl)
    go (no h) = let l : length s ≤ e = omega arith in rw (le-ltb _ _ l, split-end space s e q l, take_all e s l)

-- ---- One part, and two

-- one part, by what reads it
module _ {A : Type 0} (F : List ℕ → Parsed A) (t : List ℕ) (f : ℕ) (q : f ≡ find space t) where
  pub one-many : f < length t → one_of F (split space t) ≡ refused 6
  unfolding one_of single
  one-many h = let s = split-some space (behind t f) in rw (split-behind t f q h, s.2)

  pub one-is : length t ≤ f → one_of F (split space t) ≡ F t
  unfolding one_of single
  one-is h = rw (split-end space t f q h)

-- two parts: the text is cut at its one space, f
module _ (t : List ℕ) (f : ℕ) (q : f ≡ find space t) where
  pub halves-few : length t ≤ f → halves (split space t) ≡ refused 6
  unfolding halves
  halves-few h = rw (split-end space t f q h)

  module _ (h : f < length t) (g : ℕ) (p : g ≡ find space (behind t f)) where
    pub halves-many : g < length (behind t f) → halves (split space t) ≡ refused 6
    unfolding halves
    halves-many z = let s = split-some space (behind (behind t f) g) in rw (split-behind t f q h, split-behind (behind t f) g p z, s.2)

    pub halves-is : length (behind t f) ≤ g → halves (split space t) ≡ got (take f t, behind t f)
    unfolding halves
    halves-is z = rw (split-behind t f q h, split-end space (behind t f) g p z)

-- two parts, by what reads them from left to right
module _ {A B : Type 0} (F : List ℕ → Parsed A) (G : List ℕ → Parsed B) (ps : List (List ℕ)) where
  pub two-not : {n : ℕ} → refused n ≡ halves ps → refused n ≡ two_of F G ps
  unfolding two_of
  two-not h = rw (← h)

  pub two-read : {p q : List ℕ} {a : Parsed A} {b : Parsed B} → got (p, q) ≡ halves ps → a ≡ F p → b ≡ G q → (a >>= (λ x. b >>= (λ y. got (x, y)))) ≡ two_of F G ps
  unfolding two_of
  two-read h i j = rw (← h, i, j)

-- what is got by way of two readings is got from the first, and then from the second
got-through : {A B : Type 0} (r : Parsed A) (f : A → Parsed B) (y : B) → (r >>= f) ≡ got y → (x : A) × (r ≡ got x) × (f x ≡ got y)
got-through (got x) f y e = (x, refl, e)
got-through (refused n) f y e = let z : ◌≡◌ {A = ℕ} 0 1 = cc in absurd (omega arith)

-- what was read is within its limits
pub one-bound : (m : ℕ) (ps : List (List ℕ)) (x : ℕ) → one_of (up_to m) ps ≡ got x → x ≤ m
unfolding one_of
one-bound m ps x e = let r = got-through (single ps) (up_to m) x e in up-to-bound m x r.0 r.2

pub two-bound : (m n : ℕ) (ps : List (List ℕ)) (x y : ℕ) → two_of (up_to m) (up_to n) ps ≡ got (x, y) → (x ≤ m) × (y ≤ n)
unfolding two_of
two-bound m n ps x y e =
    let h = got-through (halves ps) _ (x, y) e in
    let v = got-through (up_to m h.0.0) _ (x, y) h.2 in
    let w = got-through (up_to n h.0.1) _ (x, y) v.2 in
    let j : ◌≡◌ {A = ℕ × ℕ} (v.0, w.0) (x, y) = cc w.2 in
    (up-to-bound m x h.0.0 (v.1 ∙ ap (λ (r : ℕ × ℕ). got r.0) j), up-to-bound n y h.0.1 (w.1 ∙ ap (λ (r : ℕ × ℕ). got r.1) j))

-- ---- A row of the table, as its parts are read

module _ {A B : Type 0} (f : A → B) (r : Parsed A) {z : Parsed B} (e : z ≡ mapped f r) where
  pub mapped-got : {x : A} {y : B} → r ≡ got x → y ≡ f x → got y ≡ z
  unfolding mapped
  mapped-got h d = ap got d ∙ sym (e ∙ rw h)

  pub mapped-refused : {n : ℕ} → r ≡ refused n → refused n ≡ z
  unfolding mapped
  mapped-refused h = sym (e ∙ rw h)

module _ (l : Limits) (o : Op) where
  alone : (r : Parsed Command) → (r >>= operands l [] []) ≡ r
  unfolding operands
  alone (got d) = refl
  alone (refused n) = refl

  -- another count of parts
  wrong : (os : List Operand) (ps : List (List ℕ)) → (length os ≡ length ps → ⊥) → by_row l o os ps ≡ refused 6
  unfolding by_row
  wrong os ps n = rw (ne_eqb _ _ n)

  by_one : {A : Type 0} (F : List ℕ → Parsed A) (a : Operand) (f : A → Command) → ((p : List ℕ) → operand l a p (blank o) ≡ mapped f (F p))
      → (ps : List (List ℕ)) → by_row l o (a ∷ []) ps ≡ mapped f (one_of F ps)
  unfolding one_of single mapped by_row operands
  by_one F a f h [] = refl
  by_one F a f h (p ∷ []) = alone (operand l a p (blank o)) ∙ h p
  by_one F a f h (p ∷ q ∷ ps) = wrong (a ∷ []) (p ∷ q ∷ ps) (λ e. omega arith)

  by_two : {A B : Type 0} (F : List ℕ → Parsed A) (G : List ℕ → Parsed B) (a b : Operand) (f : A → Command) (g : A × B → Command)
      → ((p : List ℕ) → operand l a p (blank o) ≡ mapped f (F p)) → ((x : A) (q : List ℕ) → operand l b q (f x) ≡ mapped (λ y. g (x, y)) (G q))
      → (ps : List (List ℕ)) → by_row l o (a ∷ b ∷ []) ps ≡ mapped g (two_of F G ps)
  unfolding two_of halves mapped by_row operands
  by_two F G a b f g h k [] = refl
  by_two F G a b f g h k (p ∷ []) = wrong (a ∷ b ∷ []) (p ∷ []) (λ e. omega arith)
  by_two {A} {B} F G a b f g h k (p ∷ q ∷ []) = ap (λ (r : Parsed Command). r >>= operands l (b ∷ []) (q ∷ [])) (h p) ∙ go (F p)
    where
      end : (x : A) (r : Parsed B) → (r >>= (λ y. got (g (x, y)))) ≡ mapped g (r >>= (λ y. got (x, y)))
      end x (got y) = refl
      end x (refused n) = refl

      go : (r : Parsed A) → ((r >>= (λ x. got (f x))) >>= operands l (b ∷ []) (q ∷ [])) ≡ mapped g (r >>= (λ x. G q >>= (λ y. got (x, y))))
      go (got x) = alone (operand l b q (f x)) ∙ k x q ∙ end x (G q)
      go (refused n) = refl
  by_two F G a b f g h k (p ∷ q ∷ r ∷ ps) = wrong (a ∷ b ∷ []) (p ∷ q ∷ r ∷ ps) (λ e. omega arith)

  -- a word without parts, and a word without its parts
  pub alone-is : by_row l o [] [] ≡ got (blank o)
  unfolding by_row operands
  alone-is = refl

  pub alone-not : (t : List ℕ) → by_row l o [] (split space t) ≡ refused 6
  alone-not t = let s = split-some space t in rw s.2 (wrong [] (s.0 ∷ s.1) (λ e. omega arith))

  pub parts-not : (s : Shape) → (s ≡ Alone → ⊥) → by_row l o (shape_as s) [] ≡ refused 6
  parts-not s n = wrong (shape_as s) [] (λ e. some s n e)
    where
      some : (s : Shape) → (s ≡ Alone → ⊥) → length (shape_as s) ≡ 0 → ⊥
      some Alone n e = n refl
      some K n e = omega arith
      some T n e = omega arith
      some VN n e = omega arith
      some VW n e = omega arith
      some VK n e = omega arith
      some KV n e = omega arith
      some VT n e = omega arith

  -- each shape of a row: its numbers by their limits, and the command that is made of them
  abbrev by_shape : Shape → List (List ℕ) → Parsed Command
  by_shape Alone ps = by_row l o [] ps
  by_shape K ps = mapped (λ k. command_of o 0 0 k 0 (pos 0)) (one_of (up_to (l.keys - 1)) ps)
  by_shape T ps = mapped (λ t. command_of o 0 0 0 t (pos 0)) (one_of (up_to l.target) ps)
  by_shape VN ps = mapped (with_number o) (two_of (up_to (variables - 1)) number ps)
  by_shape VW ps = mapped (λ x. command_of o x.0 x.1 0 0 (pos 0)) (two_of (up_to (variables - 1)) (up_to (variables - 1)) ps)
  by_shape VK ps = mapped (λ x. command_of o x.0 0 x.1 0 (pos 0)) (two_of (up_to (variables - 1)) (up_to (l.keys - 1)) ps)
  by_shape KV ps = mapped (λ x. command_of o x.1 0 x.0 0 (pos 0)) (two_of (up_to (l.keys - 1)) (up_to (variables - 1)) ps)
  by_shape VT ps = mapped (λ x. command_of o x.0 0 0 x.1 (pos 0)) (two_of (up_to (variables - 1)) (up_to l.target) ps)

  by_shape-is : (s : Shape) (ps : List (List ℕ)) → by_row l o (shape_as s) ps ≡ by_shape s ps
  unfolding operand mapped
  by_shape-is Alone ps = refl
  by_shape-is K ps = by_one _ InK _ (λ p. refl) ps
  by_shape-is T ps = by_one _ InT _ (λ p. refl) ps
  by_shape-is VN ps = by_two _ _ InV InN (λ x. command_of o x 0 0 0 (pos 0)) _ (λ p. refl) (λ x q. refl) ps
  by_shape-is VW ps = by_two _ _ InV InW (λ x. command_of o x 0 0 0 (pos 0)) _ (λ p. refl) (λ x q. refl) ps
  by_shape-is VK ps = by_two _ _ InV InK (λ x. command_of o x 0 0 0 (pos 0)) _ (λ p. refl) (λ x q. refl) ps
  by_shape-is KV ps = by_two _ _ InK InV (λ x. command_of o 0 0 x 0 (pos 0)) _ (λ p. refl) (λ x q. refl) ps
  by_shape-is VT ps = by_two _ _ InV InT (λ x. command_of o x 0 0 0 (pos 0)) _ (λ p. refl) (λ x q. refl) ps

  pub at-shape : {s a : Shape} → s ≡ a → (ps : List (List ℕ)) → by_row l o (shape_as s) ps ≡ by_shape a ps
  at-shape {s} {a} e ps = rw e (by_shape-is a ps)

-- ---- The word

-- the table is asked for the word, and what it says is taken from there
by-lookup : (l : Limits) (w : List ℕ) (ps : List (List ℕ)) → words l (w ∷ ps) ≡ (lookup w >>= (λ x. by_row l x.0 x.1 ps))
unfolding words lookup
by-lookup l w ps = go (row_of table w)
  where
    go : (r : Parsed Row) → (r >>= (λ x. by_row l x.op x.parts ps)) ≡ ((r >>= said_by) >>= (λ x. by_row l x.0 x.1 ps))
    go (got x) = refl
    go (refused n) = refl

-- what the word before the first space of s, at e, and the parts behind it say
pub line-by-word : (l : Limits) (s : List ℕ) (e : ℕ) {w : Parsed (Op × List Operand)} → e ≡ find space s → w ≡ lookup (take e s)
    → by_word l w (parts_after e s) ≡ read_command l s
unfolding read_command
line-by-word l s e q h = rw (split-word s e q, h) (sym (by-lookup l (take e s) (parts_after e s)))

-- the parts of a line, where its word is alone, and where a space follows it
pub parts_none : (s : List ℕ) (e : ℕ) → length s ≤ e → parts_after e s ≡ []
unfolding parts_after
parts_none s e h = rw (le-ltb _ _ h)

pub parts-behind : (s : List ℕ) (e : ℕ) → e < length s → parts_after e s ≡ split space (behind s e)
unfolding parts_after
parts-behind s e h = rw (lt-ltb _ _ h, rest s (e + 1))
