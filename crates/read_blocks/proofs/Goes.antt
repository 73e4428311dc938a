-- Reading that goes on: nothing, one thing behind another, a command of the dialect's own, and blocks within.
use Prim.Native.Nat.{ℕ, ◌+◌, ◌<◌, ◌≤◌}
use mathlib.Core.Path.{◌≡◌, refl, sym, ap, ap₂, subst, ◌∙◌}
use mathlib.Core.Bool.{Bool, true, false}
use mathlib.Core.List.{List, [], ◌∷◌, ◌++◌, map, map-append, append_assoc, append-nil}
use native.Mathlib.{Omega.arith, Nat.add-zero}
use lib.{ListN.length, ListN.take, ListN.drop, ListN.set, ListN.length-set, Seq.take-set-lt, Seq.set_comm, Seq.set-append_left, Seq.length-take-le}
use borrow.Author.Tests.{lt-ltb}
use Rattle.model.specs.Parsed.{got}
use Rattle.model.specs.declared.{Command.Command, TextFault.TextFault}
use Rattle.model_blocks.specs.Block.{Block, empty, own, if_only, if_else, while, places, test_to, jump_to, translate, ◌then◌}
use Rattle.model_blocks.specs.Dialect.{else_word, end_word, other_word, own_command, tested, in_if, in_else, in_while, Standing, adding, opening, deepest}
use Rattle.model_blocks.proofs.Behind.{then-empty, then-assoc, places_then, translate-then}
use Rattle.read_command.specs.Command.{parts_after}
use Rattle.pack_command.specs.Pack.{command_number}
use Rattle.read_blocks.specs.Blocks.{next_line, Starts, LineAt, reading, RefusedFrom, refused_by, Goes, OtherGoes, opener_word, near_by}
use Rattle.read_blocks.specs.declared.{Mark.Mark, Line.Line}
use Rattle.read_blocks.proofs.Lines.{opener_of, own_read, opens-read, end_read, else-read}
use Rattle.read_blocks.proofs.Kept.{kept-before, kept-behind}

near-is : (t : ℕ) → t < 65536 → near_by t ≡ t
unfolding near_by
near-is t h = rw (lt-ltb _ _ h)

-- a place behind a line
pub starts-next : (s : List ℕ) (p : Mark) (e more : ℕ) → Starts s p → p.at + e + 1 ≤ length s → more ≤ 1 → Starts s (next_line p e more)
starts-next s p e more h i j = record { inside = i; near = omega (arith, h.near); few = omega (arith, h.few) }

module _ (K d : ℕ) (s : List ℕ) where
  pub goes_none : (p : Mark) (m : List ℕ) → Starts s p → Goes K d s p p m m
  unfolding places translate
  goes_none p m h =
      record {
        block = empty;
        reads = λ o k. ap (λ (b : Block). reading K s p (record { blocks = o.blocks; sofar = b })) (sym (then-empty o.sofar));
        counts = omega arith;
        kept = λ i. sym (append-nil (take p.count m));
        starts = h;
        onward = omega arith;
      }

  pub goes-more : {p q r : Mark} {m m' m'' : List ℕ} → length m' ≡ length m → Goes K d s p q m m' → Goes K d s q r m' m'' → Goes K d s p r m m''
  goes-more {p} {q} {r} {m} {m'} {m''} e g h =
      let a = g.block in
      let b = h.block in
      let c = g.counts in
      record {
        block = a then b;
        reads = λ o k. g.reads o k ∙ h.reads (adding a o) k ∙ ap (λ (x : Block). reading K s r (record { blocks = o.blocks; sofar = x })) (then-assoc o.sofar a b);
        counts = omega (arith, c, h.counts, places_then a b);
        kept = λ i.
            h.kept (omega (arith, e, i))
            ∙ ap (λ (l : List ℕ). l ++ map command_number (translate q.count b)) (g.kept (omega (arith, i, h.counts)))
            ∙ append_assoc (take p.count m) (map command_number (translate p.count a)) (map command_number (translate q.count b))
            ∙ ap (λ (l : List ℕ). take p.count m ++ l) (sym (map-append command_number (translate p.count a) (translate q.count b))
            ∙ ap (map command_number) (ap (λ (n : ℕ). translate p.count a ++ translate n b) c ∙ sym (translate-then b p.count a)));
        starts = h.starts;
        onward = omega (arith, g.onward, h.onward);
      }

  -- the same memory by another name, and what is refused further on
  pub goes-as : {p q : Mark} {m m' m'' : List ℕ} → m'' ≡ m' → Goes K d s p q m m' → Goes K d s p q m m''
  goes-as {p} {q} {m} e g = subst (Goes K d s p q m) (sym e) g

  pub goes_to : {p q r : Mark} {m m' m'' : List ℕ} → r ≡ q → m'' ≡ m' → Goes K d s p q m m' → Goes K d s p r m m''
  goes_to {p} {q} {r} {m} {m'} {m''} f e g = subst (λ (x : Mark). Goes K d s p x m m'') (sym f) (goes-as e g)

  pub refuses-after : {p q : Mark} {m m' : List ℕ} (x : TextFault) → Goes K d s p q m m' → RefusedFrom K d s q x → RefusedFrom K d s p x
  refuses-after x g h o k = g.reads o k ∙ h (adding g.block o) k

  -- ---- A command of the dialect's own

  pub own-goes : (p : Mark) (ln : Line) → LineAt s p ln other_word → Starts s p → (c : Command)
      → own_command K (take ln.word (take ln.end (drop p.at s))) (parts_after ln.word (take ln.end (drop p.at s))) ≡ got c
      → (m : List ℕ) → Goes K d s p (next_line p ln.end 1) m (set m p.count (command_number c))
  unfolding places translate
  own-goes p ln h i c q m =
      record {
        block = own c empty;
        reads = λ o k. own_read K d s p ln h c q o;
        counts = refl;
        kept = λ j. kept-behind m p.count (command_number c) (omega arith);
        starts = starts-next s p ln.end 1 i h.inside (omega arith);
        onward = omega arith;
      }

  -- ---- Blocks within

  -- the line of an `if` or a `while` on v at p, and the lines of its body, up to q
  module _ (looping : Bool) (p : Mark) (ln : Line) (h : LineAt s p ln (opener_word looping)) (i : Starts s p) (l : d < deepest)
      (v : ℕ) (t : tested (parts_after ln.word (take ln.end (drop p.at s))) ≡ got v) where
    pub nested-refused : (x : TextFault) → RefusedFrom K (d + 1) s (next_line p ln.end 1) x → RefusedFrom K d s p x
    nested-refused x r o k = opens-read K d s p ln looping h l v t o k ∙ r (opening (opener_of looping v) o) (omega (arith, k))

    pub nested-on : {q : Mark} {m m' : List ℕ} (g : Goes K (d + 1) s (next_line p ln.end 1) q m m') (o : Standing) → length o.blocks ≡ d
        → reading K s p o ≡ reading K s q (adding g.block (opening (opener_of looping v) o))
    nested-on g o k = opens-read K d s p ln looping h l v t o k ∙ g.reads (opening (opener_of looping v) o) (omega (arith, k))

    -- the test, kept once the body is: its target is behind n commands
    test-kept : {q : Mark} {m m' : List ℕ} (g : Goes K (d + 1) s (next_line p ln.end 1) q m m') (n : ℕ) → q.count ≤ length m → n < 65536
        → take q.count (set m' p.count (command_number (test_to (near_by n) v)))
        ≡ take p.count m ++ (command_number (test_to n v) ∷ map command_number (translate (p.count + 1) g.block))
    test-kept {q} {m} {m'} g n y z =
        let c = g.counts in
        kept-before m m' p.count q.count (command_number (test_to (near_by n) v)) (map command_number (translate (p.count + 1) g.block)) (omega arith) (omega arith) (g.kept y)
        ∙ ap (λ (x : ℕ). take p.count m ++ (command_number (test_to x v) ∷ map command_number (translate (p.count + 1) g.block))) (near-is n z)

  module _ (p : Mark) (ln : Line) (i : Starts s p) (l : d < deepest) (v : ℕ) (t : tested (parts_after ln.word (take ln.end (drop p.at s))) ≡ got v) where
    -- the body of an `if` without an `else`, and its `end` at q
    pub if-goes : (h : LineAt s p ln (opener_word false)) {q : Mark} {m m' : List ℕ} (g : Goes K (d + 1) s (next_line p ln.end 1) q m m') (ln' : Line) → LineAt s q ln' end_word → ln'.end ≤ ln'.word
        → length m < 65536 → Goes K d s p (next_line q ln'.end 0) m (set m' p.count (command_number (test_to (near_by q.count) v)))
    unfolding places translate ◌then◌
    if-goes h {q} {m} {m'} g ln' z a short =
        let c = g.counts in
        let b = g.block in
        record {
          block = if_only v b empty;
          reads = λ o k. nested-on false p ln h i l v t g o k ∙ end_read K d s q ln' z (record { opener = in_if v; before = o.sofar }) o.blocks b a 0;
          counts = omega (arith, c);
          kept = λ y.
              ap (λ (n : ℕ). take n (set m' p.count (command_number (test_to (near_by q.count) v)))) (add-zero q.count)
              ∙ test-kept false p ln h i l v t g q.count (omega (arith, y)) (omega (arith, y, short))
              ∙ ap₂ (λ (n : ℕ) (cs : List Command). take p.count m ++ (command_number (test_to n v) ∷ map command_number cs)) c (sym (append-nil (translate (p.count + 1) b)));
          starts = starts-next s q ln'.end 0 g.starts z.inside (omega arith);
          onward = omega (arith, g.onward);
        }

    -- the body of a `while`, and its `end` at q
    pub while-goes : (h : LineAt s p ln (opener_word true)) {q : Mark} {m m' : List ℕ} (g : Goes K (d + 1) s (next_line p ln.end 1) q m m') (ln' : Line) → LineAt s q ln' end_word → ln'.end ≤ ln'.word
        → length m < 65536 → length m' ≡ length m
        → Goes K d s p (next_line q ln'.end 1) m (set (set m' p.count (command_number (test_to (near_by (q.count + 1)) v))) q.count (command_number (jump_to (near_by p.count))))
    unfolding places translate ◌then◌
    while-goes h {q} {m} {m'} g ln' z a short same =
        let c = g.counts in
        let b = g.block in
        let x = command_number (test_to (near_by (q.count + 1)) v) in
        record {
          block = while v b empty;
          reads = λ o k. nested-on true p ln h i l v t g o k ∙ end_read K d s q ln' z (record { opener = in_while v; before = o.sofar }) o.blocks b a 1;
          counts = omega (arith, c);
          kept = λ y.
              kept-behind (set m' p.count x) q.count (command_number (jump_to (near_by p.count))) (omega (arith, y, same, length-set m' p.count x))
              ∙ ap₂ (λ (xs : List ℕ) (n : ℕ). xs ++ (command_number (jump_to n) ∷ [])) (test-kept true p ln h i l v t g (q.count + 1) (omega (arith, y)) (omega (arith, y, short))) (near-is p.count (omega (arith, y, short, c)))
              ∙ append_assoc (take p.count m) (command_number (test_to (q.count + 1) v) ∷ map command_number (translate (p.count + 1) b)) (command_number (jump_to p.count) ∷ [])
              ∙ ap₂ (λ (n : ℕ) (xs : List ℕ). take p.count m ++ (command_number (test_to n v) ∷ xs)) (ap (λ (n : ℕ). n + 1) c) (sym (map-append command_number (translate (p.count + 1) b) (jump_to p.count ∷ [])));
          starts = starts-next s q ln'.end 1 g.starts z.inside (omega arith);
          onward = omega (arith, g.onward);
        }

    -- the first body of an `if`, and what follows its `else` at q, up to r
    pub else-goes : (h : LineAt s p ln (opener_word false)) {q r : Mark} {m m' m'' : List ℕ} (g : Goes K (d + 1) s (next_line p ln.end 1) q m m') → OtherGoes K d s p.count v q r m' m''
        → length m < 65536 → length m' ≡ length m → Goes K d s p r m m''
    unfolding places translate ◌then◌
    else-goes h {q} {r} {m} {m'} {m''} g u short same =
        let c = g.counts in
        let a = g.block in
        let b = u.other in
        let first = map command_number (translate (p.count + 1) a) in
        record {
          block = if_else v a b empty;
          reads = λ o k. nested-on false p ln h i l v t g o k ∙ u.reads o a k;
          counts = omega (arith, c, u.counts);
          kept = λ y.
              u.kept (omega (arith, y, same))
              ∙ ap (λ (xs : List ℕ). xs ++ (command_number (jump_to r.count) ∷ map command_number (translate (q.count + 1) b)))
              (kept-before m m' p.count q.count (command_number (test_to (q.count + 1) v)) first (omega (arith, y, c, u.counts)) (omega (arith, c)) (g.kept (omega (arith, y, u.counts))))
              ∙ append_assoc (take p.count m) (command_number (test_to (q.count + 1) v) ∷ first) (command_number (jump_to r.count) ∷ map command_number (translate (q.count + 1) b))
              ∙ translated (take p.count m) (translate (p.count + 1) a) b (q.count + 1) r.count (p.count + 1 + places a + 1) (omega (arith, c)) (omega (arith, c, u.counts));
          starts = u.starts;
          onward = omega (arith, g.onward, u.onward);
        }
      where
        -- the commands as the translation has them: the second body stands from the place k on
        translated : (xs : List ℕ) (cs : List Command) (b : Block) (n r k : ℕ) → n ≡ k → r ≡ k + places b
            → xs ++ ((command_number (test_to n v) ∷ map command_number cs) ++ (command_number (jump_to r) ∷ map command_number (translate n b)))
            ≡ xs ++ map command_number (test_to k v ∷ (cs ++ (jump_to (k + places b) ∷ (translate k b ++ []))))
        translated xs cs b n r k x y =
            rw (x, y, append-nil (translate k b)) (ap (λ (l : List ℕ). xs ++ (command_number (test_to k v) ∷ l)) (sym (map-append command_number cs (jump_to (k + places b) ∷ translate k b))))

  -- ---- An `else` at p, the lines behind it, and its `end` at q

  module _ (p : Mark) (ln : Line) (h : LineAt s p ln else_word) (a : ln.end ≤ ln.word) (v t : ℕ) where
    abbrev in_other : Standing → Block → Standing
    in_other o x = opening (in_else v x) o

    pub other-on : (x : TextFault) → RefusedFrom K (d + 1) s (next_line p ln.end 1) x → (o : Standing) (b : Block) → length o.blocks ≡ d
        → reading K s p (adding b (opening (in_if v) o)) ≡ refused_by x
    unfolding ◌then◌
    other-on x r o b k = else-read K d s p ln h v o.sofar o.blocks b a 1 ∙ r (in_other o b) (omega (arith, k))

    module _ {q : Mark} {m m' : List ℕ} (g : Goes K (d + 1) s (next_line p ln.end 1) q m m') where
      pub other-to : (o : Standing) (b : Block) → length o.blocks ≡ d → reading K s p (adding b (opening (in_if v) o)) ≡ reading K s q (adding g.block (in_other o b))
      unfolding ◌then◌
      other-to o b k = else-read K d s p ln h v o.sofar o.blocks b a 1 ∙ g.reads (in_other o b) (omega (arith, k))

      pub other_goes : (ln' : Line) → LineAt s q ln' end_word → ln'.end ≤ ln'.word → t < p.count → length m < 65536 → length m' ≡ length m
          → OtherGoes K d s t v p (next_line q ln'.end 0) m (set (set m' t (command_number (test_to (near_by (p.count + 1)) v))) p.count (command_number (jump_to (near_by q.count))))
      unfolding ◌then◌
      other_goes ln' z a' before short same =
          let c = g.counts in
          let b = g.block in
          record {
            other = b;
            reads = λ o x k. other-to o x k ∙ end_read K d s q ln' z (record { opener = in_else v x; before = o.sofar }) o.blocks b a' 0;
            counts = omega (arith, c);
            kept = λ y. both-kept m m' p.count q.count (q.count + 0) (map command_number (translate (p.count + 1) b)) before (omega (arith, y, short, c)) (omega arith) (omega (arith, y)) (omega (arith, y, c)) (omega (arith, c)) (omega (arith, y, short)) (g.kept (omega (arith, y)));
            starts = starts-next s q ln'.end 0 g.starts z.inside (omega arith);
            onward = omega (arith, g.onward);
          }
        where
          -- the test at t and the jump at n, kept once the q commands behind them are
          both-kept : (m m' : List ℕ) (n q q' : ℕ) (xs : List ℕ) → t < n → n + 1 < 65536 → q ≡ q' → q ≤ length m → n < length m → n < q → q < 65536 → take q m' ≡ take (n + 1) m ++ xs
              → take q' (set (set m' t (command_number (test_to (near_by (n + 1)) v))) n (command_number (jump_to (near_by q)))) ≡ take n (set m t (command_number (test_to (n + 1) v))) ++ (command_number (jump_to q') ∷ xs)
          both-kept m m' n q q' xs before n-near e y inside less q-near k =
              let x = command_number (test_to (n + 1) v) in
              let j = command_number (jump_to q) in
              rw (near-is (n + 1) n-near, near-is q q-near, ← e)
              (ap (take q) (set_comm m' t n x j (λ w. omega (arith, w)))
              ∙ take-set-lt q (set m' n j) t x (omega arith)
              ∙ ap (λ (l : List ℕ). set l t x) (kept-before m m' n q j xs inside less k)
              ∙ set-append_left (take n m) (j ∷ xs) t x (omega (arith, length-take-le n m (omega arith)))
              ∙ ap (λ (l : List ℕ). l ++ (j ∷ xs)) (sym (take-set-lt n m t x before)))
