-- What is left to do, and a place in the program: the command of the next step stands at the place.
use Prim.Native.Nat.{ℕ, ◌+◌}
use mathlib.Core.Path.{◌≡◌, refl, sym, subst}
use mathlib.Core.Bool.{true, true≢false}
use mathlib.Core.List.{List, ◌∷◌, ◌++◌}
use lib.IntN.{ℤ}
use lib.ListN.{length}
use native.Mathlib.Omega.{arith}
use Rattle.model_run.specs.Step.{effect_by}
use Rattle.model.specs.declared.Entry.{Entry}
use Rattle.model.specs.declared.Command.{Command}
use Rattle.model.specs.declared.Op.{Op}
use Rattle.model.specs.declared.Op.TheVariants.{Set, Add, Sub, Mul, Div, Read, Has, Put, Drop, IfNeg, IfZero, Jump, Receive, Send, Stop}
use Rattle.model_blocks.specs.Block.{Block, empty, own, if_only, if_else, while, way_of, allowed, places, test_to, jump_to, translate, commands_of}
use Rattle.model_blocks.specs.Agreement.{InDialect}
use Rattle.model_blocks.specs.Meaning.{ToDo, nothing, block, jump, NextStep, stops, obeys, tests, jumps, next_step, left_behind}
use Rattle.model_blocks.proofs.Translated.{length-translate, StandsAt, HoldsAt, holds-front, holds_after, holds-all}

-- At place p the program cs goes on with what is left: at the end with nothing; else with the translation of the block, and behind it the rest; or
-- with a jump, and where that goes the rest
abbrev pub At : List Command → ℕ → ToDo → Type 0
At cs p nothing = p ≡ length cs
At cs p (block b k) = InDialect b × HoldsAt cs p (translate p b) × At cs (p + places b) k
At cs p (jump k) = (t : ℕ) × StandsAt cs p (jump_to t) × At cs t k

-- At place p stands the command of the next step, and wherever it goes, what is left after it
abbrev pub NextAt : List Command → ℕ → NextStep → Type 0
NextAt cs p stops = p ≡ length cs
NextAt cs p (obeys c k) = StandsAt cs p c × (allowed (way_of c.op) ≡ true) × At cs (p + 1) k
NextAt cs p (tests v k l) = (t : ℕ) × StandsAt cs p (test_to t v) × At cs t k × At cs (p + 1) l
NextAt cs p (jumps k) = (t : ℕ) × StandsAt cs p (jump_to t) × At cs t k

-- at first all of the program is left, at place 0
pub at-start : (b : Block) → InDialect b → At (commands_of b) 0 (block b nothing)
at-start b d = (d, holds-all (commands_of b), omega (arith, length-translate 0 b))

module _ (cs : List Command) where
  pub there : {p q : ℕ} (k : ToDo) → p ≡ q → At cs p k → At cs q k
  there k e h = subst (λ (r : ℕ). At cs r k) e h

  -- a body, with more commands behind it
  body : (p : ℕ) (a : Block) (es : List Command) (k : ToDo) → InDialect a → HoldsAt cs p (translate p a ++ es) → At cs (p + places a) k → At cs p (block a k)
  body p a es k d h r = (d, holds-front cs p (translate p a) es h, r)

  -- One clause for each kind of item
  pub ready : (p : ℕ) (k : ToDo) → At cs p k → NextAt cs p (next_step k)
  unfolding next_step translate places
  ready p nothing h = h
  ready p (block empty k) h = ready p k (there k (omega arith) h.2)
  ready p (block (own c b) k) h = (h.1.0, h.0.0, (h.0.1, h.1.1, there k (omega arith) h.2))
  ready p (block (if_only v a b) k) h =
      let e : ℕ = p + 1 + places a in
      let rest : At cs e (block b k) = (h.0.1, holds_after cs (p + 1) a (translate e b) h.1.1, there k (omega arith) h.2) in
      (e, h.1.0, rest, body (p + 1) a _ (block b k) h.0.0 h.1.1 rest)
  ready p (block (if_else v a o b) k) h =
      let m : ℕ = p + 1 + places a + 1 in
      let e : ℕ = m + places o in
      let behind : HoldsAt cs (p + 1 + places a) (jump_to e ∷ (translate m o ++ translate e b)) = holds_after cs (p + 1) a _ h.1.1 in
      let rest : At cs e (block b k) = (h.0.2, holds_after cs m o (translate e b) behind.1, there k (omega arith) h.2) in
      (m, h.1.0, body m o _ (block b k) h.0.1 behind.1 rest, body (p + 1) a _ (jump (block b k)) h.0.0 h.1.1 (e, behind.0, rest))
  ready p (block (while v a b) k) h =
      let e : ℕ = p + 1 + places a + 1 in
      let behind : HoldsAt cs (p + 1 + places a) (jump_to p ∷ translate e b) = holds_after cs (p + 1) a _ h.1.1 in
      let rest : At cs e (block b k) = (h.0.1, behind.1, there k (omega arith) h.2) in
      (e, h.1.0, rest, body (p + 1) a _ (jump (block (while v a b) k)) h.0.0 h.1.1 (p, behind.0, h))
  ready p (jump k) h = h

  -- A command of the dialect goes to the next place, and `stop` to the end
  pub lands : (o : Op) (c : Command) (p : ℕ) (a b : ℤ) (e : Entry) (m : ℕ) (k : ToDo) → allowed (way_of o) ≡ true → At cs (p + 1) k
      → At cs (effect_by o c p a b e m (length cs)).place (left_behind (way_of o) k)
  lands Set c p a b e m k d h = h
  lands Add c p a b e m k d h = h
  lands Sub c p a b e m k d h = h
  lands Mul c p a b e m k d h = h
  lands Div c p a b e m k d h = h
  lands Read c p a b e m k d h = h
  lands Has c p a b e m k d h = h
  lands Put c p a b e m k d h = h
  lands Drop c p a b e m k d h = h
  lands IfNeg c p a b e m k d h = absurd (true≢false (sym d))
  lands IfZero c p a b e m k d h = absurd (true≢false (sym d))
  lands Jump c p a b e m k d h = absurd (true≢false (sym d))
  lands Receive c p a b e m k d h = h
  lands Send c p a b e m k d h = h
  lands Stop c p a b e m k d h = refl
