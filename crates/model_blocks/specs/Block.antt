-- The block dialect as a tree, and its fixed translation to the commands of document 01.
use Rattle.std.specs.Prelude.{ℕ, ◌+◌, Bool, true, false, List, [], ◌∷◌, ◌++◌, pos}
use Rattle.model.specs.declared.Command.{Command}
use Rattle.model.specs.declared.Op.{Op}
use Rattle.model.specs.declared.Op.TheVariants.{Set, Add, Sub, Mul, Div, Read, Has, Put, Drop, IfNeg, IfZero, Jump, Receive, Send, Stop}

-- "A block holds commands and blocks, .. and may be empty": it is empty, or begins with a command of its own, an `if` without or with an `else`, or a `while`,
-- and goes on with the rest of it. v is the variable that is tested.
pub data Block : Type 0 where
  empty : Block
  own : (c : Command) (rest : Block) → Block
  if_only : (v : ℕ) (body rest : Block) → Block
  if_else : (v : ℕ) (body other rest : Block) → Block
  while : (v : ℕ) (body rest : Block) → Block

-- Where a command goes on: at the next place, at the end, or at a target
pub data Way : Type 0 where
  ahead at_end elsewhere : Way

abbrev pub way_of : Op → Way
way_of Set = ahead
way_of Add = ahead
way_of Sub = ahead
way_of Mul = ahead
way_of Div = ahead
way_of Read = ahead
way_of Has = ahead
way_of Put = ahead
way_of Drop = ahead
way_of IfNeg = elsewhere
way_of IfZero = elsewhere
way_of Jump = elsewhere
way_of Receive = ahead
way_of Send = ahead
way_of Stop = at_end

-- "the commands of document 01 except `jump`, `ifneg` and `ifzero`": those that go to no target
abbrev pub allowed : Way → Bool
allowed ahead = true
allowed at_end = true
allowed elsewhere = false

-- ---- The translation

-- how many commands a block becomes
unfoldable pub places : Block → ℕ
places empty = 0
places (own c b) = 1 + places b
places (if_only v a b) = 1 + places a + places b
places (if_else v a o b) = 1 + places a + 1 + places o + places b
places (while v a b) = 1 + places a + 1 + places b

-- "A block runs while, or if, v is not 0.": the test goes to its target where v is 0
abbrev pub test_to : ℕ → ℕ → Command
test_to t v = record { op = IfZero; v = v; w = 0; k = 0; t = t; n = pos 0 }

abbrev pub jump_to : ℕ → Command
jump_to t = record { op = Jump; v = 0; w = 0; k = 0; t = t; n = pos 0 }

-- "Translation is fixed: `if` is one test before its body; with `else` there is also a jump after the first body; `while` is a test before and a jump back
-- after." The commands of a block whose first stands at the place p.
unfoldable pub translate : ℕ → Block → List Command
translate p empty = []
translate p (own c b) = c ∷ translate (p + 1) b
translate p (if_only v a b) = let e = p + 1 + places a in test_to e v ∷ (translate (p + 1) a ++ translate e b)
translate p (if_else v a o b) =
    let m = p + 1 + places a + 1 in
    let e = m + places o in
    test_to m v ∷ (translate (p + 1) a ++ (jump_to e ∷ (translate m o ++ translate e b)))
translate p (while v a b) = let e = p + 1 + places a + 1 in test_to e v ∷ (translate (p + 1) a ++ (jump_to p ∷ translate e b))

-- the commands of a program
abbrev pub commands_of : Block → List Command
commands_of b = translate 0 b

-- ---- A block behind another

infixr 20 ◌then◌
unfoldable pub ◌then◌ : Block → Block → Block
◌then◌ empty d = d
◌then◌ (own c b) d = own c (b then d)
◌then◌ (if_only v a b) d = if_only v a (b then d)
◌then◌ (if_else v a o b) d = if_else v a o (b then d)
◌then◌ (while v a b) d = while v a (b then d)
