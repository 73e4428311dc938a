-- A command of the dialect's own is read as a `do` line is, and what the dialect leaves out gets 6.
use Prim.Native.Nat.{ℕ}
use mathlib.Core.Path.{◌≡◌, refl, ap, ◌∙◌}
use mathlib.Core.Bool.{Bool, true, false, cond, not, true≢false}
use mathlib.Core.List.{List, [], ◌∷◌}
use lib.{Dec.eqb, ListN.length}
use Rattle.model.specs.{Parsed.Parsed, Parsed.got, Parsed.need, Parsed.◌>>=◌, Parsed.◌>>◌, Text.same, Accepted.ordinal, Accepted.has, Accepted.Every}
use Rattle.model.specs.Parsed as Parsed
use Rattle.model.specs.Command.{Row, table, blank, operand, operands, row_of, by_row, words, limits}
use Rattle.model.specs.declared.{Op.Op, Operand.Operand, Command.Command}
use Rattle.model.specs.declared.Operand.TheVariants.{InV, InW, InK, InT, InN}
use Rattle.model.proofs.Accepted.{either}
use Rattle.model_blocks.specs.{Block.way_of, Block.allowed, Dialect.own_command, Claims.AsInDoLines, Claims.LeftOut}

-- ---- The table

-- the dialect leaves out the rows that have a target, and no others
abbrev Told : Row → Type 0
Told r = has r.parts InT ≡ not (allowed (way_of r.op))

rows_told : Every Told table
unfolding table has
rows_told = (refl, (refl, (refl, (refl, (refl, (refl, (refl, (refl, (refl, (refl, (refl, (refl, (refl, (refl, (refl, tt)))))))))))))))

-- of the row of a word, if it has one
abbrev ToldOf : Parsed Row → Type 0
ToldOf (got r) = Told r
ToldOf (Parsed.refused n) = Unit {0}

row_told : (rs : List Row) (w : List ℕ) → Every Told rs → ToldOf (row_of rs w)
unfolding row_of
row_told [] w h = tt
row_told (r ∷ rs) w h = either ToldOf (same w r.word) (got r) (row_of rs w) h.0 (row_told rs w h.1)

-- ---- The parts

neither : (a b : Bool) → cond a true b ≡ false → (a ≡ false) × (b ≡ false)
neither true b e = absurd (true≢false e)
neither false b e = (refl, e)

-- where no part is a target, they are read the same whatever the highest is
module _ (K t : ℕ) where
  operand-alike : (o : Operand) (p : List ℕ) (c : Command) → eqb (ordinal o) (ordinal InT) ≡ false → operand (limits K 0) o p c ≡ operand (limits K t) o p c
  unfolding operand
  operand-alike InV p c e = refl
  operand-alike InW p c e = refl
  operand-alike InK p c e = refl
  operand-alike InT p c e = absurd (true≢false e)
  operand-alike InN p c e = refl

  operands-alike : (os : List Operand) (ps : List (List ℕ)) (c : Command) → has os InT ≡ false → operands (limits K 0) os ps c ≡ operands (limits K t) os ps c
  unfolding operands has
  operands-alike (o ∷ os) (p ∷ ps) c e =
      let h = neither (eqb (ordinal o) (ordinal InT)) (has os InT) e in
      λ i. operand-alike o p c h.0 i >>= (λ (d : Command). operands-alike os ps d h.1 i)
  operands-alike (o ∷ os) [] c e = refl
  operands-alike [] ps c e = refl

  row-alike : (o : Op) (os : List Operand) (ps : List (List ℕ)) → has os InT ≡ false → by_row (limits K 0) o os ps ≡ by_row (limits K t) o os ps
  unfolding by_row
  row-alike o os ps e = ap (λ (x : Parsed Command). cond (eqb (length os) (length ps)) x (Parsed.refused 6)) (operands-alike os ps (blank o) e)

-- ---- The claims

pub as-in-do-lines : AsInDoLines
unfolding own_command words
as-in-do-lines K t w ps a = go (row_of table w) a (row_told table w rows_told)
  where
    go : (x : Parsed Row) → ((r : Row) → x ≡ got r → allowed (way_of r.op) ≡ true) → ToldOf x
        → (x >>= (λ r. need (allowed (way_of r.op)) 6 >> by_row (limits K 0) r.op r.parts ps)) ≡ (x >>= (λ r. by_row (limits K t) r.op r.parts ps))
    go (got r) a h =
        ap (λ (b : Bool). need b 6 >> by_row (limits K 0) r.op r.parts ps) (a r refl) ∙ row-alike K t r.op r.parts ps (h ∙ ap not (a r refl))
    go (Parsed.refused n) a h = refl

pub left_out : LeftOut
unfolding own_command
left_out K w ps r e a =
    ap (λ (x : Parsed Row). x >>= (λ s. need (allowed (way_of s.op)) 6 >> by_row (limits K 0) s.op s.parts ps)) e
    ∙ ap (λ (b : Bool). need b 6 >> by_row (limits K 0) r.op r.parts ps) a
