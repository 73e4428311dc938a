-- A command that is read is written as the text that it was read from, by its row of the table.
use mathlib.Core.Path.{◌≡◌, refl, sym, ap, ◌∙◌, subst}
use mathlib.Core.Bool.{Bool, true, false, cond, true≢false}
use mathlib.Core.List.{List, [], ◌∷◌}
use Prim.Native.Nat.{ℕ, ◌-◌, ◌≤◌}
use native.Mathlib.Omega.{arith}
use lib.{Dec.eqb, ListN.length}
use borrow.Author.Tests.{eqb-true}
use Rattle.model.specs.{Limits.variables, Parsed.Parsed, Parsed.got, Parsed.◌>>=◌, Text.same, Text.split, Text.space, Number.up_to, Number.number}
use Rattle.model.specs.Accepted.{Every, row_for, ordinal, has}
use Rattle.model.specs.Command.{Row, Limits, table, blank, operand, operands, row_of, by_row, words, read_command}
use Rattle.model.specs.declared.{Command.Command, Operand.Operand}
use Rattle.model.specs.declared.Operand.TheVariants.{InV, InW, InK, InT, InN}
use Rattle.model.proofs.{Parsed.never, Parsed.bind-got, Accepted.row-command}
use Rattle.model_text.proofs.LineLaws.{same-eq}
use Rattle.model_text.specs.Text.{joined, operand_text, operand_texts, command_text}
use Rattle.model_text.proofs.{Numbers.Small, Commands.replaced}
use Rattle.model_sheet.proofs.{Passed.got-is, Passed.when-got, Numbers.up-to-back, Numbers.whole_back, Texts.joined-split}

-- ---- The rows of the table

-- no operand comes twice among these
unfoldable apart : List Operand → Bool
apart [] = true
apart (o ∷ os) = cond (has os o) false (apart os)

-- a row is that of its word, and none of its operands comes twice
abbrev Tidy : Row → Type 0
Tidy r = ◌≡◌ {A = Row × Bool} (row_for r.op, apart r.parts) (r, true)

-- the table has only such rows
tidy-rows : Every Tidy table
unfolding table row_for apart has
tidy-rows = (refl, (refl, (refl, (refl, (refl, (refl, (refl, (refl, (refl, (refl, (refl, (refl, (refl, (refl, (refl, tt)))))))))))))))

-- the row that a word finds has that word, and is such a row
row_back : (rs : List Row) (w : List ℕ) (r : Row) → Every Tidy rs → row_of rs w ≡ got r → (r.word ≡ w) × Tidy r
unfolding row_of
row_back [] w r h e = never e
row_back (q ∷ rs) w r h e = go (same w q.word) refl e (row_back rs w r h.1)
  where
    go : (t : Bool) → same w q.word ≡ t → cond t (got q) (row_of rs w) ≡ got r → (row_of rs w ≡ got r → (r.word ≡ w) × Tidy r) → (r.word ≡ w) × Tidy r
    go true p e i = subst (λ (x : Row). (x.word ≡ w) × Tidy x) (got-is e) (sym (same-eq w q.word p), h.0)
    go false p e i = i e

-- ---- The operands

-- two tests in a row: none held
neither : (s t : Bool) → cond s true t ≡ false → (s ≡ false) × (t ≡ false)
neither true t e = absurd (true≢false e)
neither false t e = (refl, e)

-- only the second held
but : (s t : Bool) → cond s false t ≡ true → (s ≡ false) × (t ≡ true)
but true t e = absurd (true≢false (sym e))
but false t e = (refl, e)

-- an operand that is not among those replaced keeps its text
untouched : (os : List Operand) (c d : Command) (q : Operand) → has os q ≡ false → operand_text q (replaced os d c) ≡ operand_text q c
unfolding operand_text
untouched os c d InV h = rw h
untouched os c d InW h = rw h
untouched os c d InK h = rw h
untouched os c d InT h = rw h
untouched os c d InN h = rw h

module _ (l : Limits) (keys : Small l.keys) (target : Small l.target) where
  -- the operand o of d is written as the part p, and d is c with it replaced
  abbrev Took : Operand → List ℕ → Command → Command → Type 0
  Took o p c d = (operand_text o d ≡ p) × (replaced (o ∷ []) d c ≡ d)

  -- this holds of what is read, if it holds of each value read that is put into the command
  took : {X : Type 0} (o : Operand) (p : List ℕ) (c d : Command) (r : Parsed X) (put : X → Command) → (r >>= (λ x. got (put x))) ≡ got d
      → ((x : X) → r ≡ got x → Took o p c (put x)) → Took o p c d
  took o p c d r put e h = let b = bind-got r _ d e in subst (Took o p c) (got-is b.2) (h b.0 b.1)

  -- so it does of every operand
  operand-back : (o : Operand) (p : List ℕ) (c d : Command) → operand l o p c ≡ got d → Took o p c d
  unfolding operand operand_text has
  operand-back InV p c d e = took InV p c d (up_to (variables - 1) p) _ e (λ x q. (up-to-back (variables - 1) x p (omega arith) q, refl))
  operand-back InW p c d e = took InW p c d (up_to (variables - 1) p) _ e (λ x q. (up-to-back (variables - 1) x p (omega arith) q, refl))
  operand-back InK p c d e = took InK p c d (up_to (l.keys - 1) p) _ e (λ x q. (up-to-back (l.keys - 1) x p (omega arith) q, refl))
  operand-back InT p c d e = took InT p c d (up_to l.target p) _ e (λ x q. (up-to-back l.target x p target q, refl))
  operand-back InN p c d e = took InN p c d (number p) _ e (λ x q. (whole_back p x q, refl))

  -- the parts are the texts of these operands, and no other operand was changed
  operands-back : (os : List Operand) (ps : List (List ℕ)) (c d : Command) → apart os ≡ true → length os ≡ length ps → operands l os ps c ≡ got d
      → (operand_texts os d ≡ ps) × ((q : Operand) → has os q ≡ false → operand_text q d ≡ operand_text q c)
  unfolding operands apart has
  operands-back [] [] c d a n e = (refl, λ q h. ap (operand_text q) (sym (got-is e)))
  operands-back [] (p ∷ ps) c d a n e = absurd (omega arith)
  operands-back (o ∷ os) [] c d a n e = absurd (omega arith)
  operands-back (o ∷ os) (p ∷ ps) c d a n e =
      let b = bind-got (operand l o p c) (operands l os ps) d e in
      let t = operand-back o p c b.0 b.1 in
      let g = but (has os o) (apart os) a in
      let i = operands-back os ps b.0 d g.1 (omega arith) b.2 in
      let first = i.1 o g.0 ∙ t.0 in (
        cc (first, i.0),
        λ q h.
            let k = neither (eqb (ordinal o) (ordinal q)) (has os q) h in
            i.1 q k.1 ∙ ap (operand_text q) (sym t.1) ∙ untouched (o ∷ []) c b.0 q (rw k.0),
      )

  -- ---- The command

  -- a command that was read is written as it stood
  pub command-back : 1 ≤ l.keys → (s : List ℕ) (c : Command) → read_command l s ≡ got c → command_text c ≡ s
  unfolding read_command words by_row command_text
  command-back keyed s c e = go (split space s) e ∙ joined-split space s
    where
      go : (ps : List (List ℕ)) → words l ps ≡ got c → command_text c ≡ joined space ps
      go [] e = never e
      go (w ∷ ps) e =
          let b = bind-got (row_of table w) _ c e in
          let r = b.0 in
          let k = row_back table w r tidy-rows b.1 in
          let n = when-got 6 (operands l r.parts ps (blank r.op)) c (eqb (length r.parts) (length ps)) b.2 in
          let t = operands-back r.parts ps (blank r.op) c (ap (λ (x : Row × Bool). x.1) k.1) (eqb-true _ _ n.0) n.1 in
          let own : row_for c.op ≡ r = ap row_for (row-command l keyed w r ps c b.1 b.2).0 ∙ ap (λ (x : Row × Bool). x.0) k.1 in
          ap (λ (x : Row). joined space (x.word ∷ operand_texts x.parts c)) own ∙ ap (joined space) (cc (k.0, t.0))
