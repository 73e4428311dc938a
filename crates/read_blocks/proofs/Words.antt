-- The word of a line and its parts.
use Prim.Native.Nat.{ℕ, zero, suc, ◌-◌, ◌≤◌}
use mathlib.Core.Path.{◌≡◌, refl, sym, ap, ◌∙◌}
use mathlib.Core.Bool.{Bool, true, false, not, true≢false}
use mathlib.Core.List.{List, [], ◌∷◌}
use native.Mathlib.Omega.{arith}
use lib.{ListN.length, ListN.take}
use Rattle.model.specs.{Limits.variables, Limits.most_keys, Parsed.Parsed, Parsed.got, Parsed.need, Parsed.◌>>=◌, Parsed.◌>>◌, Text.bytes, Number.up_to}
use Rattle.model.specs.{Command.Row, Command.table, Command.row_of, Command.by_row, Command.limits}
use Rattle.model.specs.declared.{Op.Op, Operand.Operand, Command.Command}
use Rattle.model.proofs.Parsed.{never}
use Rattle.model_blocks.proofs.Own.{own_of, own-empty}
use Rattle.model_blocks.specs.Block.{way_of, allowed}
use Rattle.model_blocks.specs.Dialect.{block_word, own_command, tested}
use Rattle.read_command.specs.{Code.code_of, Code.said_by, Code.lookup, Command.one_of, Command.single}
use Rattle.read_command.proofs.Words.{Bytes, code_same, word-short, small}
use Rattle.pack_command.specs.Pack.{Packable}
use Rattle.read_dialect.specs.Words.{by_code, goes_elsewhere}

-- ---- Which word it is

-- by its number, which no other word has
pub by_code-is : (w : List ℕ) → Bytes w → by_code (code_of w) ≡ block_word w
unfolding by_code block_word bytes small
by_code-is w h =
    rw (
      code_same w (bytes "if") h (word-short (bytes "if") refl),
      code_same w (bytes "else") h (word-short (bytes "else") refl),
      code_same w (bytes "while") h (word-short (bytes "while") refl),
      code_same w (bytes "end") h (word-short (bytes "end") refl),
    )

-- ---- `if v` and `while v`

pub tested-one : (ps : List (List ℕ)) → tested ps ≡ one_of (up_to (variables - 1)) ps
unfolding tested one_of single
tested-one [] = refl
tested-one (p ∷ []) = refl
tested-one (p ∷ q ∷ ps) = refl

-- ---- A command of the dialect's own

-- what the table says of its word, unless the dialect leaves it out
abbrev own_by : ℕ → Parsed (Op × List Operand) → List (List ℕ) → Parsed Command
own_by K r ps = r >>= (λ x. need (allowed (way_of x.0)) 6 >> by_row (limits K 0) x.0 x.1 ps)

own-by : (K : ℕ) (w : List ℕ) (ps : List (List ℕ)) → own_command K w ps ≡ own_by K (lookup w) ps
unfolding own_command lookup
own-by K w ps = go (row_of table w)
  where
    go : (r : Parsed Row) → (r >>= (λ x. need (allowed (way_of x.op)) 6 >> by_row (limits K 0) x.op x.parts ps)) ≡ own_by K (r >>= said_by) ps
    go (got x) = refl
    go (Parsed.refused n) = refl

module _ (K : ℕ) (w : List ℕ) (ps : List (List ℕ)) where
  own_as : (r : Parsed (Op × List Operand)) → r ≡ lookup w → own_command K w ps ≡ own_by K r ps
  own_as r h = own-by K w ps ∙ ap (λ (x : Parsed (Op × List Operand)). own_by K x ps) (sym h)

  -- the table lacks it
  pub own-unknown : {n : ℕ} → Parsed.refused n ≡ lookup w → Parsed.refused n ≡ own_command K w ps
  own-unknown {n} h = sym (own_as (Parsed.refused n) h)

  module _ (o : Op) (os : List Operand) (h : got (o, os) ≡ lookup w) where
    pub own-left-out : true ≡ goes_elsewhere o → own_command K w ps ≡ Parsed.refused 6
    own-left-out e = own_as (got (o, os)) h ∙ go (allowed (way_of o)) _ e
      where
        go : (t : Bool) (c : Parsed Command) → true ≡ not t → (need t 6 >> c) ≡ Parsed.refused 6
        go true c e = absurd (true≢false e)
        go false c e = refl

    pub own-by-word : false ≡ goes_elsewhere o → own_command K w ps ≡ by_row (limits K 0) o os ps
    own-by-word e = own_as (got (o, os)) h ∙ go (allowed (way_of o)) _ e
      where
        go : (t : Bool) (c : Parsed Command) → false ≡ not t → (need t 6 >> c) ≡ c
        go true c e = refl
        go false c e = absurd (true≢false (sym e))

-- It has room in a number, and its line is not empty.
pub own-packable : (K : ℕ) → 1 ≤ K → K ≤ most_keys → (w : List ℕ) (ps : List (List ℕ)) {c : Command} → own_command K w ps ≡ got c → Packable c
own-packable K keyed most w ps e = let h = (own_of K keyed w ps _ e).within in record { v = h.v; w = h.w; k = omega (arith, h.k); t = omega (arith, h.t); n = h.n }

pub own-long : (K f : ℕ) (l : List ℕ) (ps : List (List ℕ)) {c : Command} → own_command K (take f l) ps ≡ got c → 1 ≤ length l
own-long K f (b ∷ l) ps e = omega arith
own-long K zero [] ps e = never (sym (own-empty K ps) ∙ e)
own-long K (suc f) [] ps e = never (sym (own-empty K ps) ∙ e)
