-- A whole text: the refusals before its lines, and what its lines come to.
use Prim.Native.Nat.{ℕ, ◌<◌, ◌≤◌}
use mathlib.Core.Path.{◌≡◌, refl, sym, ap, ◌∙◌}
use mathlib.Core.List.{List}
use native.Mathlib.Omega.{arith}
use borrow.Author.Tests.{le-leb, lt-leb}
use Rattle.std.specs.Prelude.{Ok}
use Rattle.model.specs.{Limits.most_keys, Text.lines}
use Rattle.model.specs.declared.TextFault.{TextFault}
use Rattle.model.specs.declared.Refusal.TheVariants.{UnpairedBlock}
use Rattle.model_blocks.specs.{Block.◌then◌, Dialect.else_word, Dialect.end_word, Dialect.nothing_open, Dialect.refused, Dialect.read_from, Dialect.read_blocks}
use Rattle.model_text.specs.Found.{spoilt_line}
use Rattle.model_text.proofs.TextLaws.{text-spoilt, text-whole}
use Rattle.read_blocks.specs.Blocks.{LineAt, fault, reading, refused_by, RefusedFrom, Goes, NoMore, ProgramRead}
use Rattle.read_blocks.specs.declared.{Mark.Mark, Line.Line}
use Rattle.read_blocks.proofs.Lines.{over_none, end_none, else-none}

-- a number of keys beyond its limit
pub keys_none : (K : ℕ) (s : List ℕ) → K < 1 → read_blocks K s ≡ refused 4 0
unfolding read_blocks
keys_none K s h = rw (lt-leb 1 K h)

pub keys-many : (K : ℕ) (s : List ℕ) → most_keys < K → read_blocks K s ≡ refused 4 0
unfolding read_blocks
keys-many K s h = rw (le-leb 1 K (omega arith), lt-leb K most_keys h)

-- the first line
abbrev pub top : Mark
top = record { at = 0; line = 1; count = 0 }

module _ (K : ℕ) (s : List ℕ) (keyed : 1 ≤ K) (most : K ≤ most_keys) where
  pub whole-spoilt : 1 ≤ spoilt_line s → read_blocks K s ≡ refused 2 (spoilt_line s)
  unfolding read_blocks
  whole-spoilt h = rw (le-leb 1 K keyed, le-leb K most_keys most) (text-spoilt refused s (read_from K 1 nothing_open (lines s)) h)

  module _ (h : spoilt_line s ≡ 0) where
    from-top : read_blocks K s ≡ reading K s top nothing_open
    unfolding read_blocks
    from-top = rw (le-leb 1 K keyed, le-leb K most_keys most) (text-whole refused s (read_from K 1 nothing_open (lines s)) h)

    pub whole-refused : (x : TextFault) → RefusedFrom K 0 s top x → read_blocks K s ≡ refused_by x
    whole-refused x r = from-top ∙ r nothing_open refl

    module _ {q : Mark} {m m' : List ℕ} (g : Goes K 0 s top q m m') where
      pub whole-read : NoMore s q → ProgramRead K s m m' (Ok q.count)
      unfolding ProgramRead ◌then◌
      whole-read e = (g.block, from-top ∙ g.reads nothing_open refl ∙ over_none K s q e g.block, omega (arith, g.counts), g.kept)

      -- a line that closes no block
      pub whole-else : {ln : Line} → LineAt s q ln else_word → {x : TextFault} → x ≡ fault q UnpairedBlock → read_blocks K s ≡ refused_by x
      unfolding ◌then◌
      whole-else {ln} h e = from-top ∙ g.reads nothing_open refl ∙ else-none K 0 s q ln h g.block ∙ ap refused_by (sym e)

      pub whole-end : {ln : Line} → LineAt s q ln end_word → {x : TextFault} → x ≡ fault q UnpairedBlock → read_blocks K s ≡ refused_by x
      unfolding ◌then◌
      whole-end {ln} h e = from-top ∙ g.reads nothing_open refl ∙ end_none K 0 s q ln h g.block ∙ ap refused_by (sym e)
