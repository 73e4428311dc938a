-- The `do` lines of a program with blocks: how they are written, how long they are, and what they are in a sheet.
use Prim.Native.Nat.{ℕ, zero, suc, ◌<◌}
use mathlib.Core.Path.{◌≡◌, refl, subst}
use mathlib.Core.Bool.{true, false}
use mathlib.Core.List.{List, [], ◌∷◌, ◌++◌}
use native.Mathlib.Omega.{arith}
use lib.ListN.{length, length-append, length-replicate}
use Rattle.model.specs.{Limits.most_keys, Text.bytes, Text.line_feed, Text.lines, Decimal.natural, Sheet.accepted, Sheet.read_sheet}
use Rattle.model.specs.{Sheet.closed, Accepted.Every, Accepted.Within}
use Rattle.model.specs.declared.Key.TheVariants.{Open}
use Rattle.model.proofs.{Written.always-writes}
use Rattle.model_run.proofs.{Examples.opened}
use Rattle.model_text.specs.Found.{starts}
use Rattle.model_text.specs.{Text.command_lines, Pasted.starts_do, Pasted.CutAtProgram}
use Rattle.model_text.proofs.{Numbers.digit-length, Short.command-lines-short, Replaced.program-pasted}
use Rattle.model_blocks.specs.{Block.commands_of, Dialect.read_blocks, Dialect.draft, Dialect.write_blocks}
use Rattle.model_blocks.specs.Claims.{WholeOrNothing, BlocksShort, BlocksPasted, least_head, least_tail, least_job, BlocksInSmallest}
use Rattle.model_blocks.proofs.{Within.count-is-places, Within.commands-within, Read.well-read}

pub whole-or-nothing : WholeOrNothing
unfolding write_blocks
whole-or-nothing K s m = (refl, always-writes 53 m (draft (read_blocks K s)))

pub blocks-short : BlocksShort
blocks-short K s b e few =
    let h = well-read K s b e in
    let n = count-is-places b in
    omega (arith, command-lines-short K (length (commands_of b)) (commands_of b) h.few_keys (omega arith) (commands-within K b h).0)

pub blocks-pasted : BlocksPasted
blocks-pasted K s b e few head old tail j cut keys short =
    let h = well-read K s b e in
    let n = count-is-places b in
    let w = commands-within K b h in
    let cs = commands_of b in
    let same : K ≡ length j.keys = omega arith in
    program-pasted head old tail j cut cs (omega (arith, h.some)) (omega arith) (subst (λ (k : ℕ). Every (Within k (length cs)) cs) same w.0) w.1 short

-- ---- The smallest sheets

abbrev only : List ℕ
only = bytes "do=stop\n"

smallest : (K : ℕ) → read_sheet (least_head K ++ (only ++ least_tail)) ≡ accepted (least_job K) → closed (least_head K) ≡ true
    → Every (λ (l : List ℕ). starts_do l ≡ false) (lines (least_head K)) → CutAtProgram (least_head K) only least_tail (least_job K)
unfolding opened starts
smallest K a e b = record { accepts = a; head_ends = e; old_ends = refl; tail_ends = refl; before = b; inside = (refl, tt); behind = refl }

least-cut : (i : ℕ) → i < most_keys → CutAtProgram (least_head (suc i)) only least_tail (least_job (suc i))
unfolding opened starts
least-cut zero h = smallest 1 refl refl (refl, (refl, tt))
least-cut (suc zero) h = smallest 2 refl refl (refl, (refl, tt))
least-cut (suc (suc zero)) h = smallest 3 refl refl (refl, (refl, tt))
least-cut (suc (suc (suc zero))) h = smallest 4 refl refl (refl, (refl, tt))
least-cut (suc (suc (suc (suc zero)))) h = smallest 5 refl refl (refl, (refl, tt))
least-cut (suc (suc (suc (suc (suc zero))))) h = smallest 6 refl refl (refl, (refl, tt))
least-cut (suc (suc (suc (suc (suc (suc zero)))))) h = smallest 7 refl refl (refl, (refl, tt))
least-cut (suc (suc (suc (suc (suc (suc (suc zero))))))) h = smallest 8 refl refl (refl, (refl, tt))
least-cut (suc (suc (suc (suc (suc (suc (suc (suc i)))))))) h = absurd (omega arith)

-- a sheet of one digit for its keys, and the longest lines, is far from too long
pub blocks-in-smallest : BlocksInSmallest
unfolding bytes
blocks-in-smallest zero s b e few = absurd (omega (arith, (well-read zero s b e).some_keys))
blocks-in-smallest (suc i) s b e few =
    let K = suc i in
    let h = (well-read K s b e).few_keys in
    let cs = command_lines (commands_of b) in
    let d = digit-length K (omega arith) in
    let l = length-append (least_head K) (cs ++ least_tail) in
    let m = length-append cs least_tail in
    let n = length-append (natural K) (line_feed ∷ []) in
    blocks-pasted K s b e few (least_head K) only least_tail (least_job K) (least-cut i (omega arith)) (length-replicate K Open) (omega (arith, blocks-short K s b e few))
