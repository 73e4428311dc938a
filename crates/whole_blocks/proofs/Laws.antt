-- What is written for a program with blocks, case by case.
use Prim.Native.Nat.{ℕ, ◌<◌, ◌≤◌}
use mathlib.Core.Path.{◌≡◌, sym, ap, ap₂, subst, ◌∙◌}
use mathlib.Core.List.{List, [], ◌∷◌}
use native.Mathlib.Omega.{arith}
use lib.{ListN.length, ListN.take, ListN.length-map, Seq.take_all}
use Rattle.model.specs.{Limits.most_keys, Limits.most_commands, Accepted.Every, Accepted.Within, Placed.front, Written.written, Written.untouched}
use Rattle.std.specs.Prelude.{Ok, Err}
use Rattle.model.specs.Refusal.{number_of}
use Rattle.model.specs.declared.{Command.Command, TextFault.TextFault}
use Rattle.model.proofs.Placed.{placed-front}
use Rattle.model_text.specs.Text.{command_lines}
use Rattle.model_blocks.specs.{Block.Block, Block.places, Block.commands_of, Dialect.tree, Dialect.read_blocks, Dialect.write_blocks}
use Rattle.model_blocks.proofs.{Read.well-read, Within.count-is-places, Within.commands-within, Sheet.blocks-short, Cases.when-many, Cases.when-refused, Cases.when-short, Cases.when-fits}
use Rattle.pack_command.specs.Pack.{Packable, Unpacked, command_number}
use Rattle.read_blocks.specs.Blocks.{ProgramRead}
use Rattle.write_text.specs.Put.{Put}

-- commands within their limits have room in a number
packable : (K n : ℕ) → K ≤ most_keys → n ≤ most_commands → (cs : List Command) → Every (Within K n) cs → Every Packable cs
packable K n few small [] h = tt
packable K n few small (c ∷ cs) h = (
  record { v = h.0.v; w = h.0.w; k = omega (arith, h.0.k); t = omega (arith, h.0.t); n = h.0.n },
  packable K n few small cs h.1,
)

-- those of a text that is read
blocks-packable : (K : ℕ) (s : List ℕ) (b : Block) → read_blocks K s ≡ tree b → places b ≤ most_commands → Every Packable (commands_of b)
blocks-packable K s b e few =
    let p = well-read K s b e in
    packable K (length (commands_of b)) p.few_keys (omega (arith, few, count-is-places b)) (commands_of b) (commands-within K b p).0

-- ---- The commands as they are read, kept as numbers and unpacked

pub too_many : (K : ℕ) (s m m' o : List ℕ) (n : ℕ) → ProgramRead K s m m' (Ok n) → most_commands < n → write_blocks K s o ≡ untouched 53 0 o
unfolding ProgramRead
too_many K s m m' o n h l = when-many K s o h.0 h.1 (omega (arith, h.2))

pub refused-read : (K : ℕ) (s m m' o : List ℕ) (x : TextFault) → ProgramRead K s m m' (Err x) → write_blocks K s o ≡ untouched (number_of x.refusal) x.line o
unfolding ProgramRead
refused-read K s m m' o x h = when-refused K s o (number_of x.refusal) x.line h

-- the first n commands are those of a text
pub record Recovered (K : ℕ) (s : List ℕ) (n : ℕ) (commands : List Command) : Type 0 where
  pub block : Block
  pub reads : read_blocks K s ≡ tree block
  pub few : places block ≤ most_commands
  pub are : command_lines (take n commands) ≡ command_lines (commands_of block)

pub recovered : (K : ℕ) (s m m' : List ℕ) (n : ℕ) (commands : List Command) → ProgramRead K s m m' (Ok n) → n ≤ most_commands → n ≤ length m → Unpacked (take n m') (length (take n m')) commands → Recovered K s n commands
unfolding ProgramRead
recovered K s m m' n commands h small inside u =
    let b = h.0 in
    let few : places b ≤ most_commands = omega (arith, h.2) in
    let p = blocks-packable K s b h.1 few in
    let size : length (take n m') ≡ n = ap length (h.3 inside) ∙ length-map (commands_of b) command_number ∙ omega (arith, h.2, count-is-places b) in
    record {
      block = b;
      reads = h.1;
      few = few;
      are = ap command_lines (rw (← size) (u.are (commands_of b) p (h.3 inside)) ∙ take_all n (commands_of b) (omega (arith, h.2, count-is-places b)));
    }

-- their lines are short
pub recovered-short : {K : ℕ} {s : List ℕ} {n : ℕ} {commands : List Command} → Recovered K s n commands → length (command_lines (take n commands)) < 4294967296
recovered-short {K} {s} h = omega (arith, ap length h.are, blocks-short K s h.block h.reads h.few)

-- and written where they fit, or not at all
pub recovered-written : {K : ℕ} {s : List ℕ} {n : ℕ} {commands : List Command} (h : Recovered K s n commands) {m m' : List ℕ} {k : ℕ} → Put m 0 (command_lines (take n commands)) m' k
    → length (command_lines (take n commands)) ≤ length m → written (record { number = 0; line = 0; bytes = length (command_lines (take n commands)) }) m' ≡ write_blocks K s m
recovered-written {K} {s} {n} {commands} h {m} {m'} {k} p fits =
    let e = h.are in
    let l : length (command_lines (commands_of h.block)) ≤ length m = omega (arith, ap length e, fits) in
    let q = p.memory ∙ placed-front m (command_lines (take n commands)) fits ∙ ap (front m) e in
    ap₂ (λ (x : ℕ) (y : List ℕ). written (record { number = 0; line = 0; bytes = x }) y) (ap length e) q
    ∙ sym (when-fits K s m h.block h.reads h.few l)

pub recovered-lacks : {K : ℕ} {s : List ℕ} {n : ℕ} {commands : List Command} (h : Recovered K s n commands) (m : List ℕ) → length m < length (command_lines (take n commands))
    → write_blocks K s m ≡ untouched 53 0 m
recovered-lacks {K} {s} h m lacks = when-short K s m h.block h.reads h.few (omega (arith, ap length h.are, lacks))
