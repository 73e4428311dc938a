-- The word by its place in the table, and the operands as they are.
use Prim.Native.Nat.{ℕ}
use mathlib.Core.Path.{ap₂}
use borrow.Author.Rules.{rules}
use lib.IntN.{ℤ}
use mir.{Syntax.w32, ValLaws.to_z-of_z}
use Rattle.model.specs.declared.Command.{Command}
use Rattle.model_record.specs.declared.CommandRecord.{CommandRecord}
use Rattle.model_record.specs.Record.{command_record}
use Rattle.write_record.proofs.command_record.Goals as goal

-- a command's record with this word and this number
abbrev made : Command → ℕ → ℤ → CommandRecord
made c word n = record { word = word; v = c.v; w = c.w; k = c.k; t = c.t; n = n }

pub returns : goal.returns
unfolding command_record
returns c =
    let b = c in
    let a = b.args.c in
    ap₂ (made a) b.number_of.ensures.0 (to_z-of_z w32 a.n (search rules))
