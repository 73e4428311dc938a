-- A command of the dialect's own is one of document 01's, within its limits, and goes to no target.
use Prim.Native.Nat.{ℕ, ◌≤◌}
use mathlib.Core.Path.{◌≡◌, refl, ap, ◌∙◌}
use mathlib.Core.Bool.{Bool, true, false}
use mathlib.Core.List.{List, []}
use Rattle.model.specs.{Parsed.Parsed, Parsed.got, Parsed.need, Parsed.◌>>=◌, Parsed.◌>>◌, Text.bytes, Text.same}
use Rattle.model.specs.Parsed as Parsed
use Rattle.model.specs.{Command.Row, Command.table, Command.row_of, Command.by_row, Command.limits, Accepted.Within, Accepted.Bare}
use Rattle.model.specs.declared.{Op.Op, Command.Command}
use Rattle.model.proofs.{Accepted.row-command, Parsed.never}
use Rattle.model_blocks.specs.{Block.way_of, Block.allowed, Dialect.own_command}

-- what a command of the dialect's own is
pub record OwnOf (K : ℕ) (c : Command) : Type 0 where
  pub stays : allowed (way_of c.op) ≡ true
  pub within : Within K 0 c
  pub bare : Bare c

pub own_of : (K : ℕ) → 1 ≤ K → (w : List ℕ) (ps : List (List ℕ)) (c : Command) → own_command K w ps ≡ got c → OwnOf K c
unfolding own_command
own_of K keyed w ps c e = go (row_of table w) refl e
  where
    further : (r : Row) → row_of table w ≡ got r → (t : Bool) → allowed (way_of r.op) ≡ t → (need t 6 >> by_row (limits K 0) r.op r.parts ps) ≡ got c → OwnOf K c
    further r q true a e =
        let h = row-command (limits K 0) keyed w r ps c q e in
        record { stays = ap (λ (o : Op). allowed (way_of o)) h.0 ∙ a; within = h.1.0; bare = h.1.1 }
    further r q false a e = never e

    go : (x : Parsed Row) → row_of table w ≡ x → (x >>= (λ r. need (allowed (way_of r.op)) 6 >> by_row (limits K 0) r.op r.parts ps)) ≡ got c → OwnOf K c
    go (got r) q e = further r q (allowed (way_of r.op)) refl e
    go (Parsed.refused n) q e = never e

-- no command is empty
pub own-empty : (K : ℕ) (ps : List (List ℕ)) → own_command K [] ps ≡ Parsed.refused 6
unfolding own_command row_of table same bytes
own-empty K ps = refl
