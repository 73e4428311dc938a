-- The command is kept, and the next line follows; or the line is refused.
use Rattle.std.proofs.Common.{◌≡◌, ◌∙◌, sym, ap, arith, rules, take}
use Rattle.model.specs.{Parsed.got, Refusal.parsed}
use Rattle.model.specs.declared.TextFault.{TextFault}
use Rattle.model_blocks.specs.Dialect.{own_command}
use Rattle.read_command.specs.Command.{parts_after}
use Rattle.read_blocks.specs.Blocks.{OwnRead, fault}
use Rattle.read_blocks.proofs.Words.{own-packable, own-long}
use Rattle.read_blocks.proofs.Items.{exits, mapped_err, mapped_ok, own-fails}
use Rattle.read_blocks.proofs.read_own.Goals as goal
use Rattle.read_blocks.proofs.read_own.Goals.{In_ok-c}

-- the line says a command
said : (c : In_ok-c) → own_command c.args.keys (take c.args.w.end c.args.l.now) (parts_after c.args.w.end c.args.l.now) ≡ got c.in_ok-c.c
said c = sym c.own_command.ensures ∙ ap parsed (mapped_ok _ _ _ c.in_ok-c.ensures.cases c.in_ok-c.ensures.variant)

pub returns-in_err-c : goal.returns-in_err-c
unfolding OwnRead
returns-in_err-c c =
    let h = mapped_err _ _ _ c.in_err-c.ensures.cases c.in_err-c.ensures.variant in
    let e = h.0 in
    let q = h.2 in
    let g : ◌≡◌ {A = TextFault} c.in_err-c.field-0.0 (fault c.args.p e) = search rules in
    exits (OwnRead _ _ _ _ _ _) c.from_residual.ensures.1 (own-fails _ _ _ c.args.p g h.1 c.own_command.ensures)

pub keep-requires : goal.keep-requires
keep-requires c = own-packable _ c.requires.some c.requires.most _ _ (said (goal.at.keep-requires c).In_ok-c)

pub next_line-requires : goal.next_line-requires
next_line-requires c =
    let h = c.requires in
    let l = own-long _ c.args.w.end c.args.l.now _ (said (goal.at.next_line-requires c).In_ok-c) in
    (h.at, omega (arith, h.near, h.at), omega (arith, h.near, h.few, h.at))

pub returns : goal.returns
unfolding OwnRead
returns c = (c.in_ok-c.c, said (goal.at.returns c).In_ok-c, c.next_line.ensures, c.keep.ensures)
