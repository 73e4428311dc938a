-- A refusal, too many commands, too little memory, or the lines.
use Prim.Native.Nat.{ℕ, ◌≤◌}
use mathlib.Core.Path.{◌≡◌, refl, sym, ap, ◌∙◌}
use mathlib.Core.{Logic.inl, Logic.inr}
use native.Mathlib.Omega.{arith}
use lib.ListN.{length, take}
use Rattle.std.specs.Prelude.{Result}
use Rattle.model.specs.{Limits.most_commands, Written.written, Written.told}
use Rattle.model.specs.declared.{Form.Form, TextFault.TextFault}
use Rattle.model.proofs.Handed.{handed}
use Rattle.model_text.specs.Text.{command_lines}
use Rattle.write_text.proofs.Laws.{put_count}
use Rattle.whole_blocks.proofs.Laws.{refused-read, too_many, Recovered, recovered, recovered-short, recovered-written, recovered-lacks}
use Rattle.whole_blocks.proofs.write_blocks.Goals as goal
use Rattle.whole_blocks.proofs.write_blocks.Goals.{After-put_commands-n, After-unpack_all-unpacked, Else-form-count}

-- the point where the count of commands is not too large, and the point where they are unpacked
small : (c : Else-form-count) → c.in_ok-count.count ≤ most_commands
small c = omega (arith, c.if-form-count.false, ap (λ (f : Form). f.commands) c.one-form.ensures)

abbrev Commands : After-unpack_all-unpacked → Type 0
Commands c = Recovered c.args.keys c.args.text.now c.in_ok-count.count c.unpack_all-unpacked.result

commands : (c : After-unpack_all-unpacked) → Commands c
commands c =
    let h = small (goal.at.After-unpack_all-unpacked c).Else-form-count in
    recovered _ _ _ _ _ _ c.in_ok-count.ensures h (omega (arith, h)) c.unpack_all-unpacked.ensures

-- the lines counted
count : (c : After-put_commands-n) → c.put_commands-n.result ≡ length (command_lines (take c.in_ok-count.count c.unpack_all-unpacked.result))
count c = put_count c.put_commands-n.ensures

pub returns-in_err-count : goal.returns-in_err-count
returns-in_err-count c =
    ap (λ (r : Result ℕ TextFault). written (told r) c.args.output.now) (handed _ _ c.from_residual.ensures.1)
    ∙ sym (refused-read _ _ _ _ _ _ c.in_err-count.ensures)

pub returns-then-form-count : goal.returns-then-form-count
returns-then-form-count c =
    sym (too_many _ _ _ _ _ _ c.in_ok-count.ensures (omega (arith, c.if-form-count.true, ap (λ (f : Form). f.commands) c.one-form.ensures)))

pub returns-then-output-n : goal.returns-then-output-n
returns-then-output-n c =
    let h = commands (goal.at.returns-then-output-n c).After-unpack_all-unpacked in
    let n = count (goal.at.returns-then-output-n c).After-put_commands-n in
    sym (recovered-lacks h _ (omega (arith, c.if-output-n.true, n)))

pub returns : goal.returns
returns c =
    let h = commands (goal.at.returns c).After-unpack_all-unpacked in
    let n = count (goal.at.returns c).After-put_commands-n in
    ap (λ (x : ℕ). written (record { number = 0; line = 0; bytes = x }) c.put_commands.new.out) n
    ∙ recovered-written h c.put_commands.ensures (omega (arith, c.if-output-n.false, n))

pub put_commands-n-requires : goal.put_commands-n-requires
put_commands-n-requires c = record { near = omega (arith, recovered-short (commands (goal.at.put_commands-n-requires c).After-unpack_all-unpacked)); fits = inl refl }

pub put_commands-requires : goal.put_commands-requires
put_commands-requires c =
    let u = (goal.at.put_commands-requires c).After-unpack_all-unpacked in
    record { near = omega (arith, recovered-short (commands u)); fits = inr (omega (arith, c.if-output-n.false, count (goal.at.put_commands-requires c).After-put_commands-n)) }

pub overflow_cast-result : goal.overflow_cast-result
overflow_cast-result c = omega (arith, count (goal.at.overflow_cast-result c).After-put_commands-n, recovered-short (commands (goal.at.overflow_cast-result c).After-unpack_all-unpacked))
