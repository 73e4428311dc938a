-- A refusal, too little memory, or the lines.
use Rattle.std.proofs.Common.{◌≡◌, ◌∙◌, ◌+◌, ◌<◌, ℕ, List, map, length, take, refl, sym, ap, arith, inl, inr, Result}
use Rattle.model.specs.{Stored.entries_in, Written.written, Written.told}
use Rattle.model.specs.declared.{Entry.Entry, TextFault.TextFault}
use Rattle.model.proofs.Handed.{handed}
use Rattle.model_text.specs.Text.{message_lines}
use Rattle.model_log.specs.{Log.key_count, Log.messages, Log.read_log}
use Rattle.model_log.proofs.Lines.{log-short}
use Rattle.write_text.proofs.Laws.{put_count}
use Rattle.whole_log.proofs.Laws.{log-refused, log-lacks, log-written}
use Rattle.whole_log.proofs.write_log.Goals as goal
use Rattle.whole_log.proofs.write_log.Goals.{After-put_messages-n, In_ok-count}

-- the messages of the export, and that they are what it says
abbrev shown : In_ok-count → List (List Entry)
shown c = map (entries_in key_count) (take c.in_ok-count.count c.read_log.new.messages)

got : (c : In_ok-count) → read_log c.args.log.now ≡ messages (shown c)
got c = sym c.in_ok-count.ensures.read

-- their lines are few
near : (c : In_ok-count) → 0 + length (message_lines (shown c)) < 4294967296
near c = omega (arith, log-short _ (shown c) (got c))

-- and counted
count : (c : After-put_messages-n) → c.put_messages-n.result ≡ length (message_lines (shown (goal.at.After-put_messages-n c).In_ok-count))
count c = put_count c.put_messages-n.ensures

pub returns-in_err-count : goal.returns-in_err-count
returns-in_err-count c =
    ap (λ (r : Result ℕ TextFault). written (told r) c.args.output.now) (handed _ _ c.from_residual.ensures.1)
    ∙ sym (log-refused c.args.log.now c.args.output.now _ _ (sym c.in_err-count.ensures.read))

pub put_messages-n-requires : goal.put_messages-n-requires
put_messages-n-requires c = let t = (goal.at.put_messages-n-requires c).In_ok-count in (omega arith, record { near = near t; fits = inl refl })

pub returns-then-output-n : goal.returns-then-output-n
returns-then-output-n c =
    let p = (goal.at.returns-then-output-n c).After-put_messages-n in
    let t = (goal.at.After-put_messages-n p).In_ok-count in
    let n = count p in
    sym (log-lacks c.args.log.now c.args.output.now (shown t) (got t) (omega arith))

pub put_messages-requires : goal.put_messages-requires
put_messages-requires c =
    let p = (goal.at.put_messages-requires c).After-put_messages-n in
    let n = count p in
    (omega arith, record { near = near (goal.at.After-put_messages-n p).In_ok-count; fits = inr (omega arith) })

pub overflow_cast-result : goal.overflow_cast-result
overflow_cast-result c = let p = (goal.at.overflow_cast-result c).After-put_messages-n in let m = near (goal.at.After-put_messages-n p).In_ok-count in omega (arith, count p)

pub returns : goal.returns
returns c =
    let p = (goal.at.returns c).After-put_messages-n in
    let t = (goal.at.After-put_messages-n p).In_ok-count in
    let n = count p in
    ap (λ (x : ℕ). written (record { number = 0; line = 0; bytes = x }) c.put_messages.new.out) n
    ∙ sym (log-written c.args.log.now c.args.output.now (shown t) (got t) c.put_messages.ensures (omega arith))
