-- The phase of one line, with the letters that it holds, and then the end of the text.
use Rattle.std.proofs.Common.{◌≡◌, ◌≤◌, ◌+◌, ◌∙◌, sym, ap, arith, Err, length}
use Rattle.std.proofs.lemmas.Result.{IfOk-at_ok}
use Rattle.model.specs.Refusal.{parsed_by}
use Rattle.model.proofs.Handed.{handed}
use Rattle.model_text.proofs.TextLaws.{rest}
use Rattle.read_line.proofs.Laws.{one-other, one-bad, one_ok, read-faulted, refused-faulted}
use Rattle.read_turns.specs.Turns.{turns_in}
use Rattle.read_turns.proofs.Laws.{turns-word, last-refused, last_more, last_none}
use Rattle.read_turns.proofs.read_turns.Goals as goal

pub returns-in_default : goal.returns-in_default
returns-in_default c = record { read = last-refused _ _ (one-other turns-word c.first_line.ensures _ (turns_in c.args.letters.now) c.in_default.is); few = tt }

pub returns-in_err-count : goal.returns-in_err-count
returns-in_err-count c =
    let q = refused-faulted _ _ _ c.in_err-count.ensures in
    let b = sym c.copy_letters.ensures.read ∙ ap (parsed_by (turns_in c.copy_letters.new.letters)) q.1 in
    rw (handed _ _ c.from_residual.ensures.1 ∙ ap Err q.2) (record { read = last-refused _ _ (one-bad turns-word c.first_line.ensures _ (turns_in c.copy_letters.new.letters) c.in-Some.is b); few = tt })

pub returns-then-find_byte-rest : goal.returns-then-find_byte-rest
returns-then-find_byte-rest c =
    let b = sym c.copy_letters.ensures.read ∙ ap (parsed_by (turns_in c.copy_letters.new.letters)) (read-faulted _ _ _ c.in_ok-count.ensures) in
    let h = one_ok turns-word c.first_line.ensures _ (turns_in c.copy_letters.new.letters) c.in-Some.is b in
    record { read = last_more _ _ h _ (rest c.args.s.now (c.in-Some.e + 1)) _ c.find_byte.ensures c.if-find_byte-rest.true; few = tt }

pub returns : goal.returns
returns c =
    let q = read-faulted _ _ _ c.in_ok-count.ensures in
    let b = sym c.copy_letters.ensures.read ∙ ap (parsed_by (turns_in c.copy_letters.new.letters)) q in
    let h = one_ok turns-word c.first_line.ensures _ (turns_in c.copy_letters.new.letters) c.in-Some.is b in
    record {
      read = last_none _ _ h _ (rest c.args.s.now (c.in-Some.e + 1)) _ c.find_byte.ensures c.if-find_byte-rest.false;
      few = IfOk-at_ok (λ n. n ≤ length c.copy_letters.new.letters) q c.copy_letters.ensures.few;
    }
