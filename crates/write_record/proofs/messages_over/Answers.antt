-- Of the messages, those from the i-th on are still to make.
use mathlib.Core.Path.{sym, ap, ◌∙◌}
use mathlib.Core.List.{List, []}
use native.Mathlib.Omega.{arith}
use lib.ListN.{get_or}
use Rattle.model.specs.Stored.{entries_in, entry_in}
use Rattle.model.specs.declared.{Entry.Entry, MessageLine.MessageLine}
use Rattle.model_record.specs.declared.MessageRecord.{MessageRecord}
use Rattle.model_record.specs.Record.{message_over}
use Rattle.std.proofs.lemmas.List.{take-map}
use Rattle.write_record.proofs.Laws.{messages-begin, messages-next, messages-end}
use Rattle.write_record.proofs.messages_over.Goals as goal

-- what the code would read behind its arrays
abbrev no_line : MessageLine
no_line = record { slots = [] }

abbrev no_record : MessageRecord
no_record = record { entry_count = 0; entries = [] }

pub loop-i-init : goal.loop-i-init
loop-i-init c = messages-begin _ _

pub loop-i-preserved : goal.loop-i-preserved
loop-i-preserved c =
    let a = c.args in
    let shown = sym (take-map entry_in a.keys (get_or a.lines.now c.loop-i.i no_line).slots) in
    messages-next (entries_in a.keys) a.lines.now c.loop-i.i c.loop-i.records no_line no_record c.message_over.result c.loop-i-test.true (omega (arith, c.loop-i.auto, c.loop-i-test.true, c.requires))
    (c.message_over.ensures ∙ ap (λ (es : List Entry). message_over es (get_or c.loop-i.records c.loop-i.i no_record)) shown) ∙ c.loop-i.invariant

pub returns : goal.returns
returns c =
    sym (messages-end (entries_in c.args.keys) c.args.lines.now c.loop-i.i c.loop-i.records c.loop-i-test.false) ∙ c.loop-i.invariant
