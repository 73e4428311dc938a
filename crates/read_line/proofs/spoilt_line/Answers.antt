-- A text that ends with a line feed and has no forbidden byte has no fault; of any other the line is found byte by byte.
use mathlib.Core.Path.{sym, ◌∙◌}
use mathlib.Core.Bool.{not}
use lib.{Dec.leb, ListN.length}
use borrow.Author.Tests.{not-true}
use Rattle.model_text.specs.Found.{forbids}
use Rattle.model_text.proofs.TextLaws.{and_both, allowed-line, spoilt-none}
use Rattle.read_line.proofs.spoilt_line.Goals as goal

pub returns-then-all_allowed : goal.returns-then-all_allowed
returns-then-all_allowed c =
    let s = c.args.s.now in
    let e = and_both (leb 16 (length s)) (not (forbids s)) (sym c.all_allowed.ensures ∙ c.if-all_allowed.true) in
    sym (spoilt-none s (allowed-line 1 s (not-true _ e.1)) (sym c.is_closed.ensures ∙ c.if-is_closed.true))
