-- Another start, no line feed, or the line: the three cases of a text's first line.
use mathlib.Core.Path.{◌∙◌, sym, ap}
use native.Mathlib.Omega.{arith}
use lib.ListN.{length, length-drop}
use Rattle.model_text.proofs.TextLaws.{rest, starts-length}
use Rattle.read_line.proofs.Laws.{headed-other, headed-short, headed-at}
use Rattle.read_line.proofs.first_line.Goals as goal

pub returns-then-u-e : goal.returns-then-u-e
returns-then-u-e c =
    let n = c in
    let a = n.args in
    let h = sym n.starts_with.ensures ∙ n.if-not-starts_with.false in
    record { line = λ w W. sym (headed-short W _ h _ (rest a.t.now (length a.name.now)) _ c.find_byte-e.ensures c.if-u-e.true); feed = tt }

pub returns : goal.returns
returns c =
    let n = c in
    let a = n.args in
    let d = rest a.t.now (length a.name.now) in
    let h = sym n.starts_with.ensures ∙ n.if-not-starts_with.false in
    let k = starts-length _ _ h in
    let m = ap length d ∙ length-drop (length a.name.now) a.t.now in
    record { line = λ w W. sym (headed-at W _ h _ d _ c.find_byte-e.ensures c.if-u-e.false); feed = (omega arith, omega arith) }

pub returns-then-not-starts_with : goal.returns-then-not-starts_with
returns-then-not-starts_with c = record { line = λ w W. sym (headed-other W _ (sym c.starts_with.ensures ∙ c.if-not-starts_with.true)); feed = tt }

pub slice_bounds-u-count : goal.slice_bounds-u-count
slice_bounds-u-count c = starts-length _ _ (sym c.starts_with.ensures ∙ c.if-not-starts_with.false)

pub slice_bounds-u-start : goal.slice_bounds-u-start
slice_bounds-u-start c = starts-length _ _ (sym c.starts_with.ensures ∙ c.if-not-starts_with.false)
