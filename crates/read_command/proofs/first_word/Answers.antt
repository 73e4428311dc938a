-- The bytes before i hold no space, and make a where they are not too many.
use Rattle.std.proofs.Common.{◌≡◌, ◌≤◌, ◌∙◌, ℕ, List, sym, ap, arith, length, take}
use Rattle.model.specs.Text.{find, space}
use Rattle.model_text.proofs.TextLaws.{find-here, find-next, find-end}
use Rattle.read_command.specs.Code.{longest_word, with_count, code_of}
use Rattle.read_command.proofs.Words.{Packed, packed_none, packed-next, code_at}
use Rattle.read_command.proofs.first_word.Goals as goal

-- the word ends at i
ends : (s : List ℕ) (i a end code : ℕ) → i ≤ length s → (i ≤ longest_word → Packed s i a) → i ≡ find space s
    → (end ≡ i) × (code ≡ with_count a i) → (end ≡ find space s) × (code ≡ code_of (take end s))
ends s i a end code h p f r = (r.0 ∙ f, r.1 ∙ code_at s i a h p ∙ ap (λ (n : ℕ). code_of (take n s)) (sym r.0))

pub loop-i-init : goal.loop-i-init
loop-i-init c = (omega arith, omega arith, λ m. packed_none _)

pub loop-i-preserved : goal.loop-i-preserved
loop-i-preserved c =
    let s = c.args.s.now in
    let l = c.loop-i in
    let t = c.loop-i-test.true in
    let b = c.type_inv.s l.i in
    let f = find-next space s l.i t c.if-b-eq32.false in
    (omega arith, omega arith, λ m. rw c.from.ensures (packed-next s l.i l.a t (omega arith) l.invariant.2 m))

pub returns-then-b-eq32 : goal.returns-then-b-eq32
returns-then-b-eq32 c =
    let s = c.args.s.now in
    let l = c.loop-i in
    let f = find-here space s l.i c.loop-i-test.true c.if-b-eq32.true in
    ends s l.i l.a _ _ l.auto.i-end l.invariant.2 (omega arith) c.word_at.ensures

pub returns : goal.returns
returns c =
    let s = c.args.s.now in
    let l = c.loop-i in
    let i : l.i ≡ length s = omega arith in
    let f = find-end space s l.i c.loop-i-test.false in
    ends s (length s) l.a _ _ (omega arith) (λ m. rw (← i) (l.invariant.2 (omega arith))) (omega arith) c.word_at-2.ensures
