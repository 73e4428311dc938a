-- The memory with the digits that are still to write in it is the memory that is to be left.
use Rattle.write_text.proofs.spell.Invariants.{todo}
use native.Mathlib.{Omega.arith, Nat.le_of_suc-le-suc, Nat.not-suc-le-zero, Nat.add-suc, Nat.add-zero}
use mathlib.Core.Path.{◌≡◌, refl, sym, ap, ◌∙◌}
use mathlib.Core.List.{List, [], ◌∷◌, ◌++◌}
use Prim.Native.Nat.{ℕ, zero, suc, ◌+◌, ◌-◌, ◌/◌, ◌%◌, ◌≤◌, ◌<◌}
use lib.{ListN.length, ListN.take, ListN.drop, ListN.set, ListN.take-append-drop, Seq.take-set-le, Seq.append_snoc}
use Rattle.model.specs.{Text.zero_digit, Decimal.digits}
use Rattle.model.proofs.{Placed.placed-between, Decimal.digits-length}
use Rattle.write_text.proofs.spell.Goals as goal

drop-stored : (t : List ℕ) (j g : ℕ) → j < length t → drop j (set t j g) ≡ g ∷ drop (suc j) t
drop-stored [] j g h = absurd (not-suc-le-zero h)
drop-stored (x ∷ xs) zero g h = refl
drop-stored (x ∷ xs) (suc j) g h = drop-stored xs j g (le_of_suc-le-suc h)

step : (at j rest : ℕ) (out : List ℕ) → at + j < length out → todo at (set out (at + j) (zero_digit + rest % 10)) j (rest / 10) ≡ todo at out (suc j) rest
unfolding digits
step at j rest out h =
    let le : at ≤ at + j = omega arith in
    rw (take-set-le at out (at + j) (zero_digit + rest % 10) le, drop-stored out (at + j) (zero_digit + rest % 10) h, append_snoc, add-suc)

pub loop-i-preserved : goal.loop-i-preserved
loop-i-preserved c =
    let l = c.loop-i in
    let at = c.args.at in
    let whole : suc (l.i - 1) ≡ l.i = omega arith in
    step at (l.i - 1) l.rest l.out (omega arith) ∙ ap (λ (m : ℕ). todo at l.out m l.rest) whole ∙ l.invariant

pub returns : goal.returns
unfolding digits
returns c =
    let l = c.loop-i in
    let a = c.args in
    let at = a.at in
    let none : l.i ≡ 0 = omega arith in
    let size = digits-length a.width a.n in
    sym (take-append-drop at l.out)
    ∙ ap (λ (m : ℕ). take at l.out ++ drop m l.out) (sym (add-zero at))
    ∙ ap (λ (m : ℕ). todo at l.out m l.rest) (sym none)
    ∙ l.invariant
    ∙ ap (λ (m : ℕ). take at a.out.now ++ (digits a.width a.n ++ drop (at + m) a.out.now)) (sym size)
    ∙ sym (placed-between a.out.now at (digits a.width a.n) (omega arith))
