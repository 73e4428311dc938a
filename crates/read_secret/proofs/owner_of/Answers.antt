-- One byte, and which.
use Rattle.std.proofs.Common.{◌≡◌, sym, arith, get_or, length}
use borrow.Author.Tests.{eq-eqb, ne_eqb}
use Rattle.read_secret.proofs.Laws.{owner-long, owner-one}
use Rattle.read_secret.proofs.owner_of.Goals as goal

pub returns-in-A : goal.returns-in-A
returns-in-A c = let s = c.args.s.now in let a : get_or s 0 0 ≡ 65 = omega arith in rw (owner-one s (omega arith), eq-eqb _ _ a)

pub returns-in-B : goal.returns-in-B
returns-in-B c = let s = c.args.s.now in let b : get_or s 0 0 ≡ 66 = omega arith in rw (owner-one s (omega arith), ne_eqb (get_or s 0 0) 65 (λ e. omega arith), eq-eqb _ _ b)

pub returns-in_default : goal.returns-in_default
returns-in_default c = sym (owner-long _ (λ e. omega arith))

pub returns-in_default-2 : goal.returns-in_default-2
returns-in_default-2 c = let s = c.args.s.now in rw (owner-one s (omega arith), ne_eqb (get_or s 0 0) 65 (λ e. omega arith), ne_eqb (get_or s 0 0) 66 (λ e. omega arith))

pub returns-in_default-3 : goal.returns-in_default-3
returns-in_default-3 c = sym (owner-long _ (λ e. omega arith))
