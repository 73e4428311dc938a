-- B by its letter, and A else.
use borrow.Author.Tests.{eq-eqb, ne_eqb}
use Rattle.read_fields.proofs.owner_of.Goals as goal

pub returns-then-owner-eq-OWNER_B : goal.returns-then-owner-eq-OWNER_B
returns-then-owner-eq-OWNER_B c = simp (eq-eqb _ _ c.if-owner-eq-OWNER_B.true)

pub returns : goal.returns
returns c = simp (ne_eqb _ _ c.if-owner-eq-OWNER_B.false)
