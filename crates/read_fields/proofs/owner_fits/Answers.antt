-- Where owners are named, and where not.
use borrow.Author.Rules.{rules}
use Rattle.read_fields.proofs.owner_fits.Goals as goal

pub returns-then-owners : goal.returns-then-owners
returns-then-owners c = rw c.if-owners.true

pub returns : goal.returns
returns c = rw c.if-owners.false
