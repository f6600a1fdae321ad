use borrow.Author.Tests.{lt-ltb, le-ltb}
use Rattle.claim_code.proofs.row_of_nexus.Goals as goal

pub returns-then-at-nexuses : goal.returns-then-at-nexuses
returns-then-at-nexuses c = simp (lt-ltb _ _ c.if-at-nexuses.true)

pub returns-else-at-nexuses : goal.returns-else-at-nexuses
returns-else-at-nexuses c = simp (le-ltb _ _ c.if-at-nexuses.false)
