use Rattle.std.proofs.Common.{le-leb}
use borrow.Author.Tests.{lt-leb}
use Rattle.places_code.proofs.append.Goals as goal

pub returns-then-keys-ge-SUPPLEMENTAL_MOST : goal.returns-then-keys-ge-SUPPLEMENTAL_MOST
returns-then-keys-ge-SUPPLEMENTAL_MOST c = simp (le-leb _ _ c.if-keys-ge-SUPPLEMENTAL_MOST.true)

pub returns : goal.returns
returns c = simp (lt-leb _ _ c.if-keys-ge-SUPPLEMENTAL_MOST.false, c.put.ensures)
