use Rattle.places_16.proofs.take_page.Goals as goal

pub returns-then-page : goal.returns-then-page
returns-then-page c = simp (c.if-page.true, c.supplement.ensures)

pub returns : goal.returns
returns c = simp (c.if-page.false, c.sender_after.ensures, c.act_page.ensures)
