use Rattle.status_code.proofs.status_head.Goals as goal

pub returns : goal.returns
returns c = simp (c.four-number.ensures, c.joined_4.ensures, c.joined_12.ensures)
