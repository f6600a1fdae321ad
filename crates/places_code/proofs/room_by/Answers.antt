use Rattle.places_code.proofs.room_by.Goals as goal

pub returns : goal.returns
returns c = simp (c.free_at.ensures, c.evicting_at.ensures, c.lowest_bit-2.ensures, c.lowest_bit.ensures)
