use Rattle.recording.specs.Entries.{sound}
use Rattle.recording_code.proofs.is_sound.Goals as goal

pub returns : goal.returns
unfolding sound
returns c = simp (c.page_room.ensures, c.form_of-form.ensures)
