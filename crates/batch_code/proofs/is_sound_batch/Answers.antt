use Prim.Native.Nat.{◌%◌}
use mathlib.Core.Path.{ap}
use mathlib.Core.Bool.{Bool, ◌&&◌}
use lib.Dec.{eqb}
use lib.ListN.{length}
use Rattle.recording.proofs.Entries.{run-told}
use Rattle.batch_code.proofs.is_sound_batch.Goals as goal

pub returns : goal.returns
returns c =
    let a = c.args in
    simp c.sound_run.ensures (ap (λ (b : Bool). eqb (length a.events.now % 8) 0 && b) (run-told (length a.pages.now) a.events.now))
