use mathlib.Core.Path.{◌≡◌, refl, sym, ap, ◌∙◌}
use mathlib.Core.Bool.{true, false}
use mathlib.Core.List.{List}
use Prim.Native.Nat.{ℕ}
use lib.Dec.{lit<}
use native.Mathlib.Omega.{arith}
use Rattle.wire.specs.Buffers.{shown}
use Rattle.device.specs.Words.{with_words}
use Rattle.device.proofs.WellFormed.{power-on-well}
use Rattle.places.proofs.Lengths.{power-places, power-nexuses}
use Rattle.drive.specs.Calls.{Call}
use Rattle.sizes_16.specs.Sizes.{nexus_count, place_count}
use Rattle.device_16.specs.Model.{record_of}
use Rattle.recording.specs.Files.{sound_file, calls_of}
use Rattle.session.specs.Answers.{answer_bytes}
use Rattle.session.specs.Records.{answer_bytes_of}
use Rattle.session.proofs.Records.{formed-answers}
use Rattle.kept.proofs.Records.{words-since-power-on}
use Rattle.session_16.specs.Sessions.{start}
use Rattle.session_16.proofs.Sessions.{gives-refused, gives-done}
use Rattle.session_16.proofs.replay.Goals as goal

-- the answers since power-on
from_start : (made : List Call) → answer_bytes_of (with_words start) made ≡ answer_bytes start made
from_start made = formed-answers start made (omega (arith, power-nexuses nexus_count place_count)) (omega (arith, power-places nexus_count place_count)) (power-on-well nexus_count place_count (λ h. lit< tt))

pub returns-then-not-is_sound_file : goal.returns-then-not-is_sound_file
returns-then-not-is_sound_file c =
    let file = c.args.file.now in
    let e : sound_file file ≡ false = sym c.is_sound_file.ensures ∙ c.if-not-is_sound_file.true in
    gives-refused start (calls_of file) c.args.out.now (simp e) refl c.power_on-start.ensures

pub returns : goal.returns
returns c =
    let t = c in
    let file = t.args.file.now in
    let e : sound_file file ≡ true = sym t.is_sound_file.ensures ∙ c.if-not-is_sound_file.false in
    let made = calls_of file in
    let r = simp (c.pages_of.ensures, c.events_of.ensures.0, t.power_on-start.ensures) at c.run-after.ensures in
    gives-done start made t.args.out.now (simp e)
    (r.0 ∙ ap record_of (words-since-power-on nexus_count place_count (lit< tt) (lit< tt) made))
    (r.1 ∙ ap (λ (l : List ℕ). shown l t.args.out.now) (from_start made))
