use Prim.Native.Nat.{ℕ, ◌*◌, ◌≤◌, ◌<◌}
use mathlib.Core.Path.{◌≡◌, sym, ap, ap₂, ◌∙◌}
use mathlib.Core.Bool.{true}
use mathlib.Core.List.{List}
use native.Mathlib.Omega.{arith}
use lib.ListN.{length, take}
use Rattle.sizes_16.specs.Sizes.{nexus_count, place_count}
use Rattle.recording.specs.Entries.{calls}
use Rattle.recording.specs.Files.{header, event_bytes, page_bytes, sound_file}
use Rattle.recording.specs.declared.Entry.{Entry}
use Rattle.recording.specs.declared.Header.{Header}
use Rattle.recording.specs.declared.Verdict.TheVariants.{Done}
use Rattle.recording.proofs.Entries.{calls-take}
use Rattle.recording.proofs.Files.{sound-header, length-events}
use Rattle.why.specs.Causes.{cause_of}
use Rattle.why.specs.Reasons.{event_at, reason_by}
use Rattle.why.proofs.Reasons.{why-wrong, why-above, why-taken}
use Rattle.why_16.proofs.why.Goals as goal

pub returns-then-not-is_sound_file : goal.returns-then-not-is_sound_file
returns-then-not-is_sound_file c =
    let a = c.args in
    c.refuse.ensures ∙ why-wrong nexus_count place_count a.file.now a.events a.nexus a.supported (sym c.is_sound_file.ensures ∙ c.if-not-is_sound_file.true)

pub returns-then-header_of-events : goal.returns-then-header_of-events
returns-then-header_of-events c =
    let a = c.args in
    let above : (header a.file.now).event_count < a.events = omega (arith, ap (λ (h : Header). h.event_count) c.header_of.ensures, c.if-header_of-events.true) in
    c.refuse-then-header_of-events.ensures
    ∙ why-above nexus_count place_count a.file.now a.events a.nexus a.supported (sym c.is_sound_file.ensures ∙ c.if-not-is_sound_file.false) above

pub returns : goal.returns
returns c =
    let a = c.args in
    let file = a.file.now in
    let all = c.events_of-all.ensures.0 in
    let cause = c.cause_after-cause in
    let sound : sound_file file ≡ true = sym c.is_sound_file.ensures ∙ c.if-not-is_sound_file.false in
    let counted : a.events ≤ (header file).event_count = omega (arith, ap (λ (h : Header). h.event_count) c.header_of.ensures, c.if-header_of-events.false) in
    let held : 8 * a.events ≤ length (event_bytes file) = omega (arith, counted, length-events file (sound-header file sound)) in
    let first = c.part-first.ensures ∙ ap (λ (l : List ℕ). take (8 * a.events) l) all in
    let caused = cause.ensures
    ∙ ap₂ (λ (e p : List ℕ). cause_of nexus_count place_count a.nexus a.supported (calls e p)) first c.pages_of.ensures
    ∙ ap (cause_of nexus_count place_count a.nexus a.supported) (calls-take (page_bytes file) a.events (event_bytes file) held) in
    let event = c.event_at-e.ensures ∙ ap (λ (l : List ℕ). event_at l cause.result.touch.at) all in
    ap (λ (e : Entry). record { verdict = Done; cause = cause.result; kind = e.kind; nexus = e.nexus }) event
    ∙ ap (reason_by (event_bytes file)) caused
    ∙ why-taken nexus_count place_count file a.events a.nexus a.supported sound counted
