use mathlib.Core.Path.{◌≡◌, refl, sym, ap₂, subst, ◌∙◌}
use mathlib.Core.List.{List}
use Prim.Native.Nat.{ℕ}
use Rattle.text.specs.Puts.{Put}
use Rattle.sizes_16.specs.Sizes.{nexus_count, place_count}
use Rattle.recording.specs.Entries.{calls}
use Rattle.recording.specs.declared.Verdict.TheVariants.{RecordingWrong, RateAbove}
use Rattle.session_16.specs.Sessions.{start}
use Rattle.claim.specs.declared.Row.{Row}
use Rattle.claim.specs.Writes.{writes_from}
use Rattle.claim.specs.Rows.{rows_of}
use Rattle.claim.specs.Lines.{claim_lines}
use Rattle.claim.specs.Files.{claim_text, file_rows}
use Rattle.claim.proofs.Claiming.{wrong_first, rate-above, claim-taken, claims-refused, claims-done, claim-fits}
use Rattle.claim_16.proofs.claim.Goals as goal

pub returns-then-not-is_sound_file : goal.returns-then-not-is_sound_file
unfolding claim_text
returns-then-not-is_sound_file c =
    let a = c.args in
    let file = a.file.now in
    claims-refused nexus_count place_count a.rate file a.out.now RecordingWrong (wrong_first a.rate file (sym c.is_sound_file.ensures ∙ c.if-not-is_sound_file.true)) refl

pub returns-then-rate-gt-RATE_MOST : goal.returns-then-rate-gt-RATE_MOST
unfolding claim_text
returns-then-rate-gt-RATE_MOST c =
    let a = c.args in
    let file = a.file.now in
    claims-refused nexus_count place_count a.rate file a.out.now RateAbove (rate-above a.rate file (sym c.is_sound_file.ensures ∙ c.if-not-is_sound_file.false) c.if-rate-gt-RATE_MOST.true) refl

pub put_claim-requires : goal.put_claim-requires
unfolding claim_text
put_claim-requires c =
    let a = c.args in
    let f = claim-fits nexus_count start c.events_of.result.now c.pages_of.result.now a.rate c.events_of.ensures.1 c.if-rate-gt-RATE_MOST.false c.tally-rows.ensures in
    (f.writes, f.amount)

pub returns : goal.returns
unfolding claim_text
returns c =
    let a = c.args in
    let file = a.file.now in
    let p = c.put_claim in
    -- the rows are the file's
    let rows : c.tally-rows.result ≡ file_rows nexus_count place_count file =
    c.tally-rows.ensures ∙ ap₂ (λ (e p : List ℕ). rows_of nexus_count (writes_from start (calls e p))) c.events_of.ensures.0 c.pages_of.ensures in
    claims-done nexus_count place_count a.rate file a.out.now (claim-taken a.rate file (sym c.is_sound_file.ensures ∙ c.if-not-is_sound_file.false) c.if-rate-gt-RATE_MOST.false)
    (subst (λ (r : List Row). Put a.out.now 0 (claim_lines a.rate r) p.result p.new.out) rows p.ensures)
