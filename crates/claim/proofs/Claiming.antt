-- What a claim gives, by its verdict.
-- Assumes nothing.
use Prim.Native.Nat.{ℕ, ◌*◌, ◌^◌, ◌≤◌, ◌<◌}
use mathlib.Core.Path.{◌≡◌, sym, ap, ◌∙◌}
use mathlib.Core.Bool.{true, false}
use mathlib.Core.List.{List, [], ◌++◌}
use Rattle.std.specs.Prelude.{Ok, Err}
use native.Mathlib.Omega.{arith}
use native.Mathlib.Nat.{mul-le-mul}
use borrow.Author.Tests.{le-leb, lt-leb}
use lib.ListN.{length}
use lib.Seq.{take-nil}
use Rattle.arrays.proofs.Base.{if-true, if-false}
use Rattle.wire.specs.Buffers.{shown}
use Rattle.wire.proofs.Stores.{sets-shown}
use Rattle.text.specs.Puts.{Put}
use Rattle.device.specs.Record.{State, power_on}
use Rattle.recording.specs.Verdicts.{is_taken}
use Rattle.recording.specs.Entries.{calls}
use Rattle.recording.specs.Files.{sound_file, event_bytes, page_bytes, calls_of}
use Rattle.recording.specs.declared.Verdict.{Verdict}
use Rattle.recording.specs.declared.Verdict.TheVariants.{Done, RecordingWrong, RateAbove}
use Rattle.recording.proofs.Entries.{length-calls}
use Rattle.recording.proofs.Files.{sound-header, length-events}
use Rattle.wire.proofs.Bytes.{Below}
use Rattle.claim.specs.Lines.{amount_of}
use Rattle.claim.specs.declared.Row.{Row}
use Rattle.claim.specs.Writes.{writes_from}
use Rattle.claim.specs.Rows.{rows_of, totals, writes_in}
use Rattle.claim.specs.Files.{rate_most, claim_verdict, claim_text, claim_printed, Claims, file_writes, file_rows}
use Rattle.claim.proofs.Sums.{rows-sum}
use Rattle.claim.proofs.Sessions.{writes-few}

-- ---- the verdict

module _ (rate : ℕ) (file : List ℕ) where
  -- 22 for a file that isn't sound, whatever the rate
  pub wrong_first : sound_file file ≡ false → claim_verdict rate file ≡ RecordingWrong
  unfolding claim_verdict
  wrong_first f = if-false (sound_file file) _ _ f

  -- then 23 for a rate above the most
  pub rate-above : sound_file file ≡ true → rate_most < rate → claim_verdict rate file ≡ RateAbove
  unfolding claim_verdict
  rate-above t h = if-true (sound_file file) _ _ t ∙ if-false _ _ _ (lt-leb rate rate_most h)

  -- any other is taken
  pub claim-taken : sound_file file ≡ true → rate ≤ rate_most → claim_verdict rate file ≡ Done
  unfolding claim_verdict
  claim-taken t h = if-true (sound_file file) _ _ t ∙ if-true _ _ _ (le-leb rate rate_most h)

-- ---- the text

module _ (nexuses places rate : ℕ) (file : List ℕ) where
  -- of a refused one nothing is printed
  pub nothing-printed : {verdict : Verdict} → claim_verdict rate file ≡ verdict → is_taken verdict ≡ false → claim_printed nexuses places rate file ≡ []
  unfolding claim_printed
  nothing-printed e f = if-false (is_taken (claim_verdict rate file)) _ _ (ap is_taken e ∙ f)

  pub all-printed : claim_verdict rate file ≡ Done → claim_printed nexuses places rate file ≡ claim_text nexuses places rate file
  unfolding claim_printed
  all-printed e = if-true (is_taken (claim_verdict rate file)) _ _ (ap is_taken e)

  module _ (buffer : List ℕ) where
    -- a refused claim leaves the buffer
    pub claims-refused : (verdict : Verdict) → claim_verdict rate file ≡ verdict → is_taken verdict ≡ false → Claims nexuses places rate file buffer (Err verdict) buffer
    claims-refused verdict e f =
        let none = nothing-printed e f in
        record {
          claimed = sym (if-false (is_taken (claim_verdict rate file)) _ _ (ap is_taken e ∙ f) ∙ ap (λ v. Err v) e);
          told = ap (λ (l : List ℕ). l ++ buffer) (sym (take-nil (length buffer))) ∙ ap (λ t. shown t buffer) (sym none);
        }

    -- any other is put
    pub claims-done : claim_verdict rate file ≡ Done → {end : ℕ} {after : List ℕ} → Put buffer 0 (claim_text nexuses places rate file) end after
        → Claims nexuses places rate file buffer (Ok end) after
    claims-done e {end} p =
        let all = all-printed e in
        let l : end ≡ length (claim_text nexuses places rate file) = omega (arith, p.tells) in
        record {
          claimed = ap (λ n. Ok n) (l ∙ ap length (sym all)) ∙ sym (if-true (is_taken (claim_verdict rate file)) _ _ (ap is_taken e));
          told = p.holds ∙ sets-shown (claim_text nexuses places rate file) buffer ∙ ap (λ t. shown t buffer) (sym all);
        }

-- ---- no sum and no amount overflows

-- the rows of a session whose events have fewer than 65,536 bytes
pub record Fits (rate : ℕ) (rows : List Row) : Type 0 where
  pub writes : writes_in (totals rows) < 2 ^ 64
  pub amount : (totals rows).encrypted * rate < 2 ^ 64

pub claim-fits : (nexuses : ℕ) (s : State) (events pages : List ℕ) (rate : ℕ) → length events < 65536 → rate ≤ rate_most → {rows : List Row} → rows ≡ rows_of nexuses (writes_from s (calls events pages)) → Fits rate rows
claim-fits nexuses s events pages rate h r {rows} e =
    let sum = ap (λ x. writes_in (totals x)) e ∙ rows-sum nexuses (writes_from s (calls events pages)) in
    let few : writes_in (totals rows) ≤ 8191 = omega (arith, sum, writes-few s (calls events pages), length-calls pages events, h) in
    let encrypted : (totals rows).encrypted ≤ 8191 = omega (arith, few) in
    let most : (totals rows).encrypted * rate ≤ 8191 * 1000000 = mul-le-mul encrypted r in
    record { writes = omega (arith, few); amount = omega (arith, most) }

-- Every sound file of bytes has at most 8,190 writes, so an amount at a rate that is taken is at most 8,190,000,000 pence.
pub amount-most : (nexuses places rate : ℕ) (file : List ℕ) → Below file → sound_file file ≡ true → rate ≤ rate_most → amount_of rate (totals (file_rows nexuses places file)) ≤ 8190000000
amount-most nexuses places rate file bytes sound r =
    let h = sound-header file sound in
    let sum = rows-sum nexuses (file_writes nexuses places file) in
    let few : writes_in (totals (file_rows nexuses places file)) ≤ 8190 =
    omega (arith, sum, writes-few (power_on nexuses places) (calls_of file), length-calls (page_bytes file) (event_bytes file), length-events file h, h.whole, h.counted, h.within, bytes 6, bytes 7) in
    let encrypted : (totals (file_rows nexuses places file)).encrypted ≤ 8190 = omega (arith, few) in
    mul-le-mul encrypted r
