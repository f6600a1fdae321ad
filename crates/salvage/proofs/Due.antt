-- When a file can be salvaged: 21 is due where document 02 says, and nowhere else.
-- Assumes nothing.
use Prim.Native.Nat.{ℕ, ◌-◌, ◌/◌, ◌%◌, ◌≤◌}
use mathlib.Core.Path.{◌≡◌, ap}
use mathlib.Core.Bool.{true, false, ◌&&◌, and-false}
use mathlib.Core.List.{List, [], ◌∷◌}
use native.Mathlib.Omega.{arith}
use lib.Dec.{leb, eqb}
use lib.ListN.{length}
use borrow.Author.Tests.{leb-true, eqb-true, le-leb, eq-eqb}
use Rattle.arrays.proofs.Base.{cases, if-true, if-false, each_holds}
use Rattle.recording.specs.Verdicts.{verdict_number}
use Rattle.recording.specs.Files.{header}
use Rattle.salvage.specs.declared.Salvaged.{Salvaged}
use Rattle.salvage.specs.Salvage.{is_salvageable, reported}
use Rattle.salvage.specs.Saved.{Salvageable, SalvageDue, NotSaved}

module _ (file : List ℕ) where
  pub salvageable-told : is_salvageable file ≡ true → Salvageable file
  unfolding is_salvageable
  salvageable-told h =
      let n = length file in
      let from = (header file).pages_from in
      let e = each_holds (leb 8 n) (leb n 65535 ∷ leb 8 from ∷ eqb ((from - 8) % 8) 0 ∷ leb from n ∷ []) h in
      let least = leb-true 8 from e.1.1.0 in
      let whole = eqb-true ((from - 8) % 8) 0 e.1.1.1.0 in
      record {
        small = leb-true n 65535 e.1.0;
        events = (from - 8) / 8;
        counted = omega (arith, least, whole);
        within = leb-true from n e.1.1.1.1.0;
      }

  pub told-salvageable : Salvageable file → is_salvageable file ≡ true
  unfolding is_salvageable
  told-salvageable w =
      let n = length file in
      let from = (header file).pages_from in
      let least : 8 ≤ from = omega (arith, w.counted) in
      let whole : (from - 8) % 8 ≡ 0 = omega (arith, w.counted) in
      simp (le-leb 8 n (omega (arith, least, w.within)), le-leb n 65535 w.small, le-leb 8 from least, eq-eqb ((from - 8) % 8) 0 whole, le-leb from n w.within)

  -- Of what can't be salvaged nothing is reported but 21, and nothing is written.
  pub not_saved : (Salvageable file → ⊥) → NotSaved file
  not_saved never =
      let f : is_salvageable file ≡ false = cases (is_salvageable file) (λ t. absurd (never (salvageable-told t))) (λ f. f) in
      record { reports = if-false (is_salvageable file) _ _ f; writes = λ buffer. if-false (is_salvageable file) _ _ f }

  refused : (Salvageable file → ⊥) → verdict_number (reported file).verdict ≡ 21
  refused never = ap (λ (r : Salvaged). verdict_number r.verdict) (not_saved never).reports

  pub salvage-due : SalvageDue file
  salvage-due = record {
    short = λ h. refused (λ w. omega (arith, h, w.counted, w.within));
    long = λ h. refused (λ w. omega (arith, h, w.small));
    between = λ never. refused (λ w. never w.events w.counted);
    past = λ h. refused (λ w. omega (arith, h, w.within));
    done = λ w. ap (λ (r : Salvaged). verdict_number r.verdict) (if-true (is_salvageable file) _ _ (told-salvageable w));
  }

-- as the code tests it: an offset from 8 on is 8 plus a multiple of 8 where it is a multiple of 8
pub salvageable-by : (file : List ℕ) → is_salvageable file ≡ (leb 8 (length file) && leb (length file) 65535 && leb 8 (header file).pages_from && eqb ((header file).pages_from % 8) 0 && leb (header file).pages_from (length file))
unfolding is_salvageable
salvageable-by file =
    let from = (header file).pages_from in
    let a = leb 8 (length file) && leb (length file) 65535 in
    cases (leb 8 from)
    (λ t.
    let e : (from - 8) % 8 ≡ from % 8 = omega (arith, leb-true 8 from t) in
    ap (λ (k : ℕ). a && leb 8 from && eqb k 0 && leb from (length file)) e)
    (λ f. rw f (simp (and-false a)))
