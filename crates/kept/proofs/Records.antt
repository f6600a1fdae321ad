-- Records with words: after every call each word is what the scopes say.
-- Assumes nothing.
use Prim.Native.Nat.{ℕ, ◌<◌}
use mathlib.Core.Path.{◌≡◌, refl, sym, ap, ◌∙◌}
use mathlib.Core.Bool.{Bool, true, false, ◌||◌, or-true}
use mathlib.Core.List.{List, [], ◌∷◌}
use native.Mathlib.Omega.{arith}
use lib.ListN.{length}
use Rattle.arrays.specs.Words.{ones_over}
use Rattle.arrays.proofs.Base.{cases, if-elim, if-true, if-false, or-other, or_left_false}
use Rattle.answer.specs.declared.Answer.TheVariants.{NotWellFormed}
use Rattle.device.specs.Record.{State, power_on}
use Rattle.device.specs.WellFormed.{well_formed}
use Rattle.device.specs.Words.{Worded, with_words, formed}
use Rattle.device.proofs.WellFormed.{power-on-well}
use Rattle.words.proofs.Words.{formed-is, is-formed, words-total}
use Rattle.places.proofs.Lengths.{SameSize, size-stays, size-then, power-places, power-nexuses}
use Rattle.drive.specs.Calls.{Call, is_power_up}
use Rattle.drive.specs.Checks.{answer}
use Rattle.drive.specs.After.{after}
use Rattle.drive.specs.Runs.{run_from, run}
use Rattle.drive.specs.Records.{answer_of, after_of, after_all}
use Rattle.drive.proofs.Effects.{known-agrees}
use Rattle.drive.proofs.Records.{formed-known, unformed-due}
use Rattle.kept.proofs.Calls.{call_kept, formed-after}
use Rattle.kept.proofs.Runs.{call-size}

module _ (s : State) (call : Call) (w : well_formed s ≡ true) where
  there : formed (with_words s) ≡ true
  there = is-formed s ∙ w

  -- a call of a well-formed record is answered as document 01 says
  pub formed-answer : answer_of (with_words s) call ≡ answer s call
  formed-answer = sym (known-agrees s call w ∙ formed-known (with_words s) call there)

  -- and leaves document 01's record, each word being what the scopes say
  pub formed-after-of : after_of (with_words s) call ≡ with_words (after s call)
  formed-after-of = if-true _ _ _ (ap (λ (b : Bool). b || is_power_up call) there)

-- every sequence leaves as many nexuses and places
pub run-size : (l : List Call) (s : State) → SameSize s (run_from s l)
unfolding run_from
run-size [] s = size-stays s
run-size (call ∷ l) s = size-then (call-size s call) (run-size l (after s call))

-- After every call of every sequence each word is what the scopes say.
pub words-after : (l : List Call) (s : State) → 0 < length s.nexuses → 0 < length s.sets → well_formed s ≡ true → after_all (with_words s) l ≡ with_words (run_from s l)
unfolding after_all run_from
words-after [] s n p w = refl
words-after (call ∷ l) s n p w =
    let same = call-size s call in
    ap (λ (x : Worded). after_all x l) (formed-after-of s call w)
    ∙ words-after l (after s call) (omega (arith, n, same.nexuses)) (omega (arith, p, same.places)) (call_kept s call n p w)

-- A record that is not well formed, its words included, answers 1 to every call but power-on, and stays as it is.
pub record Stays (r : Worded) (call : Call) : Type 0 where
  pub answered : answer_of r call ≡ NotWellFormed
  pub left : after_of r call ≡ r

pub unformed-record : (r : Worded) (call : Call) → formed r ≡ false → is_power_up call ≡ false → Stays r call
unformed-record r call f p = record {
  answered = sym (unformed-due r call p f);
  left = if-false (formed r || is_power_up call) (with_words (after r.state call)) r (ap (λ (b : Bool). b || is_power_up call) f ∙ p);
}

-- after a call it is well formed where it was, or the call is power-on
pub formed-then : (r : Worded) (call : Call) → 0 < length r.state.nexuses → 0 < length r.state.sets → formed (after_of r call) ≡ (formed r || is_power_up call)
formed-then r call n p =
    cases (formed r || is_power_up call)
    (λ t. ap formed (if-true _ _ _ t) ∙ is-formed (after r.state call) ∙ formed-after r.state call n p ∙ there t ∙ sym t)
    (λ f. ap formed (if-false (formed r || is_power_up call) (with_words (after r.state call)) r f) ∙ or_left_false (formed r) (is_power_up call) f ∙ sym f)
  where
    there : (formed r || is_power_up call) ≡ true → (well_formed r.state || is_power_up call) ≡ true
    there t =
        cases (formed r)
        (λ y. ap (λ (b : Bool). b || is_power_up call) (formed-is r y).0)
        (λ z. ap (λ (b : Bool). well_formed r.state || b) (or-other (formed r) (is_power_up call) t z) ∙ or-true (well_formed r.state))

-- and has as many nexuses and places
pub size_of : (r : Worded) (call : Call) → SameSize r.state (after_of r call).state
size_of r call =
    if-elim (λ (x : Worded). SameSize r.state x.state) (formed r || is_power_up call)
    (λ t. call-size r.state call)
    (λ f. size-stays r.state)

module _ (nexuses places : ℕ) (some : 0 < nexuses) (room : 0 < places) (l : List Call) where
  nexuses-there : 0 < length (power_on nexuses places).nexuses
  nexuses-there = rw (power-nexuses nexuses places) some

  places-there : 0 < length (power_on nexuses places).sets
  places-there = rw (power-places nexuses places) room

  -- Since power-on each word is what the scopes say,
  pub words-since-power-on : after_all (with_words (power_on nexuses places)) l ≡ with_words (run nexuses places l)
  words-since-power-on = words-after l (power_on nexuses places) nexuses-there places-there (power-on-well nexuses places (λ h. some))

  -- and the ones over all of them are as many as the nexuses: "the number of ones over all places is 16".
  pub ones-since-power-on : ones_over (after_all (with_words (power_on nexuses places)) l).words ≡ nexuses
  ones-since-power-on =
      let size = run-size l (power_on nexuses places) in
      ap (λ (x : Worded). ones_over x.words) words-since-power-on
      ∙ words-total (run nexuses places l) (omega (arith, places-there, size.places)) ∙ size.nexuses ∙ power-nexuses nexuses places
