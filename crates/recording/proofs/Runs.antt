-- The longest run of sound events from the first: how many there are, that they are sound, and that no longer one is.
-- Assumes nothing.
use Prim.Native.Nat.{ℕ, zero, suc, ◌≤◌, ◌<◌}
use mathlib.Core.Path.{◌≡◌, refl, sym, ap, ◌∙◌}
use mathlib.Core.Bool.{true, false}
use mathlib.Core.List.{List, [], ◌∷◌}
use native.Mathlib.Nat.{not-suc-le-zero, le_of_suc-le-suc}
use native.Mathlib.Omega.{arith}
use lib.ListN.{length, get_or, take}
use Rattle.arrays.proofs.Base.{cases, both, and_both}
use Rattle.arrays.proofs.Laws.{all_cons}
use Rattle.recording.specs.declared.Entry.{Entry}
use Rattle.recording.specs.Entries.{sound, all_sound, sound_run}
use Rattle.recording.proofs.Entries.{run_sound, run-stops}

module _ (page_count : ℕ) where
  -- a run is of events that are there
  pub run-few : (l : List Entry) → sound_run page_count l ≤ length l
  unfolding sound_run
  run-few [] = omega arith
  run-few (e ∷ l) =
      cases (sound page_count e)
      (λ t. rw (run_sound page_count e l t) (omega (arith, run-few l)))
      (λ f. rw (run-stops page_count e l f) (omega arith))

  -- its events, and those of a part of it, are sound
  pub run-kept : (n : ℕ) (l : List Entry) → n ≤ sound_run page_count l → all_sound page_count (take n l) ≡ true
  unfolding sound_run
  run-kept zero l h = refl
  run-kept (suc n) [] h = refl
  run-kept (suc n) (e ∷ l) h =
      cases (sound page_count e)
      (λ t. all_cons (sound page_count) e (take n l) ∙ both (sound page_count e) (all_sound page_count (take n l)) t (run-kept n l (omega (arith, h, run_sound page_count e l t))))
      (λ f. absurd (omega (arith, h, run-stops page_count e l f)))

  -- and no longer run from the first is
  pub run-longest : (n : ℕ) (l : List Entry) → n ≤ length l → all_sound page_count (take n l) ≡ true → n ≤ sound_run page_count l
  run-longest zero l h s = omega arith
  run-longest (suc n) [] h s = absurd (not-suc-le-zero h)
  run-longest (suc n) (e ∷ l) h s =
      let a = and_both (sound page_count e) (all_sound page_count (take n l)) (sym (all_cons (sound page_count) e (take n l)) ∙ s) in
      omega (arith, run_sound page_count e l a.0, run-longest n l (le_of_suc-le-suc h) a.1)

  -- the event after it is wrong
  pub run-breaks : (l : List Entry) (none : Entry) → sound_run page_count l < length l → sound page_count (get_or l (sound_run page_count l) none) ≡ false
  unfolding sound_run
  run-breaks [] none h = absurd (not-suc-le-zero h)
  run-breaks (e ∷ l) none h =
      cases (sound page_count e)
      (λ t. let r = run_sound page_count e l t in ap (λ n. sound page_count (get_or (e ∷ l) n none)) r ∙ run-breaks l none (omega (arith, h, r)))
      (λ f. ap (λ n. sound page_count (get_or (e ∷ l) n none)) (run-stops page_count e l f) ∙ f)
