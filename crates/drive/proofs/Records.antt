-- Calls of a record with words.
-- Assumes nothing.
use Rattle.std.specs.Prelude.{Some}
use Prim.Native.Nat.{ℕ, ◌<◌}
use mathlib.Core.Path.{◌≡◌, refl, sym, ap, ◌∙◌}
use mathlib.Core.Bool.{Bool, true, false, ◌||◌}
use lib.ListN.{length}
use Rattle.arrays.specs.Base.{when◌then◌else◌}
use Rattle.arrays.specs.Arrays.{each}
use Rattle.arrays.proofs.Base.{cases, if-true, if-false}
use Rattle.answer.specs.Answers.{is_done, change_of}
use Rattle.answer.specs.declared.Answer.{Answer}
use Rattle.answer.specs.declared.Answer.TheVariants.{NotWellFormed}
use Rattle.answer.specs.declared.Change.{Change}
use Rattle.answer.specs.declared.Change.TheVariants.{Unchanged, AnotherCleared, VendorCleared, Registered}
use Rattle.device.specs.Record.{State}
use Rattle.device.specs.Words.{Worded, with_words, keeping, formed}
use Rattle.words.proofs.Words.{formed-is}
use Rattle.marks.specs.Marks.{changes}
use Rattle.marks.proofs.Changes.{unchanged}
use Rattle.marks.proofs.ByWords.{told-by-words, changes-words, cleared-words}
use Rattle.places.specs.Actions.{releases, released_by, spared, taken}
use Rattle.places.proofs.Lengths.{size-then, acts-size, taken-size}
use Rattle.drive.specs.Calls.{Call, power_up, security_in, security_out, write, read, unit_reset, happens, sender_of, is_power_up}
use Rattle.drive.specs.Checks.{checks, answer, known_answer, answer_where}
use Rattle.drive.specs.Effects.{Effect, nothing, marks, takes, clears, releasing, restarts, doing, refusal, effect_by}
use Rattle.drive.specs.After.{actor_of, changed_by, by_number, carried_out, after}
use Rattle.drive.specs.Records.{answer_of, after_of, held_after}
use Rattle.drive.proofs.Effects.{known-agrees, refusal-changes, changes-size}
use Rattle.drive.proofs.Events.{event-none}

-- what the code makes of an effect, where the words are what the scopes say: the record of document 01, with its words
pub held_after_lem : (s : State) → 0 < length s.sets → (e : Effect) → held_after (with_words s) e ≡ with_words (carried_out by_number s e)
unfolding held_after carried_out changed_by
held_after_lem s some nothing = refl
held_after_lem s some (marks n change) = λ i. record { state = changes s n change; words = sym (changes-words s n change) i }
held_after_lem s some (takes n page) =
    let size = size-then (taken-size s n page) (changes-size (taken s n page) n Registered) in
    told-by-words (Some n) s (changes (taken s n page) n Registered) some size.places size.nexuses
held_after_lem s some clears = λ i. record { state = changed_by s clears; words = sym (cleared-words s) i }
held_after_lem s some (releasing event) =
    cases (each (spared (released_by event)) s.sets)
    (λ t. if-true _ _ _ t ∙ ap with_words (sym (event-none s event t)))
    (λ f.
    let size = acts-size s (releases (released_by event) s.sets) in
    if-false _ _ _ f ∙ told-by-words (actor_of event) s (changed_by s (releasing event)) some size.places size.nexuses)
held_after_lem s some restarts = refl

-- what a refusal does to the record is what its row says
pub held-refusal : (r : Worded) (n : ℕ) (change : Change) → keeping r.words (changes r.state n change) ≡ held_after r (refusal (Some n) change)
unfolding held_after changed_by
held-refusal r n Unchanged = ap (keeping r.words) (unchanged r.state n)
held-refusal r n AnotherCleared = refl
held-refusal r n VendorCleared = refl
held-refusal r n Registered = refl

-- a call of a record that isn't well formed, but for power-on, has no effect
unformed-held : (r : Worded) (call : Call) → formed r ≡ false → held_after r (effect_by r.state call (answer_where false r.state call)) ≡ after_of r call
unfolding held_after effect_by answer_where known_answer answer checks carried_out changed_by
unformed-held r power_up f = sym (simp f)
unformed-held r (security_in command) f = sym (simp f)
unformed-held r (security_out command page) f = sym (simp f)
unformed-held r (write n supported) f = sym (simp f)
unformed-held r (read n block) f = sym (simp f)
unformed-held r unit_reset f = sym (simp f)
unformed-held r (happens event) f = sym (simp f)

-- What the code makes of a call, with the answer that is due, is the record that is due.
pub held-is : (r : Worded) (call : Call) → 0 < length r.state.sets → held_after r (effect_by r.state call (answer_of r call)) ≡ after_of r call
unfolding answer_where
held-is r call some =
    cases (formed r)
    (λ t.
    let s = r.state in
    let is = formed-is r t in
    ap (λ (b : Bool). held_after r (effect_by s call (answer_where b s call))) t
    ∙ ap (λ (x : Worded). held_after x (effect_by s call (known_answer s call))) is.1
    ∙ held_after_lem s some (effect_by s call (known_answer s call))
    ∙ ap (λ (a : Answer). with_words (carried_out by_number s (effect_by s call a))) (sym (known-agrees s call is.0))
    ∙ sym (ap (λ (b : Bool). when b || is_power_up call then with_words (after s call) else r) t))
    (λ f. ap (λ (b : Bool). held_after r (effect_by r.state call (answer_where b r.state call))) f ∙ unformed-held r call f)

-- where the record is well formed, its calls are answered without check 1
pub formed-known : (r : Worded) (call : Call) → formed r ≡ true → known_answer r.state call ≡ answer_of r call
unfolding answer_where
formed-known r call t = sym (simp t)

-- where it isn't, 1 is due, but for power-on
pub unformed-due : (r : Worded) (call : Call) → is_power_up call ≡ false → formed r ≡ false → NotWellFormed ≡ answer_of r call
unfolding answer_where
unformed-due r call p f = sym (simp (f, p))

-- a call that changes at most its sender's marks keeps the words
pub held-marks : (r : Worded) (call : Call) (n : ℕ) → sender_of call ≡ Some n → keeping r.words (carried_out by_number r.state (doing r.state call)) ≡ held_after r (doing r.state call)
    → (a : Answer) → keeping r.words (carried_out by_number r.state (effect_by r.state call a)) ≡ held_after r (effect_by r.state call a)
unfolding effect_by
held-marks r call n e d a =
    cases (is_done a)
    (λ t. rw t d)
    (λ f. rw (f, e) (ap (keeping r.words) (refusal-changes by_number r.state n (change_of a)) ∙ held-refusal r n (change_of a)))
