-- What is known of a call's effect: which answer it had, what the page is that it takes, and that no array changes its size.
-- Assumes nothing.
use Rattle.std.specs.Prelude.{ℕ, Option, Some, None, is_ok}
use Prim.Native.Nat.{ℕ, ◌<◌}
use mathlib.Core.Path.{◌≡◌, refl, sym, ap, ◌∙◌}
use mathlib.Core.Bool.{Bool, true, false}
use mathlib.Core.List.{List, [], ◌∷◌, ◌++◌}
use borrow.Author.Tests.{leb-false}
use lib.Dec.{eqb}
use lib.ListN.{length, length-set, length-map}
use Rattle.arrays.specs.Base.{when◌then◌else◌}
use Rattle.arrays.proofs.Base.{cases, clash, if-elim, if-false}
use Rattle.arrays.proofs.Laws.{length-map_from}
use Rattle.answer.specs.Answers.{number_of, is_done, change_of}
use Rattle.answer.specs.declared.Answer.{Answer}
use Rattle.answer.specs.declared.Answer.TheVariants.{Done, NexusAbove, NoPlaceForLocal, KeyInstanceChanged, ParametersNotUsable}
use Rattle.answer.specs.declared.Change.{Change}
use Rattle.answer.specs.declared.Change.TheVariants.{Unchanged, AnotherCleared, VendorCleared, Registered}
use Rattle.answer.proofs.Numbers.{done-is}
use Rattle.parameters.specs.Codes.{disable, raw, decrypt}
use Rattle.page.specs.declared.Page.{Page}
use Rattle.device.specs.Record.{State, nexus_at, power_on}
use Rattle.device.specs.Selecting.{selected_set}
use Rattle.device.specs.WellFormed.{well_formed}
use Rattle.device.specs.declared.Set.{Set}
use Rattle.marks.specs.Marks.{changes, flagged}
use Rattle.marks.specs.Reset.{cleared}
use Rattle.marks.proofs.Changes.{unchanged}
use Rattle.places.specs.Actions.{no_place, releases, released_by, taken}
use Rattle.places.proofs.Lengths.{SameSize, size-stays, size-then, power-places, power-nexuses, acts-size, taken-size}
use Rattle.drive.specs.declared.Command.{Command}
use Rattle.drive.specs.declared.Block.{Block}
use Rattle.drive.specs.Restoring.{plain_kind, encrypted_kind, no_key, Ruling, ruled_answer, under_mode, not_known, restored}
use Rattle.drive.specs.RestoringClaims.{read_number}
use Rattle.drive.specs.Calls.{Call, power_up, security_in, security_out, write, read, unit_reset, happens, sender_of, is_power_up}
use Rattle.status.specs.Pages.{is_out_page}
use Rattle.drive.specs.Checks.{answer_if, first_of, page_checked, check1, check10, instance_changed, not_usable, heard_of, permitted, commanded_of, checks, record_check, answer, known_answer, answer_where}
use Rattle.drive.specs.Effects.{Effect, nothing, marks, takes, clears, releasing, restarts, doing, refusal, effect_by, effect}
use Rattle.drive.specs.After.{changed_by, Telling, carried_out, actor_of}
use Rattle.drive.proofs.Checks.{all_done, passed, first_stops, first_passes, last-is}

-- ---- a record known to be well formed

-- check 1 finds no fault in it
pub formed-passes : (s : State) (call : Call) → well_formed s ≡ true → record_check s call ≡ Done
formed-passes s power_up w = refl
formed-passes s (security_in command) w = rw w
formed-passes s (security_out command page) w = rw w
formed-passes s (write n supported) w = rw w
formed-passes s (read n block) w = rw w
formed-passes s unit_reset w = rw w
formed-passes s (happens event) w = rw w

-- so its calls are answered without it
pub known-agrees : (s : State) (call : Call) → well_formed s ≡ true → answer s call ≡ known_answer s call
unfolding answer known_answer
known-agrees s call w = ap (λ (a : Answer). first_of (a ∷ checks s call)) (formed-passes s call w)

-- one that isn't is refused with 1, but for power-on
unformed-agrees : (s : State) (call : Call) → well_formed s ≡ false → answer s call ≡ answer_where false s call
unfolding answer answer_where known_answer
unformed-agrees s power_up f = refl
unformed-agrees s (security_in command) f = rw f
unformed-agrees s (security_out command page) f = rw f
unformed-agrees s (write n supported) f = rw f
unformed-agrees s (read n block) f = rw f
unformed-agrees s unit_reset f = rw f
unformed-agrees s (happens event) f = rw f

-- Check 1 made beforehand gives every call its answer.
pub where-agrees : (s : State) (call : Call) → answer s call ≡ answer_where (well_formed s) s call
unfolding answer_where
where-agrees s call = cases (well_formed s) (λ w. known-agrees s call w ∙ sym (rw w)) (λ f. unformed-agrees s call f ∙ sym (rw f))

-- ---- a refusal

-- what a refusal does to the record is what its row says
pub refusal-changes : (rule : Telling) (s : State) (n : ℕ) (change : Change) → carried_out rule s (refusal (Some n) change) ≡ changes s n change
unfolding carried_out changed_by
refusal-changes rule s n Unchanged = sym (unchanged s n)
refusal-changes rule s n AnotherCleared = refl
refusal-changes rule s n VendorCleared = refl
refusal-changes rule s n Registered = refl

-- ---- a page that is taken

-- the page check gave it and found no fault, its sender is one of the nexuses, and a LOCAL set has a place
pub record Taken (s : State) (n : ℕ) (page : Page) : Type 0 where
  pub bytes : List ℕ
  pub within : n < length s.nexuses
  pub read : (page_checked s n bytes).page ≡ page
  pub found : (page_checked s n bytes).answer ≡ Done
  pub placed : no_place s n page ≡ false

-- what is known of an effect
abbrev pub Due : State → Effect → Type 0
Due s nothing = Unit {0}
Due s (marks n change) = Unit {0}
Due s (takes n page) = Taken s n page
Due s clears = Unit {0}
Due s (releasing event) = Unit {0}
Due s restarts = Unit {0}

-- of a refusal nothing
refusal-due : (s : State) (sender : Option ℕ) (change : Change) → Due s (refusal sender change)
refusal-due s None change = tt
refusal-due s (Some n) Unchanged = tt
refusal-due s (Some n) AnotherCleared = tt
refusal-due s (Some n) VendorCleared = tt
refusal-due s (Some n) Registered = tt

-- a page that is carried out has passed every check: its sender is one of the nexuses, its own check found no fault, nor did check 10
pub out-passed : (s : State) (command : Command) (page : List ℕ) → is_done (answer s (security_out command page)) ≡ true → let read = page_checked s command.nexus page in
    (command.nexus < length s.nexuses) × ((read.answer ≡ Done) × (no_place s command.nexus read.page ≡ false))
unfolding answer checks
out-passed s command page e =
    let read = page_checked s command.nexus page in
    let all = all_done (record_check s (security_out command page) ∷ (commanded_of s command (is_out_page command.code) ++ read.answer ∷ check10 s command.nexus read.page ∷ [])) e in
    let rest = all.1.1.1.1.1.1 in
    (leb-false (length s.nexuses) command.nexus (passed _ NexusAbove refl all.1.0), (done-is _ rest.0, passed _ NoPlaceForLocal refl rest.1.0))

taken-due : (s : State) (command : Command) (page : List ℕ) → is_done (answer s (security_out command page)) ≡ true → Taken s command.nexus (page_checked s command.nexus page).page
taken-due s command page e =
    let h = out-passed s command page e in
    record { bytes = page; within = h.0; read = refl; found = h.1.0; placed = h.1.1 }

-- a call that is carried out
doing-due : (s : State) (call : Call) → is_done (answer s call) ≡ true → Due s (doing s call)
doing-due s power_up e = tt
doing-due s (security_in command) e = tt
doing-due s (security_out command page) e = taken-due s command page e
doing-due s (write n supported) e = tt
doing-due s (read n block) e = tt
doing-due s unit_reset e = tt
doing-due s (happens event) e = tt

-- any call
pub effect-due : (s : State) (call : Call) → Due s (effect s call)
unfolding effect_by
effect-due s call = if-elim (Due s) (is_done (answer s call)) (doing-due s call) (λ f. refusal-due s (sender_of call) (change_of (answer s call)))

-- ---- a page that was taken was answered 0

abbrev is_taken : Effect → Bool
is_taken nothing = false
is_taken (marks n change) = false
is_taken (takes n page) = true
is_taken clears = false
is_taken (releasing event) = false
is_taken restarts = false

-- no refusal takes a page
refusal-takes : (sender : Option ℕ) (change : Change) → is_taken (refusal sender change) ≡ false
refusal-takes None change = refl
refusal-takes (Some n) Unchanged = refl
refusal-takes (Some n) AnotherCleared = refl
refusal-takes (Some n) VendorCleared = refl
refusal-takes (Some n) Registered = refl

pub taken-answered : (s : State) (call : Call) (n : ℕ) (page : Page) → effect s call ≡ takes n page → answer s call ≡ Done
unfolding effect_by
taken-answered s call n page e =
    cases (is_done (answer s call))
    (done-is (answer s call))
    (λ f. clash (ap is_taken e) (ap is_taken (if-false (is_done (answer s call)) (doing s call) _ f) ∙ refusal-takes (sender_of call) (change_of (answer s call))))

-- ---- power-on, whatever the record

abbrev pub is_restart : Effect → Bool
is_restart nothing = false
is_restart (marks n change) = false
is_restart (takes n page) = false
is_restart clears = false
is_restart (releasing event) = false
is_restart restarts = true

pub restart-is : (e : Effect) → is_restart e ≡ true → e ≡ restarts
restart-is nothing t = clash t refl
restart-is (marks n change) t = clash t refl
restart-is (takes n page) t = clash t refl
restart-is clears t = clash t refl
restart-is (releasing event) t = clash t refl
restart-is restarts t = refl

-- no refusal is
refusal-restarts : (sender : Option ℕ) (change : Change) → is_restart (refusal sender change) ≡ false
refusal-restarts None change = refl
refusal-restarts (Some n) Unchanged = refl
refusal-restarts (Some n) AnotherCleared = refl
refusal-restarts (Some n) VendorCleared = refl
refusal-restarts (Some n) Registered = refl

-- any other call starts nothing anew
other-restarts : (s : State) (call : Call) → is_restart (doing s call) ≡ false → is_restart (effect s call) ≡ false
unfolding effect_by
other-restarts s call e = if-elim (λ x. is_restart x ≡ false) (is_done (answer s call)) (λ t. e) (λ f. refusal-restarts (sender_of call) (change_of (answer s call)))

-- power-on alone restarts
pub restarts-power : (s : State) (call : Call) → is_restart (effect s call) ≡ is_power_up call
unfolding effect_by answer checks
restarts-power s power_up = refl
restarts-power s (security_in command) = other-restarts s (security_in command) refl
restarts-power s (security_out command page) = other-restarts s (security_out command page) refl
restarts-power s (write n supported) = other-restarts s (write n supported) refl
restarts-power s (read n block) = other-restarts s (read n block) refl
restarts-power s unit_reset = other-restarts s unit_reset refl
restarts-power s (happens event) = other-restarts s (happens event) refl

-- so whether a call does does not depend on the record
pub restarts-anyway : (s t : State) (call : Call) → is_restart (effect s call) ≡ is_restart (effect t call)
restarts-anyway s t call = restarts-power s call ∙ sym (restarts-power t call)

-- ---- a write and a read: checks 1 to 4, then their own

-- an answer that changes nothing does nothing
quiet-nothing : (n : ℕ) (a : Answer) → change_of a ≡ Unchanged → when is_done a then nothing else refusal (Some n) (change_of a) ≡ nothing
quiet-nothing n a e = if-elim (λ x. x ≡ nothing) (is_done a) (λ t. refl) (λ f. ap (refusal (Some n)) e)

-- where their own change nothing, checks 1 to 4 alone decide what the call does
heard-effect : (s : State) (n : ℕ) (own : List Answer) → change_of (first_of own) ≡ Unchanged → let a = first_of ((check1 s ∷ heard_of s n) ++ own) in
    when is_done a then nothing else refusal (Some n) (change_of a) ≡ refusal (Some n) (change_of (first_of (check1 s ∷ heard_of s n)))
heard-effect s n own quiet =
    let first = check1 s ∷ heard_of s n in
    cases (is_done (first_of first))
    (λ t.
    ap (λ a. when is_done a then nothing else refusal (Some n) (change_of a)) (first_passes first own t) ∙ quiet-nothing n (first_of own) quiet
    ∙ ap (λ a. refusal (Some n) (change_of a)) (sym (done-is (first_of first) t)))
    (λ f. ap (λ a. when is_done a then nothing else refusal (Some n) (change_of a)) (first_stops first own f) ∙ if-false _ _ _ f)

-- a write that passes checks 1 to 4 is answered by its own
pub own-answer : (s : State) (n : ℕ) (supported : Bool) → is_done (first_of (check1 s ∷ heard_of s n)) ≡ true
    → answer s (write n supported) ≡ first_of (permitted (nexus_at s n) (selected_set s n) supported)
unfolding answer checks
own-answer s n supported = first_passes (check1 s ∷ heard_of s n) (permitted (nexus_at s n) (selected_set s n) supported)

-- checks 11 and 12 change nothing
permitted-quiet : (a b : Bool) → change_of (first_of (answer_if a KeyInstanceChanged ∷ answer_if b ParametersNotUsable ∷ [])) ≡ Unchanged
permitted-quiet true b = refl
permitted-quiet false true = refl
permitted-quiet false false = refl

pub write-effect : (s : State) (n : ℕ) (supported : Bool) → effect s (write n supported) ≡ refusal (Some n) (change_of (first_of (check1 s ∷ heard_of s n)))
unfolding effect_by answer checks
write-effect s n supported =
    heard-effect s n (permitted (nexus_at s n) (selected_set s n) supported)
    (permitted-quiet (instance_changed (nexus_at s n) (selected_set s n)) (not_usable (selected_set s n) supported))

-- a read's own answers are 0 and 14 to 17, which change nothing
pub record ReadRuling (v : Ruling) : Type 0 where
  pub number : read_number (number_of (ruled_answer v)) ≡ true
  pub quiet : change_of (ruled_answer v) ≡ Unchanged
  pub given : is_ok v ≡ is_done (ruled_answer v)

-- one of two, and each by itself
either : (b : Bool) {x y : Ruling} → ReadRuling x → ReadRuling y → ReadRuling (when b then x else y)
either b p q = if-elim ReadRuling b (λ t. p) (λ f. q)

each : (v : Ruling) → read_number (number_of (ruled_answer v)) ≡ true → change_of (ruled_answer v) ≡ Unchanged → is_ok v ≡ is_done (ruled_answer v) → ReadRuling v
each v n q g = record { number = n; quiet = q; given = g }

pub restored-own : (set : Set) (block : Block) → ReadRuling (restored set block)
unfolding under_mode
restored-own set block =
    let mode = set.fields.decryption in
    let is_plain = eqb block.kind plain_kind in
    either (not_known set block) (each _ refl refl refl)
    (either (eqb mode disable) (either is_plain (each _ refl refl refl) (each _ refl refl refl))
    (either (eqb mode raw) (either is_plain (each _ refl refl refl) (each _ refl refl refl))
    (either is_plain (either (eqb mode decrypt) (each _ refl refl refl) (each _ refl refl refl))
    (either (eqb block.kind encrypted_kind) (either (eqb block.key no_key) (each _ refl refl refl) (each _ refl refl refl)) (each _ refl refl refl)))))

pub read-effect : (s : State) (n : ℕ) (block : Block) → effect s (read n block) ≡ refusal (Some n) (change_of (first_of (check1 s ∷ heard_of s n)))
unfolding effect_by answer checks
read-effect s n block =
    let own = ruled_answer (restored (selected_set s n) block) in
    heard-effect s n (own ∷ []) (ap change_of (last-is own) ∙ (restored-own (selected_set s n) block).quiet)

-- ---- no effect changes the number of places or of nexuses

-- other nexuses, as many
nexuses-size : (s x : State) → length x.nexuses ≡ length s.nexuses → x.sets ≡ s.sets → SameSize s x
nexuses-size s x n p = record { nexuses = n; places = ap length p }

-- marks changed
pub changes-size : (s : State) (n : ℕ) (change : Change) → SameSize s (changes s n change)
unfolding changes
changes-size s n change = nexuses-size s _ (length-set s.nexuses n _) refl

-- flags
flagged-size : (differ : ℕ → Bool) (actor : Option ℕ) (s x : State) → SameSize x (flagged differ actor s x)
unfolding flagged
flagged-size differ actor s x = nexuses-size x _ (length-map_from _ 0 x.nexuses) refl

-- a reset
cleared-size : (s : State) → SameSize s (cleared s)
unfolding cleared
cleared-size s = nexuses-size s _ (length-map s.nexuses _) refl

-- power-on
power_size : (s : State) → SameSize s (power_on (length s.nexuses) (length s.sets))
power_size s = record { places = power-places (length s.nexuses) (length s.sets); nexuses = power-nexuses (length s.nexuses) (length s.sets) }

-- any effect
pub effect-size : (rule : Telling) (s : State) (e : Effect) → SameSize s (carried_out rule s e)
unfolding carried_out changed_by
effect-size rule s nothing = size-stays s
effect-size rule s (marks n change) = changes-size s n change
effect-size rule s (takes n page) = size-then (taken-size s n page) (size-then (changes-size (taken s n page) n Registered) (flagged-size _ _ s (changes (taken s n page) n Registered)))
effect-size rule s clears = cleared-size s
effect-size rule s (releasing event) = size-then (acts-size s (releases (released_by event) s.sets)) (flagged-size _ (actor_of event) s _)
effect-size rule s restarts = power_size s
