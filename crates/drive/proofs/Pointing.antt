-- Document 02, request 6, through the calls: the byte of answer 8 is the lowest at which a rule of the page breaks, whatever the record and whoever
-- sends it; and no other call is answered 8.
-- Assumes nothing.
use mathlib.Core.Path.{◌≡◌, refl, sym, ap, subst, ◌∙◌}
use mathlib.Core.Bool.{Bool, true, false, not}
use mathlib.Core.Logic.{◌⊎◌, inl, inr, ⊎_elim}
use mathlib.Core.List.{List, [], ◌∷◌, ◌++◌}
use Prim.Native.Nat.{ℕ}
use lib.Dec.{leb, eqb}
use lib.ListN.{length}
use borrow.Author.Tests.{eqb-true}
use Rattle.arrays.proofs.Base.{cases, clash, if-elim}
use Rattle.answer.specs.Answers.{number_of, is_done, is_field_wrong}
use Rattle.answer.specs.declared.Answer.{Answer}
use Rattle.answer.specs.declared.Answer.TheVariants.{Done, NotWellFormed, NexusAbove, ChangedByAnotherNexus, ChangedByVendorEvent, ProtocolNotSupported, PageNotSupported, FieldWrong, FifthSupplementalKey, NoPlaceForLocal, KeyInstanceChanged, ParametersNotUsable, PlaceAbove}
use Rattle.answer.proofs.Numbers.{done-is}
use Rattle.pointing.specs.Judged.{Taken, Judged}
use Rattle.page.proofs.Pointing.{page-judged}
use Rattle.device.specs.Record.{State, nexus_at}
use Rattle.device.specs.Selecting.{selected_set}
use Rattle.device.specs.WellFormed.{well_formed}
use Rattle.status.specs.Pages.{is_in_page, is_out_page}
use Rattle.places.specs.Actions.{no_place}
use Rattle.places.specs.declared.Event.{Event}
use Rattle.places.specs.declared.Event.TheVariants.{Demount, NexusLoss, DeviceLoss, Preempt, Microcode, VendorRelease}
use Rattle.drive.specs.declared.Command.{Command}
use Rattle.drive.specs.Calls.{Call, power_up, security_in, security_out, write, read, unit_reset, happens}
use Rattle.drive.specs.Checks.{answer_if, first_of, check1, page_checked, check10, instance_changed, not_usable, heard_of, commanded_of, event_check, checks, answer}
use Rattle.drive.specs.RestoringClaims.{read_number}
use Rattle.drive.specs.Sending.{Reached}
use Rattle.drive.specs.Pointing.{rules_of, PageAsked, sends_page}
use Rattle.drive.proofs.Checks.{first_stops, first_passes, first-fault, first_next, last-is, first-told}
use Rattle.drive.proofs.Restoring.{read-numbers}
use Rattle.drive.proofs.Sending.{page-decides}

-- ---- what holds of each check's answer holds of theirs all

module _ (P : Answer → Type 0) (done : P Done) where
  -- a check, where it finds a fault or not
  told-if : (fault : Bool) (a : Answer) → P a → P (answer_if fault a)
  told-if true a p = p
  told-if false a p = done

  -- two
  told-two : (a b : Bool) (x y : Answer) → P x → P y → P (first_of (answer_if a x ∷ answer_if b y ∷ []))
  told-two a b x y p q = if-elim P (is_done (answer_if a x)) (λ t. subst P (sym (last-is (answer_if b y))) (told-if b y q)) (λ t. told-if a x p)

  -- those of two lists
  told-both : (a b : List Answer) → P (first_of a) → P (first_of b) → P (first_of (a ++ b))
  told-both a b p q = cases (is_done (first_of a)) (λ t. subst P (sym (first_passes a b t)) q) (λ f. subst P (sym (first_stops a b f)) p)

  module _ (one : P NotWellFormed) (two : P NexusAbove) (three : P ChangedByAnotherNexus) (four : P ChangedByVendorEvent) where
    -- checks 1 to 4, and two more
    told_more : (s : State) (n : ℕ) (a b : Bool) (x y : Answer) → P x → P y → P (first_of ((check1 s ∷ heard_of s n) ++ answer_if a x ∷ answer_if b y ∷ []))
    told_more s n a b x y p q =
        told-both (check1 s ∷ heard_of s n) (answer_if a x ∷ answer_if b y ∷ []) (first-told P one two three four done s n) (told-two a b x y p q)

    -- checks 1 to 6
    told-command : P ProtocolNotSupported → P PageNotSupported → (s : State) (command : Command) (supported : Bool) → P (first_of (check1 s ∷ commanded_of s command supported))
    told-command five six s command supported =
        told_more s command.nexus (not (eqb command.protocol 0x20)) (not supported) ProtocolNotSupported PageNotSupported five six

-- an answer with another number
abbrev Another : ℕ → Answer → Type 0
Another number a = eqb (number_of a) number ≡ false

-- ---- a page that is sent

module _ (s : State) (command : Command) (page : List ℕ) where
  abbrev supported : Bool
  supported = is_out_page command.code

  abbrev front : List Answer
  front = check1 s ∷ commanded_of s command supported

  abbrev own : Answer
  own = (page_checked s command.nexus page).answer

  abbrev full : Bool
  full = no_place s command.nexus (page_checked s command.nexus page).page

  abbrev last : Answer
  last = check10 s command.nexus (page_checked s command.nexus page).page

  answered : answer s (security_out command page) ≡ first_of (front ++ own ∷ last ∷ [])
  unfolding answer checks
  answered = refl

  -- where checks 1 to 6 aren't its, an answer is its own check's, or comes after that has taken the page
  own_is : (x : Answer) → (first_of front ≡ x → is_done (first_of front) ≡ true) → answer s (security_out command page) ≡ x → (own ≡ x) ⊎ ((own ≡ Done) × (last ≡ x))
  own_is x n e =
      let told = sym answered ∙ e in
      cases (is_done (first_of front))
      (λ t.
      let rest = sym (first_passes front (own ∷ last ∷ []) t) ∙ told in
      cases (is_done own) (λ u. inr (done-is own u, sym (last-is last) ∙ sym (first_next own (last ∷ []) u) ∙ rest)) (λ u. inl (sym (first-fault own (last ∷ []) u) ∙ rest)))
      (λ f. let first = sym (first_stops front (own ∷ last ∷ []) f) ∙ told in clash (n first) f)

  -- none of checks 1 to 6 has an answer's number
  not-front : (k : ℕ) (x : Answer) → Another k (first_of front) → eqb (number_of x) k ≡ true → first_of front ≡ x → is_done (first_of front) ≡ true
  not-front k x f t e = clash t (ap (λ (a : Answer). eqb (number_of a) k) (sym e) ∙ f)

  -- 8 is its own check's
  own-eight : (b : ℕ) → answer s (security_out command page) ≡ FieldWrong b → own ≡ FieldWrong b
  own-eight b e =
      ⊎_elim (λ o. o) (λ o. clash (ap (λ (a : Answer). eqb (number_of a) 8) o.1) (told-if (Another 8) refl full NoPlaceForLocal refl))
      (own_is (FieldWrong b) (not-front 8 (FieldWrong b) (told-command (Another 8) refl refl refl refl refl refl refl s command supported) refl) e)

  -- and a page that is taken, or has no room, is taken by it
  own-taken : Taken (answer s (security_out command page)) → Taken own
  own-taken =
      ⊎_elim (λ e. ⊎_elim inl (λ o. inl o.0) (own_is Done (λ f. ap is_done f) e))
      (⊎_elim
      (λ e. ⊎_elim (λ o. inr (inl o)) (λ o. inl o.0)
      (own_is FifthSupplementalKey (not-front 9 FifthSupplementalKey (told-command (Another 9) refl refl refl refl refl refl refl s command supported) refl) e))
      (λ e. ⊎_elim (λ o. inr (inr o)) (λ o. inl o.0)
      (own_is NoPlaceForLocal (not-front 10 NoPlaceForLocal (told-command (Another 10) refl refl refl refl refl refl refl s command supported) refl) e)))

  -- one that its own check takes is taken, or has no room
  taken_own : Reached s command → Taken own → Taken (answer s (security_out command page))
  taken_own reached t =
      let decides = page-decides s command reached page in
      ⊎_elim
      (λ e.
      let is : answer s (security_out command page) ≡ last = decides ∙ (first_next own (last ∷ []) (ap is_done e) ∙ last-is last) in
      cases full (λ u. inr (inr (is ∙ ap (λ (f : Bool). answer_if f NoPlaceForLocal) u))) (λ u. inl (is ∙ ap (λ (f : Bool). answer_if f NoPlaceForLocal) u)))
      (⊎_elim (λ e. inr (inl (decides ∙ rw e))) (λ e. inr (inr (decides ∙ rw e)))) t

  -- Answer 8 to a page that is sent points to the lowest byte at which a rule of 01 breaks; where it is answered 0, 9 or 10, none breaks. And where no
  -- earlier answer is due: 8 is given wherever a rule breaks, and the page is taken, but for want of room, wherever none does.
  pub page-points : Judged (PageAsked s command page) (rules_of s command.nexus page) page (answer s (security_out command page))
  page-points =
      let j = page-judged page (nexus_at s command.nexus).scope (selected_set s command.nexus).fields.decryption (selected_set s command.nexus).supplemental.count in
      record {
        lowest = λ b e. j.lowest b (own-eight b e);
        within = λ b e. j.within b (own-eight b e);
        fits = λ b e. j.fits b (own-eight b e);
        told = λ b asked l. let e = j.told b asked.1 l in page-decides s command asked.0 page ∙ rw e;
        none = λ t i x. j.none (own-taken t) i x;
        right = λ asked h. taken_own asked.0 (j.right asked.1 h);
      }

-- ---- other calls

event-another : (nexuses places : ℕ) (event : Event) → Another 8 (event_check nexuses places event)
event-another nexuses places Demount = refl
event-another nexuses places (NexusLoss n) = told-if (Another 8) refl (leb nexuses n) NexusAbove refl
event-another nexuses places DeviceLoss = refl
event-another nexuses places (Preempt n) = told-if (Another 8) refl (leb nexuses n) NexusAbove refl
event-another nexuses places Microcode = refl
event-another nexuses places (VendorRelease place) = told-if (Another 8) refl (leb places place) PlaceAbove refl

-- check 1 alone
formed-another : (s : State) → Another 8 (first_of (check1 s ∷ []))
formed-another s = subst (Another 8) (sym (last-is (check1 s))) (told-if (Another 8) refl (not (well_formed s)) NotWellFormed refl)

-- No call but one that sends a page is answered 8.
pub only-pages-point : (s : State) (call : Call) → sends_page call ≡ false → is_field_wrong (answer s call) ≡ false
unfolding answer checks
only-pages-point s power_up e = refl
only-pages-point s (security_in command) e = told-command (Another 8) refl refl refl refl refl refl refl s command (is_in_page command.code)
only-pages-point s (security_out command page) e = clash refl e
only-pages-point s (write n supported) e =
    told_more (Another 8) refl refl refl refl refl s n (instance_changed (nexus_at s n) (selected_set s n)) (not_usable (selected_set s n) supported) KeyInstanceChanged ParametersNotUsable refl refl
only-pages-point s (read n block) e =
    let a = answer s (read n block) in
    cases (eqb (number_of a) 8) (λ t. clash (sym (ap read_number (eqb-true (number_of a) 8 t)) ∙ read-numbers s n block) refl) (λ f. f)
only-pages-point s unit_reset e = formed-another s
only-pages-point s (happens event) e =
    let check = event_check (length s.nexuses) (length s.sets) event in
    told-both (Another 8) refl (check1 s ∷ []) (check ∷ []) (formed-another s)
    (subst (Another 8) (sym (last-is check)) (event-another (length s.nexuses) (length s.sets) event))
