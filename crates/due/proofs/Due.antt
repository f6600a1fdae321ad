-- When each answer is due to a call that has a sender, and what becomes of a block that is written.
-- Assumes nothing.
use Prim.Native.Nat.{ℕ, zero, suc, ◌≤◌}
use mathlib.Core.Path.{◌≡◌, refl, sym, ap, subst, ◌∙◌}
use mathlib.Core.Bool.{Bool, true, false}
use mathlib.Core.List.{List, [], ◌∷◌, ◌++◌}
use native.Mathlib.Omega.{arith}
use borrow.Author.Tests.{eqb-true, eq-eqb, ne_eqb, le-leb, lt-leb, leb-false, ltb-true, ltb-false, not-false}
use lib.Dec.{eqb, ltb}
use lib.ListN.{length, get_or-eq_default}
use Rattle.arrays.specs.Base.{Exactly}
use Rattle.arrays.proofs.Base.{cases, clash, if-true, if-false}
use Rattle.answer.specs.Answers.{is_done}
use Rattle.answer.specs.declared.Answer.{Answer}
use Rattle.answer.specs.declared.Answer.TheVariants.{Done, NotWellFormed, NexusAbove, ChangedByAnotherNexus, ChangedByVendorEvent, KeyInstanceChanged, ParametersNotUsable}
use Rattle.parameters.specs.Codes.{disable, external, encrypt}
use Rattle.device.specs.Record.{State, nexus_at, no_set}
use Rattle.device.specs.Selecting.{selected, selected_set}
use Rattle.device.specs.WellFormed.{well_formed}
use Rattle.device.proofs.WellFormed.{set-at}
use Rattle.marks.specs.Marks.{is_actor}
use Rattle.status.specs.Pages.{is_in_page, is_out_page}
use Rattle.drive.specs.declared.Command.{Command}
use Rattle.drive.specs.declared.Decision.{Decision}
use Rattle.drive.specs.declared.Decision.TheVariants.{Refused, Clear, External, Encrypted}
use Rattle.drive.specs.Calls.{Call, power_up, security_in, security_out, write, read, unit_reset, happens, sender_of}
use Rattle.drive.specs.Checks.{first_of, check1, check5, check6, check10, page_checked, heard_of, commanded_of, permitted, checks, answer, instance_changed, not_usable}
use Rattle.drive.specs.Restoring.{ruled_answer, restored}
use Rattle.drive.specs.Outcomes.{decided, value_of, decision}
use Rattle.due.specs.Due.{SentDue, CommandDue, InDue, Held, mode_of, WriteDue, Passes, becomes, Becomes}
use Rattle.drive.proofs.Checks.{all_done, passed}

-- the checks of a page
abbrev page-checks : State → Command → List ℕ → List Answer
page-checks s command page = let read = page_checked s command.nexus page in read.answer ∷ check10 s command.nexus read.page ∷ []

-- ---- whoever sends

-- a call whose checks begin with those of its sender
by-sender : (s : State) (m n : ℕ) → eqb m n ≡ true → (rest : List Answer) {a : Answer} → a ≡ first_of (check1 s ∷ heard_of s m ++ rest) → SentDue s n a
by-sender s m n same rest {a} e =
    subst (λ k. SentDue s k a) (eqb-true m n same)
    (record {
      unformed = λ f. e ∙ simp f;
      above = λ t h. e ∙ simp (t, le-leb _ _ h);
      another = λ k t. e ∙ simp (k.formed, lt-leb _ _ k.within, t);
      vendor = λ k f t. e ∙ simp (k.formed, lt-leb _ _ k.within, f, t);
    })

-- Whoever sends: each of answers 1 to 4 is due where document 01 says.
pub sent-due : (s : State) (call : Call) (n : ℕ) → is_actor (sender_of call) n ≡ true → SentDue s n (answer s call)
unfolding answer checks
sent-due s power_up n e = clash e refl
sent-due s (security_in command) n e = by-sender s command.nexus n e (check5 command.protocol ∷ check6 (is_in_page command.code) ∷ []) refl
sent-due s (security_out command page) n e = by-sender s command.nexus n e (check5 command.protocol ∷ check6 (is_out_page command.code) ∷ page-checks s command page) refl
sent-due s (write m supported) n e = by-sender s m n e (permitted (nexus_at s m) (selected_set s m) supported) refl
sent-due s (read m block) n e = by-sender s m n e (ruled_answer (restored (selected_set s m) block) ∷ []) refl
sent-due s unit_reset n e = clash e refl
sent-due s (happens event) n e = clash e refl

-- ---- a security command

module _ (s : State) (command : Command) where
  by-command : (supported : Bool) (rest : List Answer) {a : Answer} → a ≡ first_of (check1 s ∷ commanded_of s command supported ++ rest) → CommandDue s command supported a
  by-command supported rest e = record {
    protocol = λ h no. e ∙ simp (h.known.formed, lt-leb _ _ h.known.within, h.another, h.vendor, ne_eqb _ _ no);
    page = λ h p f. e ∙ simp (h.known.formed, lt-leb _ _ h.known.within, h.another, h.vendor, eq-eqb _ _ p, f);
  }

  -- SECURITY PROTOCOL IN: each of answers 5, 6 and 0 is due where document 01 says.
  pub in-due : InDue s command (is_in_page command.code) (answer s (security_in command))
  unfolding answer checks
  in-due = record {
    refused = by-command (is_in_page command.code) [] refl;
    done = λ h p t. simp (h.known.formed, lt-leb _ _ h.known.within, h.another, h.vendor, eq-eqb _ _ p, t);
  }

  -- And OUT: each of answers 5 and 6.
  pub out-due : (page : List ℕ) → CommandDue s command (is_out_page command.code) (answer s (security_out command page))
  unfolding answer checks
  out-due page = by-command (is_out_page command.code) (page-checks s command page) refl

-- ---- a write

module _ (s : State) (n : ℕ) (supported : Bool) where
  -- the set in use is held, and usable
  not-changed : Held s n → instance_changed (nexus_at s n) (selected_set s n) ≡ false
  not-changed held = cases (nexus_at s n).lock (λ t. simp (t, eq-eqb _ _ (held t))) (λ f. simp f)

  is-usable : (mode_of s n ≡ encrypt → supported ≡ true) → not_usable (selected_set s n) supported ≡ false
  is-usable u = cases (eqb (mode_of s n) encrypt) (λ t. simp (t, u (eqb-true _ _ t))) (λ f. simp f)

  -- Each of answers 11, 12 and 0 is due where document 01 says.
  pub write-due : WriteDue s n supported (answer s (write n supported))
  unfolding answer checks
  write-due = record {
    changed = λ h l no. simp (h.known.formed, lt-leb _ _ h.known.within, h.another, h.vendor, l, ne_eqb _ _ no);
    unusable = λ h held m f. simp (h.known.formed, lt-leb _ _ h.known.within, h.another, h.vendor, not-changed held, eq-eqb _ _ m, f);
    done = λ h held u. simp (h.known.formed, lt-leb _ _ h.known.within, h.another, h.vendor, not-changed held, is-usable u);
  }

-- ---- what becomes of a block

-- decisions with values of their own
apart : (d e : Decision) → eqb (value_of d) (value_of e) ≡ false → d ≡ e → ⊥
apart d e f h = clash (eq-eqb (value_of d) (value_of e) (ap value_of h)) f

-- three modes are in range
each-mode : (P : ℕ → Type 0) → P disable → P external → P encrypt → (mode : ℕ) → mode ≤ 2 → P mode
each-mode P a b c zero h = a
each-mode P a b c (suc zero) h = b
each-mode P a b c (suc (suc zero)) h = c
each-mode P a b c (suc (suc (suc mode))) h = absurd (omega (arith, h))

-- the mode of a set in use is in range
mode-range : (s : State) (n : ℕ) → well_formed s ≡ true → mode_of s n ≤ 2
mode-range s n w =
    let place = selected s n in
    cases (ltb place (length s.sets))
    (λ t. (set-at s w place (ltb-true _ _ t)).fields.encryption)
    (λ f. rw (get_or-eq_default s.sets no_set (ltb-false place _ f)) (omega arith))

module _ (s : State) (n : ℕ) (supported : Bool) where
  -- a write that is done has passed every check
  passes : is_done (answer s (write n supported)) ≡ true → Passes s n supported (mode_of s n)
  unfolding answer checks
  passes d =
      let c = all_done (check1 s ∷ heard_of s n ++ permitted (nexus_at s n) (selected_set s n) supported) d in
      record {
        heard = record {
          known = record { formed = not-false _ (passed _ NotWellFormed refl c.0); within = leb-false _ _ (passed _ NexusAbove refl c.1.0) };
          another = passed _ ChangedByAnotherNexus refl c.1.1.0;
          vendor = passed _ ChangedByVendorEvent refl c.1.1.1.0;
        };
        held = λ l. let f : instance_changed (nexus_at s n) (selected_set s n) ≡ false = passed _ KeyInstanceChanged refl c.1.1.1.1.0 in eqb-true _ _ (not-false _ (rw l at f));
        under = refl;
        usable = λ m. let f : not_usable (selected_set s n) supported ≡ false = passed _ ParametersNotUsable refl c.1.1.1.1.1.0 in not-false _ (rw (eq-eqb (mode_of s n) encrypt m) at f);
      }

  -- what becomes of the block is named by the mode, where no other mode in range has that name
  exactly : (d : Decision) (mode : ℕ) → decided mode ≡ d → ((m : ℕ) → m ≤ 2 → decided m ≡ d → m ≡ mode) → (Refused ≡ d → ⊥) → Exactly (becomes s n supported ≡ d) (Passes s n supported mode)
  exactly d mode is only some =
      let a = answer s (write n supported) in (
        λ e.
            cases (is_done a)
            (λ t.
            let p = passes t in
            let m : mode_of s n ≡ mode = only (mode_of s n) (mode-range s n p.heard.known.formed) (sym (if-true (is_done a) _ _ t) ∙ e) in
            subst (Passes s n supported) m p)
            (λ f. absurd (some (sym (if-false (is_done a) _ _ f) ∙ e))),
        λ p.
            let done : a ≡ Done = (write-due s n supported).done p.heard p.held (λ m. p.usable (sym p.under ∙ m)) in
            ap (decision s n) done ∙ ap decided p.under ∙ is,
      )

  -- A block goes down encrypted, external or clear exactly if nothing stops its write and the set in use has the mode of that name.
  pub write-becomes : Becomes s n supported
  write-becomes = record {
    as_encrypted = exactly Encrypted encrypt refl (each-mode (λ m. decided m ≡ Encrypted → m ≡ encrypt) (λ e. absurd (apart _ _ refl e)) (λ e. absurd (apart _ _ refl e)) (λ e. refl)) (apart _ _ refl);
    as_external = exactly External external refl (each-mode (λ m. decided m ≡ External → m ≡ external) (λ e. absurd (apart _ _ refl e)) (λ e. refl) (λ e. absurd (apart _ _ refl e))) (apart _ _ refl);
    as_clear = exactly Clear disable refl (each-mode (λ m. decided m ≡ Clear → m ≡ disable) (λ e. refl) (λ e. absurd (apart _ _ refl e)) (λ e. absurd (apart _ _ refl e))) (apart _ _ refl);
  }
