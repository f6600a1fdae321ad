-- Document 02, request 1: what holds of every read.
-- Assumes nothing.
use Rattle.std.specs.Prelude.{Some}
use Prim.Native.Nat.{ℕ, ◌+◌, ◌*◌, ◌/◌, ◌%◌, ◌<◌}
use mathlib.Core.Path.{◌≡◌, refl, sym, ap, ap₂, subst, ◌∙◌}
use mathlib.Core.Logic.{◌⊎◌, inl, inr, ⊎_elim}
use mathlib.Core.Bool.{Bool, true, false, not, ◌||◌, or-true}
use mathlib.Core.List.{[], ◌∷◌}
use native.Mathlib.Omega.{arith}
use borrow.Author.Tests.{eqb-true, eqb-false, eq-eqb, ne_eqb, leb-true, le-leb, ltb-true, ltb-false, not-false}
use lib.Dec.{eqb, leb, ltb}
use lib.ListN.{length}
use Rattle.arrays.specs.Base.{when◌then◌else◌}
use Rattle.arrays.proofs.Base.{cases, clash, both, and_both, if-elim, or-other, or_left_false, or_right_false}
use Rattle.answer.specs.Answers.{number_of, change_of, is_done}
use Rattle.answer.specs.declared.Answer.{Answer}
use Rattle.answer.specs.declared.Answer.TheVariants.{Done}
use Rattle.answer.proofs.Numbers.{done-is}
use Rattle.answer.specs.declared.Change.{Change}
use Rattle.answer.specs.declared.Change.TheVariants.{Unchanged, AnotherCleared, VendorCleared, Registered}
use Rattle.parameters.specs.Codes.{disable, raw, decrypt, encrypts, decrypts}
use Rattle.parameters.specs.Fields.{key_size}
use Rattle.page.specs.Rules.{key_length}
use Rattle.device.specs.Record.{State, nexus_at}
use Rattle.device.specs.Selecting.{selected_set}
use Rattle.device.specs.Updates.{with_lock, with_saved}
use Rattle.device.specs.declared.Set.{Set}
use Rattle.device.specs.declared.Nexus.{Nexus}
use Rattle.device.specs.declared.Marks.{Marks}
use Rattle.marks.specs.Marks.{changes, changed}
use Rattle.drive.specs.declared.Block.{Block}
use Rattle.drive.specs.declared.ReadDecision.TheVariants.{Withheld, Decrypted}
use Rattle.drive.specs.Calls.{write, read}
use Rattle.drive.specs.Checks.{first_of, check1, heard_of, permitted, checks, answer}
use Rattle.drive.specs.Effects.{refusal}
use Rattle.drive.specs.After.{by_number, carried_out, actions_of, after}
use Rattle.drive.specs.Outcomes.{read_decision, decided_place}
use Rattle.drive.specs.Restoring.{plain_kind, encrypted_kind, other_kind, no_key, block_of, Ruling, passes, ruled_answer, ruled_decision, under_mode, holds_key, has_key, not_known, restored}
use Rattle.drive.specs.Refusals.{OnlyMarks}
use Rattle.drive.specs.RestoringClaims.{Had, without_locks, ReadAlike, read_number, only_flag, ReadLeaves, Known, StopDue, GivenDue, GivenBack}
use Rattle.drive.specs.Claims.{block}
use Rattle.drive.proofs.Checks.{first_stops, first_passes, front-done, first-told, last-is}
use Rattle.drive.proofs.Effects.{refusal-changes, restored-own, read-effect}
use Rattle.drive.proofs.Refusals.{changes-marks}
use Rattle.drive.proofs.Seen.{Seen, selected-seen, used-seen, good-seen, read_kept}

-- ---- the lock

-- what stays of a nexus
unlocks : Seen (λ set. set) (λ nexus. with_lock false (with_saved 0 nexus))
unlocks = record { owner = λ x. refl; scope = λ x. refl; nexus_scope = λ x. refl; marks = λ x. refl }

-- without its locks a record answers a read as it did
without-alike : (s : State) (n : ℕ) (block : Block) → ReadAlike (without_locks s) s n block
without-alike s n block =
    let formed = good-seen _ _ unlocks (λ c. c) s (λ nexuses place x. refl) in
    let a = read_kept _ _ unlocks (λ c. c) s formed n block (λ x. refl) in
    let v = used-seen _ _ unlocks (λ c. c) s (λ x. restored x block) (λ x. refl) n in
    let p = selected-seen _ _ unlocks (λ c. c) s n in
    record {
      answered = a;
      decided = λ i. when is_done (a i) then ruled_decision (v i) else Withheld;
      placed = λ i. when is_done (a i) then p i else 0;
    }

-- The lock doesn't stop reads: two records that differ only in locks and saved numbers answer a read alike.
pub lock-free : (s t : State) → without_locks s ≡ without_locks t → (n : ℕ) (block : Block) → ReadAlike s t n block
lock-free s t e n block =
    let x = without-alike s n block in
    let y = without-alike t n block in
    record {
      answered = sym x.answered ∙ ap (λ r. answer r (read n block)) e ∙ y.answered;
      decided = sym x.decided ∙ ap (λ r. read_decision r n block (answer r (read n block))) e ∙ y.decided;
      placed = sym x.placed ∙ ap (λ r. decided_place r n (answer r (read n block))) e ∙ y.placed;
    }

-- ---- the answer

-- what is told by the first checks that find a fault, else by a read's own
pub first-or-own : (P : Answer → Type 0) (s : State) (n : ℕ) (block : Block) → P (first_of (check1 s ∷ heard_of s n)) → P (ruled_answer (restored (selected_set s n) block))
    → P (answer s (read n block))
unfolding answer checks
first-or-own P s n block first own =
    let front = check1 s ∷ heard_of s n in
    let a = ruled_answer (restored (selected_set s n) block) in
    cases (is_done (first_of front))
    (λ t. subst P (sym (first_passes front (a ∷ []) t ∙ last-is a)) own)
    (λ f. subst P (sym (first_stops front (a ∷ []) f)) first)

-- what is asked of a read's answer: its number, and that it changes a flag or nothing
abbrev Asked : Answer → Type 0
Asked a = (read_number (number_of a) ≡ true) × (only_flag (change_of a) ≡ true)

read_asked : (s : State) (n : ℕ) (block : Block) → Asked (answer s (read n block))
read_asked s n block =
    let own = restored-own (selected_set s n) block in
    first-or-own Asked s n block (first-told Asked (refl, refl) (refl, refl) (refl, refl) (refl, refl) (refl, refl) s n) (own.number, ap only_flag own.quiet)

-- A read is answered 0 to 4 or 14 to 17.
pub read-numbers : (s : State) (n : ℕ) (block : Block) → read_number (number_of (answer s (read n block))) ≡ true
read-numbers s n block = (read_asked s n block).0

-- 11 is never a read's answer.
pub never-11 : (s : State) (n : ℕ) (block : Block) → number_of (answer s (read n block)) ≡ 11 → ⊥
never-11 s n block e = clash (sym (ap read_number e) ∙ read-numbers s n block) refl

-- ---- the record

-- the change that a read's answer makes is that of checks 1 to 4: the others make none
read-change : (s : State) (n : ℕ) (block : Block) → change_of (first_of (check1 s ∷ heard_of s n)) ≡ change_of (answer s (read n block))
unfolding answer checks
read-change s n block =
    let front = check1 s ∷ heard_of s n in
    let a = ruled_answer (restored (selected_set s n) block) in
    cases (is_done (first_of front))
    (λ t. ap change_of (done-is (first_of front) t) ∙ sym (ap change_of (first_passes front (a ∷ []) t ∙ last-is a) ∙ (restored-own (selected_set s n) block).quiet))
    (λ f. ap change_of (sym (first_stops front (a ∷ []) f)))

-- the record after a read, whatever its answer
read-after : (s : State) (n : ℕ) (block : Block) → after s (read n block) ≡ changes s n (change_of (answer s (read n block)))
read-after s n block =
    ap (carried_out by_number s) (read-effect s n block) ∙ refusal-changes by_number s n _ ∙ ap (changes s n) (read-change s n block)

-- a refusal acts on no place
refusal-acts : (s : State) (n : ℕ) (change : Change) → actions_of s (refusal (Some n) change) ≡ []
unfolding actions_of
refusal-acts s n Unchanged = refl
refusal-acts s n AnotherCleared = refl
refusal-acts s n VendorCleared = refl
refusal-acts s n Registered = refl

-- a change of a flag leaves who is registered
flag-registered : (change : Change) (marks : Marks) → only_flag change ≡ true → (changed change marks).registered ≡ marks.registered
flag-registered Unchanged marks e = refl
flag-registered AnotherCleared marks e = refl
flag-registered VendorCleared marks e = refl
flag-registered Registered marks e = clash e refl

-- A read acts on no set, draws no number and changes nothing but a pending flag of its sender; it registers nobody.
pub read-leaves : (s : State) (n : ℕ) (block : Block) → ReadLeaves s n block
read-leaves s n block =
    let change = change_of (answer s (read n block)) in
    let flag = (read_asked s n block).1 in
    let only : OnlyMarks (Some n) change s (after s (read n block)) = subst (OnlyMarks (Some n) change s) (sym (read-after s n block)) (changes-marks (Some n) change s) in
    record {
      acts = ap (actions_of s) (read-effect s n block) ∙ refusal-acts s n (change_of (first_of (check1 s ∷ heard_of s n)));
      draws = only.counter;
      only = only;
      flag = flag;
      registered = λ m.
          cases (eqb n m)
          (λ t.
          cases (ltb m (length s.nexuses))
          (λ h. ap (λ (x : Marks). x.registered) (only.own m t (ltb-true _ _ h)).marks ∙ flag-registered change (nexus_at s m).marks flag)
          (λ h. ap (λ (x : State). (nexus_at x m).marks.registered) (only.above m t (ltb-false _ _ h))))
          (λ f. ap (λ (x : Nexus). x.marks.registered) (only.others m f));
    }

-- ---- each answer and each block given, where it is due

module _ (set : Set) (block : Block) where
  -- a ruling, both parts
  abbrev Both : Ruling → Type 0
  Both r = StopDue set block (ruled_answer r) × GivenDue set block (ruled_decision r)

  -- check 14's test of a key
  abbrev is_key : Bool
  is_key = eqb block.key no_key || has_key set block.key

  key-is : is_key ≡ true → (block.key ≡ no_key) ⊎ Had set block.key
  key-is e =
      cases (eqb block.key no_key)
      (λ t. inl (eqb-true block.key no_key t))
      (λ f. let h = and_both _ _ (or-other (eqb block.key no_key) _ e f) in inr (h.0, leb-true _ _ h.1))

  is-key : (block.key ≡ no_key) ⊎ Had set block.key → is_key ≡ true
  is-key h =
      ⊎_elim
      (λ e. ap (λ b. b || has_key set block.key) (eq-eqb block.key no_key e))
      (λ d. ap (λ b. eqb block.key no_key || b) (both _ _ d.0 (le-leb _ _ d.1)) ∙ or-true (eqb block.key no_key))
      h

  -- what is known of a block that passes it
  known_is : not_known set block ≡ false → Known set block
  known_is f =
      let above = not (leb block.kind other_kind) in
      (leb-true _ _ (not-false _ (or_left_false above (not is_key) f)), key-is (not-false _ (or_right_false above (not is_key) f)))

  -- and of one that doesn't
  unknown-is : not_known set block ≡ true → Known set block → ⊥
  unknown-is t k = clash t (ap₂ (λ a b. not a || not b) (le-leb block.kind other_kind k.0) (is-key k.1))

  -- by the definition's own tests
  restored-due : Both (restored set block)
  unfolding under_mode
  restored-due =
      let mode = set.fields.decryption in
      let is_plain = eqb block.kind plain_kind in
      if-elim Both (not_known set block)
      (λ t. (unknown-is t, tt))
      (λ f.
      let known = known_is f in
      let plain : is_plain ≡ true → block.kind ≡ plain_kind = eqb-true block.kind plain_kind in
      let some : is_plain ≡ false → plain_kind < block.kind = λ p. omega (arith, eqb-false block.kind plain_kind p) in
      if-elim Both (eqb mode disable)
      (λ d. if-elim Both is_plain
      (λ p. (tt, (known, (plain p, λ e. clash d (ap (λ m. eqb m disable) e)))))
      (λ p. ((known, (some p, inl (eqb-true mode disable d))), tt)))
      (λ d. if-elim Both (eqb mode raw)
      (λ r. if-elim Both is_plain
      (λ p. (tt, (known, (plain p, λ e. clash r (ap (λ m. eqb m raw) e)))))
      (λ p. (tt, (known, (some p, eqb-true mode raw r)))))
      (λ r.
      let above : raw < mode = omega (arith, eqb-false mode disable d, eqb-false mode raw r) in
      if-elim Both is_plain
      (λ p. if-elim Both (eqb mode decrypt)
      (λ t. ((known, (plain p, eqb-true mode decrypt t)), tt))
      (λ t. (tt, (known, (plain p, eqb-false mode decrypt t)))))
      (λ p. if-elim Both (eqb block.kind encrypted_kind)
      (λ k. if-elim Both (eqb block.key no_key)
      (λ none. ((known, (eqb-true block.kind encrypted_kind k, (eqb-true block.key no_key none, above))), tt))
      (λ key. (tt, (known, (eqb-true block.kind encrypted_kind k, (⊎_elim (λ e. clash (eq-eqb block.key no_key e) key) (λ h. h) known.1, above))))))
      (λ k.
      let last : block.kind ≡ other_kind = omega (arith, known.0, some p, eqb-false block.kind encrypted_kind k) in
      ((known, (some p, inr (above, last))), tt))))))

-- Whatever is read, by whom and from whatever record: a read that is answered 14 to 17 is answered so where document 02 says, and a block
-- is given plain, raw or decrypted where it says; so what is given as decrypted was opened by a key that the set in use has.
pub reads-due : (s : State) (n : ℕ) (block : Block)
    → StopDue (selected_set s n) block (answer s (read n block)) × GivenDue (selected_set s n) block (read_decision s n block (answer s (read n block)))
reads-due s n block =
    let set = selected_set s n in
    let due = restored-due set block in (
      first-or-own (StopDue set block) s n block (first-told (StopDue set block) tt tt tt tt tt s n) due.0,
      if-elim (GivenDue set block) (is_done (answer s (read n block))) (λ t. due.1) (λ f. tt),
    )

-- ---- what was written is read

-- under a set that decrypts, a block that its main key opened is given decrypted
main-opens : (set : Set) → decrypts set.fields.decryption ≡ true → restored set (block encrypted_kind 0) ≡ passes Decrypted
unfolding under_mode
main-opens set h =
    let mode = set.fields.decryption in
    let off : eqb mode disable ≡ false = ne_eqb mode disable (λ e. clash h (ap decrypts e)) in
    let not_raw : eqb mode raw ≡ false = ne_eqb mode raw (λ e. clash h (ap decrypts e)) in
    let held : holds_key set ≡ true = ap (λ b. encrypts set.fields.encryption || b) h ∙ or-true (encrypts set.fields.encryption) in
    let first : leb 0 set.supplemental.count ≡ true = le-leb 0 set.supplemental.count (omega arith) in
    simp (held, off, not_raw, first)

-- Where a nexus may write, and its set decrypts, a block that its main key opened is given back decrypted, from the same place.
pub given_back : (s : State) (n : ℕ) (supported : Bool) → is_done (answer s (write n supported)) ≡ true → decrypts (selected_set s n).fields.decryption ≡ true
    → GivenBack s n (block encrypted_kind 0) supported
unfolding answer checks
given_back s n supported w h =
    let front = check1 s ∷ heard_of s n in
    let ruling = main-opens (selected_set s n) h in
    let own = permitted (nexus_at s n) (selected_set s n) supported in
    let a = ruled_answer (restored (selected_set s n) (block encrypted_kind 0)) in
    let read_done : answer s (read n (block encrypted_kind 0)) ≡ Done =
    first_passes front (a ∷ []) (front-done front own w) ∙ last-is a ∙ ap ruled_answer ruling in
    record {
      done = read_done;
      decrypted = ap (read_decision s n (block encrypted_kind 0)) read_done ∙ ap ruled_decision ruling;
      placed = ap (decided_place s n) (read_done ∙ sym (done-is (answer s (write n supported)) w));
    }

-- ---- keys, and a block as one number

-- A set holds a main key exactly where a page with its modes has one.
pub holds-as-asked : (set : Set) → key_length set.fields.encryption set.fields.decryption ≡ (when holds_key set then key_size else 0)
holds-as-asked set = refl

-- Kind times 256 plus key is that kind and key.
pub block-of-both : (kind key : ℕ) → key < 256 → block_of (kind * 256 + key) ≡ record { kind = kind; key = key }
block-of-both kind key h =
    let k : (kind * 256 + key) / 256 ≡ kind = omega (arith, h) in
    let r : (kind * 256 + key) % 256 ≡ key = omega (arith, h) in
    λ i. record { kind = k i; key = r i }
