-- The ways that the reader of the status page goes, each by the tests that lead there, and what is known of a page that it accepts.
-- Assumes nothing.
use Rattle.std.specs.Prelude.{None}
use mathlib.Core.Path.{◌≡◌, refl, sym, ap, ◌∙◌}
use mathlib.Core.Bool.{true, false}
use mathlib.Core.Logic.{◌⊎◌, inl, inr, ⊎_elim}
use mathlib.Core.List.{List}
use Prim.Native.Nat.{ℕ, ◌+◌, ◌^◌, ◌<◌, ◌≤◌}
use native.Mathlib.Nat.{le_refl}
use native.Mathlib.Omega.{arith}
use borrow.Author.Tests.{eqb-true, eq-eqb, ltb-true, ltb-false, lt-ltb, le-ltb, leb-true, le-leb}
use lib.Dec.{ltb}
use lib.ListN.{length, drop, length-take, length-drop}
use Rattle.std.specs.Prelude.{Ok, Err}
use Rattle.arrays.proofs.Base.{cases, if-true, if-false, if-ok, if-err}
use Rattle.wire.specs.Numbers.{byte_at, word_at}
use Rattle.wire.specs.Buffers.{all_zero}
use Rattle.wire.specs.Rules.{length_wrong, Rule, breach, zero_rules}
use Rattle.wire.proofs.Rules.{AllHold, Under, low, high, rest, under-append, under_more, hold-append, zeros-under, zeros-hold, hold-zeros}
use Rattle.wire.proofs.Lowest.{right-length, first-hold}
use Rattle.answer.specs.declared.Answer.TheVariants.{Done, PageLengthWrong, FieldWrong}
use Rattle.answer.specs.Answers.{is_done, sense_of, refusal_of}
use Rattle.answer.specs.declared.Answer.{Answer}
use Rattle.answer.specs.declared.Refusal.{Refusal}
use Rattle.status.specs.declared.Status.{Status}
use Rattle.answer.proofs.Numbers.{differ}
use Rattle.kad.specs.Kad.{no_kads}
use Rattle.kad.specs.Reading.{read_kads}
use Rattle.kad.specs.Rules.{list_rules}
use Rattle.kad.proofs.Reading.{reading-le}
use Rattle.kad.proofs.Few.{list-few}
use Rattle.kad.proofs.Lowest.{first-fault}
use Rattle.status.specs.Bytes.{status_byte4, status_byte12}
use Rattle.status.specs.Pages.{status_code}
use Rattle.status.specs.Rules.{descriptors_from, zeros_from, zeros_size, zero_bytes, scope_rules, field_rules, head_rules, status_rules}
use Rattle.status.specs.Reading.{StatusRead, told, ruled, read_of, values, refused_status, read_status}

-- ---- the bytes that the rules point to

-- bytes 0 to 4
pub open-under : (p : List ℕ) → Under 5 (scope_rules p)
unfolding scope_rules
open-under p = omega arith

-- bytes 5 to 23
pub field-under : (p : List ℕ) → Under descriptors_from (field_rules p)
unfolding field_rules
field-under p =
    let bytes = zero_bytes p in
    let ends : zeros_from + length bytes ≤ descriptors_from = omega (arith, length-take zeros_size (drop zeros_from p)) in
    let zeros = under_more (zero_rules zeros_from bytes) (zeros_from + length bytes) descriptors_from ends (zeros-under zeros_from bytes) in
    (omega arith, (omega arith, (omega arith, (omega arith, zeros))))

-- all before the descriptors
pub head-under : (p : List ℕ) → Under descriptors_from (head_rules p)
unfolding head_rules
head-under p = under-append (scope_rules p) (field_rules p) descriptors_from (under_more (scope_rules p) 5 descriptors_from (omega arith) (open-under p)) (field-under p)

-- ---- the ways

-- the descriptors' rules
abbrev pub descriptors_rules : List ℕ → List Rule
descriptors_rules p = list_rules (length (drop descriptors_from p)) descriptors_from (drop descriptors_from p) None

module _ (p : List ℕ) where
  -- a wrong length
  pub refused-length : length_wrong descriptors_from p ≡ true → read_status p ≡ refused_status PageLengthWrong
  unfolding read_status
  refused-length e = rw e refl

  module _ (l : length_wrong descriptors_from p ≡ false) where
    -- the page has its first 24 bytes
    pub long : descriptors_from ≤ length p
    long = (right-length descriptors_from p l).0

    -- a rule breaks before the page's end
    pub refused-field : (i : ℕ) → i ≡ breach (status_rules p) (length p) → i < length p → read_status p ≡ refused_status (FieldWrong i)
    unfolding read_status
    refused-field i e h = rw (l, ← e, lt-ltb i (length p) h) refl

    -- none does
    pub accepted : length p ≤ breach (status_rules p) (length p) → read_status p ≡ read_of (values p)
    unfolding read_status
    accepted h = rw (l, le-ltb (breach (status_rules p) (length p)) (length p) h) refl

    -- where the reader of the list finds the first fault, the first rule of a descriptor breaks
    list-breach : descriptors_from + (read_kads (drop descriptors_from p)).good ≡ breach (descriptors_rules p) (length p)
    list-breach =
        let rest = drop descriptors_from p in
        let ends : descriptors_from + length rest ≡ length p = omega (arith, length-drop descriptors_from p, long) in
        rw (← ends) (first-fault (length rest) descriptors_from rest None no_kads (le_refl (length rest)))

    -- a breach in the first 24 bytes is that of all
    pub head-breaks : (i : ℕ) → i ≡ breach (head_rules p) descriptors_from → i < descriptors_from → read_status p ≡ refused_status (FieldWrong i)
    head-breaks i e h =
        refused-field i (sym (low (head_rules p) (descriptors_rules p) (length p) descriptors_from i e h)) (omega (arith, long))

    -- where they hold, the descriptors decide
    list-decides : (i : ℕ) → i ≡ breach (head_rules p) descriptors_from → descriptors_from ≤ i → descriptors_from + (read_kads (drop descriptors_from p)).good ≡ breach (status_rules p) (length p)
    list-decides i e h = list-breach ∙ sym (high (head_rules p) (descriptors_rules p) (length p) descriptors_from i (head-under p) e h)

    -- a fault in the list
    pub list-breaks : (i end : ℕ) → i ≡ breach (head_rules p) descriptors_from → descriptors_from ≤ i → end ≡ descriptors_from + (read_kads (drop descriptors_from p)).good → end < length p
        → read_status p ≡ refused_status (FieldWrong end)
    list-breaks i end e h g b = refused-field end (g ∙ list-decides i e h) b

    -- no fault at all
    pub all-good : (i end : ℕ) → i ≡ breach (head_rules p) descriptors_from → descriptors_from ≤ i → end ≡ descriptors_from + (read_kads (drop descriptors_from p)).good → length p ≤ end
        → read_status p ≡ read_of (values p)
    all-good i end e h g b = accepted (rw (← list-decides i e h, ← g) b)

-- ---- an accepted page

-- what is known of it
pub record Accepted (p : List ℕ) : Type 0 where
  pub long : descriptors_from ≤ length p
  pub exact : word_at p 2 + 4 ≡ length p
  pub head : AllHold (head_rules p)
  pub list : (read_kads (drop descriptors_from p)).good ≡ length (drop descriptors_from p)
  pub is : read_status p ≡ read_of (values p)

-- a page in which no rule breaks
none-breaks : (p : List ℕ) → length_wrong descriptors_from p ≡ false → length p ≤ breach (status_rules p) (length p) → Accepted p
none-breaks p l h =
    let size = right-length descriptors_from p l in
    let n = length p in
    let under = under_more (head_rules p) descriptors_from n size.0 (head-under p) in
    let after : n ≤ descriptors_from + (read_kads (drop descriptors_from p)).good = rw (list-breach p l) (rest (head_rules p) (descriptors_rules p) n n under h) in
    record {
      long = size.0;
      exact = size.1;
      head = first-hold (head_rules p) (descriptors_rules p) n n under h;
      list = omega (arith, length-drop descriptors_from p, reading-le (drop descriptors_from p) None no_kads);
      is = accepted p l h;
    }

-- the first rule that breaks, before the page's end, points to a byte of which two bytes hold the number
small-fault : (p : List ℕ) → length_wrong descriptors_from p ≡ false → breach (status_rules p) (length p) < length p → breach (status_rules p) (length p) < 2 ^ 16
small-fault p l h =
    let fault = breach (head_rules p) descriptors_from in
    cases (ltb fault descriptors_from)
    (λ t. let b = ltb-true fault descriptors_from t in rw (low (head_rules p) (descriptors_rules p) (length p) descriptors_from fault refl b) (omega arith))
    (λ t.
    let rest = drop descriptors_from p in
    omega (arith, list-decides p l fault refl (ltb-false fault descriptors_from t), list-few (length rest) rest no_kads))

-- a page in which a rule breaks before its end
pub record Broken (p : List ℕ) : Type 0 where
  pub before : breach (status_rules p) (length p) < length p
  pub small : breach (status_rules p) (length p) < 2 ^ 16
  pub is : read_status p ≡ refused_status (FieldWrong (breach (status_rules p) (length p)))

-- each page has a wrong length, or a rule breaks, or it is accepted
pub ways : (p : List ℕ) → ((length_wrong descriptors_from p ≡ true) × (read_status p ≡ refused_status PageLengthWrong)) ⊎ (Broken p ⊎ Accepted p)
ways p =
    let fault = breach (status_rules p) (length p) in
    cases (length_wrong descriptors_from p) (λ w. inl (w, refused-length p w))
    (λ l.
    cases (ltb fault (length p)) (λ t. let b = ltb-true fault (length p) t in inr (inl (record { before = b; small = small-fault p l b; is = refused-field p l fault refl b })))
    (λ t. inr (inr (none-breaks p l (ltb-false fault (length p) t)))))

-- readings that are the same answer the same
pub answers : {r s : StatusRead} → r ≡ s → r.answer ≡ s.answer
answers e = ap (λ (x : StatusRead). x.answer) e

-- a page that is answered 0 is accepted
pub known : (p : List ℕ) → (read_status p).answer ≡ Done → Accepted p
known p d =
    ⊎_elim (λ e. differ PageLengthWrong Done (λ z. omega arith) (answers e.1) d)
    (λ x. ⊎_elim (λ b. differ (FieldWrong _) Done (λ z. omega arith) (answers b.is) d) (λ a. a) x) (ways p)

-- what the rules of the first 24 bytes say
pub record Head (p : List ℕ) : Type 0 where
  pub code : word_at p 0 ≡ status_code
  pub nexus_scope : (status_byte4 (byte_at p 4)).nexus_scope ≤ 2
  pub between : (status_byte4 (byte_at p 4)).zeros ≡ 0
  pub set_scope : (status_byte4 (byte_at p 4)).set_scope ≤ 2
  pub encryption : byte_at p 5 ≤ 2
  pub decryption : byte_at p 6 ≤ 3
  pub index : byte_at p 7 ≤ 1
  pub control : (status_byte12 (byte_at p 12)).zeros ≡ 0
  pub zeros : all_zero (zero_bytes p) ≡ true

-- where they hold
pub head-is : (p : List ℕ) → AllHold (head_rules p) → Head p
unfolding head_rules scope_rules field_rules
head-is p (code, (nexus_scope, (between, (set_scope, (encryption, (decryption, (index, (control, zeros)))))))) = record {
  code = eqb-true _ _ code;
  nexus_scope = leb-true _ _ nexus_scope;
  between = eqb-true _ _ between;
  set_scope = leb-true _ _ set_scope;
  encryption = leb-true _ _ encryption;
  decryption = leb-true _ _ decryption;
  index = leb-true _ _ index;
  control = eqb-true _ _ control;
  zeros = hold-zeros zeros_from (zero_bytes p) zeros;
}

-- and back
pub head-holds : (p : List ℕ) → Head p → AllHold (head_rules p)
unfolding head_rules scope_rules field_rules
head-holds p h =
    hold-append (scope_rules p) (field_rules p) (eq-eqb _ _ h.code, (le-leb _ _ h.nexus_scope, (eq-eqb _ _ h.between, (le-leb _ _ h.set_scope, tt))))
    (le-leb _ _ h.encryption, (le-leb _ _ h.decryption, (le-leb _ _ h.index, (eq-eqb _ _ h.control, zeros-hold zeros_from (zero_bytes p) h.zeros))))

-- ---- values or a refusal

-- values are told where the answer is 0
pub told-done : (r : StatusRead) (status : Status) → told r ≡ Ok status → (is_done r.answer ≡ true) × (r.status ≡ status)
told-done r status e = if-ok _ _ _ e

-- and otherwise the refusal
pub told-fault : (r : StatusRead) (x : Refusal) → told r ≡ Err x → (is_done r.answer ≡ false) × (r.answer ≡ x.answer)
told-fault r x e = let (f, is) = if-err _ _ _ e in (f, ap (λ (y : Refusal). y.answer) is)

-- told with the answer alone, values are given where the answer is 0
pub ruled-done : (r : StatusRead) (status : Status) → ruled r ≡ Ok status → (is_done r.answer ≡ true) × (r.status ≡ status)
ruled-done r status e = if-ok _ _ _ e

-- and otherwise the answer
pub ruled-fault : (r : StatusRead) (a : Answer) → ruled r ≡ Err a → (is_done r.answer ≡ false) × (r.answer ≡ a)
ruled-fault r a e = if-err _ _ _ e

-- the sense is the answer's
sensed : (p : List ℕ) → (read_status p).sense ≡ sense_of (read_status p).answer
unfolding read_status
sensed p =
    let fault = breach (status_rules p) (length p) in
    cases (length_wrong descriptors_from p) (λ t. rw t refl) (λ f. rw f (cases (ltb fault (length p)) (λ t. rw t refl) (λ g. rw g refl)))

-- values that the code's parts give are told
pub told-right : (p : List ℕ) (status : Status) → ruled (read_status p) ≡ Ok status → told (read_status p) ≡ Ok status
told-right p status e = let (t, is) = ruled-done (read_status p) status e in if-true _ _ _ t ∙ ap Ok is

-- and an answer, with its sense
pub told-wrong : (p : List ℕ) (a : Answer) → ruled (read_status p) ≡ Err a → told (read_status p) ≡ Err (refusal_of a)
told-wrong p a e =
    let r = read_status p in
    let (f, is) = ruled-fault r a e in
    if-false _ _ _ f ∙ ap (λ s. Err (record { answer = r.answer; sense = s })) (sensed p) ∙ ap (λ x. Err (refusal_of x)) is
