-- The byte of answer 8 is the lowest at which a rule of the page breaks, over its rules in the order of their bytes.
-- Assumes nothing.
use Rattle.std.specs.Prelude.{None}
use mathlib.Core.Path.{◌≡◌, refl, sym, ◌∙◌}
use mathlib.Core.Bool.{true, false}
use mathlib.Core.Logic.{inl, inr}
use mathlib.Core.List.{List, [], ◌∷◌, ◌++◌}
use Prim.Native.Nat.{ℕ, ◌+◌, ◌^◌, ◌<◌, ◌≤◌}
use native.Mathlib.Nat.{le_refl, add-zero}
use native.Mathlib.Omega.{arith}
use borrow.Author.Tests.{ltb-true, ltb-false, leb-true, le-leb}
use lib.Dec.{ltb, leb}
use lib.ListN.{length, drop, length-drop}
use Rattle.arrays.specs.Base.{when◌then◌else◌}
use Rattle.arrays.proofs.Base.{cases, clash, if-elim}
use Rattle.wire.specs.Rules.{length_wrong, Rule, rule, breach}
use Rattle.wire.proofs.Rules.{AllHold, Under, kept, none, low, high, Sorted, sorted-from, sorted-append, hold-append, under-append, under_more, zeros-sorted}
use Rattle.wire.proofs.Lowest.{right-length, breach-under, lowest-of}
use Rattle.answer.specs.declared.Answer.{Answer}
use Rattle.answer.specs.declared.Answer.TheVariants.{Done, PageLengthWrong, FieldWrong, FifthSupplementalKey}
use Rattle.pointing.specs.Judged.{Taken, Judged}
use Rattle.pointing.proofs.Judging.{judged-short, judged-wrong, judged-right}
use Rattle.kad.specs.Kad.{no_kads}
use Rattle.kad.specs.Reading.{listed}
use Rattle.kad.specs.Rules.{list_rules}
use Rattle.kad.proofs.Few.{list-few}
use Rattle.kad.proofs.Lowest.{list-sorted, list-hold, first-fault}
use Rattle.parameters.specs.Codes.{encrypts, needs_key}
use Rattle.parameters.specs.Fields.{key_size, supplemental_most}
use Rattle.page.specs.Fields.{is_public, sdk_of, reserved_from, reserved_bytes, key_from, encryption_of, decryption_of, key_length_of, key_end, list_of, listed_of}
use Rattle.page.specs.Rules.{open_rules, mode_rules, plain_rules, key_length, key_rules, set_rules, match_rules, end_rules, supplemental_rules}
use Rattle.page.specs.Check.{Checked, refused_page, public_page, supplemental_page, set_page, checked}
use Rattle.page.proofs.Parts.{open-under, mode-under, match-under, plain-under, key-under, set-hold, supplemental-hold, key_fits}

-- ---- the rules, as their tests stand in the definitions that the code cites

-- of what stands after the key: with ENCRYPT those of the descriptors; "Without ENCRYPT the list is empty"
unfoldable pub after_rules : List ℕ → List Rule
after_rules p =
    let rest = drop (key_end p) p in
    when encrypts (encryption_of p) then list_rules (length rest) (key_end p) rest None else rule (key_end p) (leb (length p) (key_end p)) ∷ []

-- past the page code and the scope
unfoldable pub inner_rules : List ℕ → ℕ → ℕ → List Rule
inner_rules p scope mode = when is_public p then [] else when sdk_of p then supplemental_rules p scope mode else set_rules p ++ after_rules p

-- all of them
abbrev pub page_rules : List ℕ → ℕ → ℕ → List Rule
page_rules p scope mode = open_rules p ++ inner_rules p scope mode

-- ---- they stand in the order of their bytes

-- those of bytes 8 to 17
plain-sorted : (p : List ℕ) → Sorted 8 (plain_rules p)
unfolding plain_rules
plain-sorted p = (omega arith, (omega arith, (omega arith, zeros-sorted 10 reserved_from (reserved_bytes p) (omega arith))))

-- those of the key
key-sorted : (p : List ℕ) (wanted : ℕ) → Sorted 18 (key_rules p wanted)
unfolding key_rules
key-sorted p wanted = omega arith

-- those of bytes 4 to 7, then of bytes 8 to 17, then others
parts-sorted : (xs ys : List Rule) (p : List ℕ) → Sorted 4 xs → Under 8 xs → Sorted 18 ys → Sorted 4 (xs ++ (plain_rules p ++ ys))
parts-sorted xs ys p s u t =
    sorted-append xs (plain_rules p ++ ys) 4 8 s u (omega arith) (sorted-append (plain_rules p) ys 8 18 (plain-sorted p) (plain-under p) (omega arith) t)

-- with SDK 1
supplemental-sorted : (p : List ℕ) (scope mode : ℕ) → Sorted 4 (supplemental_rules p scope mode)
unfolding supplemental_rules match_rules end_rules
supplemental-sorted p scope mode =
    parts-sorted (match_rules p scope mode) (key_rules p key_size ++ end_rules p) p (omega arith) (match-under p scope mode)
    (sorted-append (key_rules p key_size) (end_rules p) 18 19 (key-sorted p key_size) (key-under p key_size 19 (omega arith)) (omega arith) (omega arith))

-- which point below byte 53
supplemental-under : (p : List ℕ) (scope mode : ℕ) → Under 53 (supplemental_rules p scope mode)
unfolding supplemental_rules end_rules
supplemental-under p scope mode =
    let last = key_rules p key_size ++ end_rules p in
    under-append (match_rules p scope mode) (plain_rules p ++ last) 53 (under_more (match_rules p scope mode) 8 53 (omega arith) (match-under p scope mode))
    (under-append (plain_rules p) last 53 (under_more (plain_rules p) 18 53 (omega arith) (plain-under p))
    (under-append (key_rules p key_size) (end_rules p) 53 (key-under p key_size 53 (omega arith)) (omega arith)))

-- with SDK 0 up to the key's end
set-sorted : (p : List ℕ) → Sorted 4 (set_rules p)
unfolding set_rules mode_rules
set-sorted p = parts-sorted (mode_rules p) (key_rules p (key_length (encryption_of p) (decryption_of p))) p (omega arith) (mode-under p) (key-sorted p _)

-- which point below any byte after it
pub set-under : (p : List ℕ) (m : ℕ) → 19 ≤ m → Under m (set_rules p)
unfolding set_rules
set-under p m l =
    let keys = key_rules p (key_length (encryption_of p) (decryption_of p)) in
    under-append (mode_rules p) (plain_rules p ++ keys) m (under_more (mode_rules p) 8 m (omega arith) (mode-under p))
    (under-append (plain_rules p) keys m (under_more (plain_rules p) 18 m (omega arith) (plain-under p)) (key-under p _ m l))

-- the first fault of each, where it lies within the page, has a number that two bytes hold
pub open-fits : (p : List ℕ) (fault : ℕ) → fault ≡ breach (open_rules p) (length p) → fault < length p → fault < 2 ^ 16
open-fits p fault e l = let below = breach-under (open_rules p) (length p) 5 (open-under p) (rw e at l) in omega (arith, e)

pub supplemental-fits : (p : List ℕ) (scope mode fault : ℕ) → fault ≡ breach (supplemental_rules p scope mode) (length p) → fault < length p → fault < 2 ^ 16
supplemental-fits p scope mode fault e l =
    let below = breach-under (supplemental_rules p scope mode) (length p) 53 (supplemental-under p scope mode) (rw e at l) in
    omega (arith, e)

pub set-fits : (p : List ℕ) (fault : ℕ) → fault ≡ breach (set_rules p) (length p) → fault < length p → fault < 2 ^ 16
set-fits p fault e l = let below = breach-under (set_rules p) (length p) 20 (set-under p 20 (omega arith)) (rw e at l) in omega (arith, e)

-- after the key
after_sorted : (p : List ℕ) → Sorted 20 (after_rules p)
unfolding after_rules
after_sorted p =
    let rest = drop (key_end p) p in
    let rules = list_rules (length rest) (key_end p) rest None in
    cases (encrypts (encryption_of p)) (λ t. rw t (sorted-from rules 20 (key_end p) (omega arith) (list-sorted (length rest) (key_end p) rest None)))
    (λ t. rw t (omega arith, tt))

-- past the page code and the scope
pub inner-sorted : (p : List ℕ) (scope mode : ℕ) → Sorted 4 (inner_rules p scope mode)
unfolding inner_rules
inner-sorted p scope mode =
    cases (is_public p) (λ t. rw t tt)
    (λ t. cases (sdk_of p) (λ u. rw (t, u) (supplemental-sorted p scope mode))
    (λ u. rw (t, u) (sorted-append (set_rules p) (after_rules p) 4 20 (set-sorted p) (set-under p 20 (omega arith)) (omega arith) (after_sorted p))))

-- after them, others from byte 4 on
open-sorted : (p : List ℕ) (ys : List Rule) → Sorted 4 ys → Sorted 0 (open_rules p ++ ys)
unfolding open_rules
open-sorted p ys s = (omega arith, (omega arith, s))

-- all of them
pub page-sorted : (p : List ℕ) (scope mode : ℕ) → Sorted 0 (page_rules p scope mode)
page-sorted p scope mode = open-sorted p (inner_rules p scope mode) (inner-sorted p scope mode)

-- ---- the descriptors, or none

-- the first fault after the key is where the first rule breaks
after-fault : (p : List ℕ) → key_end p ≤ length p → key_end p + (listed_of p).good ≡ breach (after_rules p) (length p)
unfolding after_rules list_of
after-fault p l =
    let rest = drop (key_end p) p in
    let ends : key_end p + length rest ≡ length p = omega (arith, length-drop (key_end p) p) in
    cases (encrypts (encryption_of p)) (λ t. rw (t, ← ends) (first-fault (length rest) (key_end p) rest None no_kads (le_refl (length rest))))
    (λ t. rw t (cases (leb (length p) (key_end p)) (λ u. rw u (omega (arith, leb-true (length p) (key_end p) u))) (λ u. rw u (add-zero (key_end p)))))

-- and where it lies at the page's end, every rule holds
after-hold : (p : List ℕ) → key_end p ≤ length p → length p ≤ key_end p + (listed_of p).good → AllHold (after_rules p)
unfolding after_rules list_of
after-hold p l h =
    let rest = drop (key_end p) p in
    let size = length-drop (key_end p) p in
    cases (encrypts (encryption_of p))
    (λ t. rw t (let all : length p ≤ key_end p + (listed (length rest) rest None no_kads).good = rw t at h in list-hold (length rest) (key_end p) rest None no_kads (le_refl (length rest)) (omega arith)))
    (λ t. rw t (let all : length p ≤ key_end p + 0 = rw t at h in (le-leb (length p) (key_end p) (omega arith), tt)))

-- its number too is one that two bytes hold, where the key length is right
pub end_fits : (p : List ℕ) → key_length_of p ≡ key_length (encryption_of p) (decryption_of p) → key_end p + (listed_of p).good < 2 ^ 16
unfolding list_of
end_fits p e =
    let rest = drop (key_end p) p in
    let few : key_length (encryption_of p) (decryption_of p) ≤ key_size = if-elim (λ (n : ℕ). n ≤ key_size) (needs_key (encryption_of p) (decryption_of p)) (λ _. le_refl key_size) (λ _. omega arith) in
    cases (encrypts (encryption_of p)) (λ t. rw t (omega (arith, e, few, list-few (length rest) rest no_kads))) (λ t. rw t (omega (arith, e, few)))

-- ---- the parts held together

-- with SDK 0
set_all : (p : List ℕ) → AllHold (mode_rules p) × (AllHold (plain_rules p) × AllHold (key_rules p (key_length (encryption_of p) (decryption_of p)))) → AllHold (set_rules p)
unfolding set_rules
set_all p h =
    let keys = key_rules p (key_length (encryption_of p) (decryption_of p)) in
    hold-append (mode_rules p) (plain_rules p ++ keys) h.0 (hold-append (plain_rules p) keys h.1.0 h.1.1)

-- with SDK 1
supplemental-all : (p : List ℕ) (scope mode : ℕ) → AllHold (match_rules p scope mode) × (AllHold (plain_rules p) × (AllHold (key_rules p key_size) × AllHold (end_rules p))) → AllHold (supplemental_rules p scope mode)
unfolding supplemental_rules
supplemental-all p scope mode h =
    let last = key_rules p key_size ++ end_rules p in
    hold-append (match_rules p scope mode) (plain_rules p ++ last) h.0
    (hold-append (plain_rules p) last h.1.0 (hold-append (key_rules p key_size) (end_rules p) h.1.1.0 h.1.1.1))

-- ---- the whole check

-- what is said of an answer to the page
abbrev Verdict : Type 0 → List ℕ → List Rule → Checked → Type 0
Verdict asked p rules c = Judged asked rules p c.answer

module _ (asked : Type 0) (p : List ℕ) (ys : List Rule) (sorted : Sorted 4 ys) (opens : AllHold (open_rules p)) where
  -- where the page code and the scope are right, a breach of the others before the page's end is the lowest
  others-wrong : (i : ℕ) → i ≡ breach ys (length p) → i < length p → i < 2 ^ 16 → Verdict asked p (open_rules p ++ ys) (refused_page (FieldWrong i))
  others-wrong i e l small =
      let first = high (open_rules p) ys (length p) 5 5 (open-under p) (sym (none (open_rules p) 5 opens)) (le_refl 5) in
      judged-wrong asked (open_rules p ++ ys) p _ i (lowest-of (open_rules p ++ ys) (length p) i (open-sorted p ys sorted) (e ∙ sym first) l) l small refl

  -- and where the others hold, the page is done
  others-right : (a : Answer) → Taken a → AllHold ys → Judged asked (open_rules p ++ ys) p a
  others-right a t h = judged-right asked (open_rules p ++ ys) p a (hold-append (open_rules p) ys opens h) t

module _ (asked : Type 0) (p : List ℕ) (long : key_from ≤ length p) (opens : AllHold (open_rules p)) where
  -- a page with SDK 1
  supplemental-verdict : (scope mode count : ℕ) → Verdict asked p (open_rules p ++ supplemental_rules p scope mode) (supplemental_page p scope mode count)
  unfolding supplemental_page
  supplemental-verdict scope mode count =
      let rules = supplemental_rules p scope mode in
      let fault = breach rules (length p) in
      let sorted = supplemental-sorted p scope mode in
      cases (ltb fault (length p))
      (λ t.
      let lt = ltb-true fault (length p) t in
      rw t (others-wrong asked p rules sorted opens fault refl lt (supplemental-fits p scope mode fault refl lt)))
      (λ t.
      let all = supplemental-all p scope mode (supplemental-hold p scope mode long (ltb-false fault (length p) t)) in
      cases (leb supplemental_most count) (λ u. rw (t, u) (others-right asked p rules sorted opens FifthSupplementalKey (inr (inl refl)) all))
      (λ u. rw (t, u) (others-right asked p rules sorted opens Done (inl refl) all)))

  -- a page with SDK 0
  set-verdict : Verdict asked p (open_rules p ++ (set_rules p ++ after_rules p)) (set_page p)
  unfolding set_page
  set-verdict =
      let n = length p in
      let rules = set_rules p ++ after_rules p in
      let fault = breach (set_rules p) n in
      let end = key_end p + (listed_of p).good in
      let under = set-under p n (omega arith) in
      let sorted = sorted-append (set_rules p) (after_rules p) 4 20 (set-sorted p) (set-under p 20 (omega arith)) (omega arith) (after_sorted p) in
      cases (ltb fault n)
      (λ t.
      let lt = ltb-true fault n t in
      rw t (others-wrong asked p rules sorted opens fault (sym (low (set_rules p) (after_rules p) n n fault refl lt)) lt (set-fits p fault refl lt)))
      (λ t.
      let le = ltb-false fault n t in
      let held = set-hold p long le in
      let key = key_fits p _ held.1.1 in
      let fits = key.1 in
      cases (ltb end n)
      (λ u. rw (t, u) (others-wrong asked p rules sorted opens end (after-fault p fits ∙ sym (high (set_rules p) (after_rules p) n n fault under refl le)) (ltb-true end n u) (end_fits p key.0)))
      (λ u. rw (t, u) (others-right asked p rules sorted opens Done (inl refl) (hold-append (set_rules p) (after_rules p) (set_all p held) (after-hold p fits (ltb-false end n u))))))

-- A page's answer is judged by the lowest byte at which a rule breaks.
pub page-verdict : (asked : Type 0) (p : List ℕ) (scope mode count : ℕ) → (asked → length_wrong key_from p ≡ false) → Verdict asked p (page_rules p scope mode) (checked p scope mode count)
unfolding checked inner_rules public_page
page-verdict asked p scope mode count sized =
    cases (length_wrong key_from p) (λ e. rw e (judged-short asked (page_rules p scope mode) p _ (λ a. clash e (sized a)) refl))
    (λ e.
    let long = (right-length key_from p e).0 in
    let n = length p in
    let fault = breach (open_rules p) n in
    let under = under_more (open_rules p) 5 n (omega arith) (open-under p) in
    cases (ltb fault n)
    (λ t.
    let lt = ltb-true fault n t in
    rw (e, t) (judged-wrong asked (page_rules p scope mode) p _ fault (lowest-of (page_rules p scope mode) n fault (page-sorted p scope mode) (sym (low (open_rules p) (inner_rules p scope mode) n n fault refl lt)) lt) lt (open-fits p fault refl lt) refl))
    (λ t.
    let opens = kept (open_rules p) n n under (ltb-false fault n t) in
    cases (is_public p) (λ u. rw (e, t, u) (others-right asked p [] tt opens Done (inl refl) tt))
    (λ u. cases (sdk_of p) (λ v. rw (e, t, u, v) (supplemental-verdict asked p long opens scope mode count)) (λ v. rw (e, t, u, v) (set-verdict asked p long opens)))))

-- a page whose length is wrong is answered 7
pub length-verdict : (p : List ℕ) (scope mode count : ℕ) → length_wrong key_from p ≡ true → checked p scope mode count ≡ refused_page PageLengthWrong
unfolding checked
length-verdict p scope mode count e = rw e refl
