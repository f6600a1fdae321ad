-- What is known of an accepted page: a PUBLIC one, one with a supplemental key, or one that makes a set.
-- Assumes nothing.
use Rattle.std.specs.Prelude.{None}
use mathlib.Core.Path.{◌≡◌, refl, ap}
use mathlib.Core.Bool.{Bool, true, false, not, ◌&&◌}
use mathlib.Core.Logic.{◌⊎◌, inl, inr}
use mathlib.Core.List.{List}
use Prim.Native.Nat.{ℕ, ◌+◌, ◌<◌, ◌≤◌}
use native.Mathlib.Omega.{arith}
use borrow.Author.Tests.{eqb-true, eqb-false, leb-true, leb-false, ltb-false, not-true}
use lib.Dec.{ltb, leb, eqb}
use lib.ListN.{length, take, drop}
use Rattle.arrays.specs.Base.{when◌then◌else◌}
use Rattle.arrays.proofs.Base.{cases, and_left, and_right, if-elim}
use Rattle.wire.specs.Rules.{length_wrong, breach}
use Rattle.wire.proofs.Stores.{length-padded}
use Rattle.wire.proofs.Rules.{AllHold, kept, under_more, held-at}
use Rattle.wire.proofs.Lowest.{right-length}
use Rattle.answer.specs.Answers.{number_of}
use Rattle.answer.specs.declared.Answer.{Answer}
use Rattle.answer.specs.declared.Answer.TheVariants.{Done, PageLengthWrong, FieldWrong, FifthSupplementalKey}
use Rattle.kad.specs.Kad.{no_kads}
use Rattle.kad.proofs.Good.{Good, good_none, good-listed}
use Rattle.parameters.specs.Codes.{encrypts, decrypts}
use Rattle.parameters.specs.Fields.{key_size, only_key, no_fields, supplemental_most}
use Rattle.page.specs.Fields.{key_from, scope_of, is_public, ceem_of, rdmc_of, sdk_of, encryption_of, decryption_of, index_of, key_length_of, key_end, list_of, listed_of}
use Rattle.page.specs.Rules.{open_rules, ceem_wrong, mode_rules, plain_rules, set_rules, match_rules, supplemental_rules}
use Rattle.page.specs.Check.{Checked, refused_page, public_page, supplemental_page, set_said, set_page, checked}
use Rattle.page.specs.declared.Page.{Page}
use Rattle.page.proofs.Parts.{two-or-three, open-under, set-hold, supplemental-hold}

-- a PUBLIC page: "only SCOPE and LOCK are read"
pub record IsPublic (page : Page) : Type 0 where
  pub public : page.scope ≡ 0
  pub fresh : page.supplemental ≡ false
  pub fields : page.fields ≡ no_fields

-- LOCAL or ALL
pub record Scoped (page : Page) : Type 0 where
  pub used : 1 ≤ page.scope
  pub known : page.scope ≤ 2

-- a page with SDK 1, from a nexus with this scope whose set has this decryption mode and so many supplemental keys
pub record IsSupplemental (scope mode count : ℕ) (page : Page) : Type 0 where
  pub supplemental : page.supplemental ≡ true
  pub unlocked : page.lock ≡ false
  pub scoped : Scoped page
  pub same : page.scope ≡ scope
  pub deciphers : (mode ≡ 2) ⊎ (mode ≡ 3)
  pub room : count < supplemental_most
  pub sized : length page.fields.key ≡ key_size
  pub fields : page.fields ≡ only_key page.fields.key

-- a page with SDK 0
pub record IsSet (page : Page) : Type 0 where
  pub fresh : page.supplemental ≡ false
  pub scoped : Scoped page
  pub encryption : page.fields.encryption ≤ 2
  pub decryption : page.fields.decryption ≤ 3
  pub index : page.fields.index ≡ 1
  pub ceem : page.fields.ceem ≤ 3
  pub paired : ceem_wrong page.fields.ceem page.fields.decryption ≡ false
  pub sized : length page.fields.key ≡ key_size
  pub kads : Good page.fields.kads

-- ---- what single rules say

-- SCOPE is known
scope-known : (p : List ℕ) → AllHold (open_rules p) → scope_of p ≤ 2
unfolding open_rules
scope-known p h = leb-true _ _ (and_left (leb (scope_of p) 2) _ (held-at 4 (open_rules p) h))

-- the encryption mode is known
encryption-known : (p : List ℕ) → AllHold (mode_rules p) → encryption_of p ≤ 2
unfolding mode_rules
encryption-known p h = leb-true _ _ (and_left (leb (encryption_of p) 2) _ (held-at 6 (mode_rules p) h))

-- and the decryption mode
decryption-known : (p : List ℕ) → AllHold (mode_rules p) → decryption_of p ≤ 3
unfolding mode_rules
decryption-known p h = leb-true _ _ (and_left (leb (decryption_of p) 3) _ (held-at 7 (mode_rules p) h))

-- CEEM goes with it
ceem-right : (p : List ℕ) → AllHold (mode_rules p) → ceem_wrong (ceem_of p) (decryption_of p) ≡ false
unfolding mode_rules
ceem-right p h = not-true _ (and_left _ _ (and_right (not (encrypts (encryption_of p) && eqb (rdmc_of p) 1)) _ (held-at 5 (mode_rules p) h)))

-- the algorithm index is 1
index-known : (p : List ℕ) → AllHold (plain_rules p) → index_of p ≡ 1
unfolding plain_rules
index-known p h = eqb-true _ _ (and_left (eqb (index_of p) 1) _ (held-at 8 (plain_rules p) h))

-- with SDK 1, SCOPE is the nexus's scope
scope-same : (p : List ℕ) (scope mode : ℕ) → AllHold (match_rules p scope mode) → scope_of p ≡ scope
unfolding match_rules
scope-same p scope mode h = eqb-true _ _ (and_left (eqb (scope_of p) scope) _ (held-at 4 (match_rules p scope mode) h))

-- and the set's mode decrypts
mode-decrypts : (p : List ℕ) (scope mode : ℕ) → AllHold (match_rules p scope mode) → decrypts mode ≡ true
unfolding match_rules
mode-decrypts p scope mode h = and_left (decrypts mode) _ (and_right (eqb (decryption_of p) mode) _ (held-at 7 (match_rules p scope mode) h))

-- what is read after the key is good
list-good : (encryption : ℕ) (rest : List ℕ) → Good (list_of encryption rest).kads
unfolding list_of
list-good encryption rest =
    cases (encrypts encryption) (λ t. rw t (good-listed (length rest) rest None no_kads good_none)) (λ t. rw t good_none)

-- ---- past the refusals

-- a refusal isn't done
past-refusal : (P : Checked → Type 0) (b : Bool) (answer : Answer) (y : Checked) → (number_of answer ≡ 0 → ⊥)
    → (b ≡ false → y.answer ≡ Done → P y) → (when b then refused_page answer else y).answer ≡ Done → P (when b then refused_page answer else y)
past-refusal P true answer y n f e = absurd (n (ap number_of e))
past-refusal P false answer y n f e = f refl e

module _ (p : List ℕ) (long : key_from ≤ length p) (opens : AllHold (open_rules p)) (used : is_public p ≡ false) where
  -- LOCAL or ALL
  scope-in : (1 ≤ scope_of p) × (scope_of p ≤ 2)
  scope-in = let some = eqb-false (scope_of p) 0 used in (omega arith, scope-known p opens)

  -- with SDK 1
  supplemental-accepted : (scope mode count : ℕ) → (supplemental_page p scope mode count).answer ≡ Done → IsSupplemental scope mode count (supplemental_page p scope mode count).page
  unfolding supplemental_page
  supplemental-accepted scope mode count =
      let n = length p in
      let fault = breach (supplemental_rules p scope mode) n in
      let P : Checked → Type 0 = λ c. IsSupplemental scope mode count c.page in
      past-refusal P (ltb fault n) (FieldWrong fault) _ (λ z. omega arith)
      (λ t.
      let held = (supplemental-hold p scope mode long (ltb-false fault n t)).0 in
      past-refusal P (leb supplemental_most count) FifthSupplementalKey _ (λ z. omega arith)
      (λ u d. record {
        supplemental = refl;
        unlocked = refl;
        scoped = record { used = scope-in.0; known = scope-in.1 };
        same = scope-same p scope mode held;
        deciphers = two-or-three mode (mode-decrypts p scope mode held);
        room = leb-false supplemental_most count u;
        sized = length-padded key_size (take (key_length_of p) (drop key_from p));
        fields = refl;
      }))

  -- with SDK 0
  set-accepted : (set_page p).answer ≡ Done → IsSet (set_page p).page
  unfolding set_page
  set-accepted =
      let n = length p in
      let fault = breach (set_rules p) n in
      let end = key_end p + (listed_of p).good in
      let P : Checked → Type 0 = λ c. IsSet c.page in
      past-refusal P (ltb fault n) (FieldWrong fault) _ (λ z. omega arith)
      (λ t.
      let held = set-hold p long (ltb-false fault n t) in
      past-refusal P (ltb end n) (FieldWrong end) _ (λ z. omega arith)
      (λ u d. record {
        fresh = refl;
        scoped = record { used = scope-in.0; known = scope-in.1 };
        encryption = encryption-known p held.0;
        decryption = decryption-known p held.0;
        index = index-known p held.1.0;
        ceem = omega arith;
        paired = ceem-right p held.0;
        sized = length-padded key_size (take (key_length_of p) (drop key_from p));
        kads = list-good (encryption_of p) (drop (key_end p) p);
      }))

-- An accepted page is PUBLIC and has no fields, or brings a supplemental key to the nexus's set, or makes a set whose codes and lengths are in range.
pub accepted-page : (p : List ℕ) (scope mode count : ℕ) → (checked p scope mode count).answer ≡ Done
    → IsPublic (checked p scope mode count).page ⊎ (IsSupplemental scope mode count (checked p scope mode count).page ⊎ IsSet (checked p scope mode count).page)
unfolding checked public_page
accepted-page p scope mode count =
    let n = length p in
    let fault = breach (open_rules p) n in
    let P : Checked → Type 0 = λ c. IsPublic c.page ⊎ (IsSupplemental scope mode count c.page ⊎ IsSet c.page) in
    past-refusal P (length_wrong key_from p) PageLengthWrong _ (λ z. omega arith)
    (λ e.
    let long = (right-length key_from p e).0 in
    past-refusal P (ltb fault n) (FieldWrong fault) _ (λ z. omega arith)
    (λ t.
    let opens = kept (open_rules p) n n (under_more (open_rules p) 5 n (omega arith) (open-under p)) (ltb-false fault n t) in
    if-elim (λ (c : Checked). c.answer ≡ Done → P c) (is_public p) (λ u d. inl (record { public = refl; fresh = refl; fields = refl }))
    (λ u. if-elim (λ (c : Checked). c.answer ≡ Done → P c) (sdk_of p) (λ v d. inr (inl (supplemental-accepted p long opens u scope mode count d))) (λ v d. inr (inr (set-accepted p long opens u d))))))

-- An accepted page that is LOCAL or ALL with SDK 0 says what its bytes say.
pub set_says : (p : List ℕ) (scope mode count : ℕ) → is_public p ≡ false → sdk_of p ≡ false → (checked p scope mode count).answer ≡ Done → (checked p scope mode count).page ≡ set_said p
unfolding checked set_page
set_says p scope mode count u v =
    let n = length p in
    let P : Checked → Type 0 = λ c. c.page ≡ set_said p in
    past-refusal P (length_wrong key_from p) PageLengthWrong _ (λ z. omega arith)
    (λ e. past-refusal P (ltb (breach (open_rules p) n) n) (FieldWrong _) _ (λ z. omega arith)
    (λ t. rw (u, v) (past-refusal P (ltb (breach (set_rules p) n) n) (FieldWrong _) _ (λ z. omega arith)
    (λ k. past-refusal P (ltb (key_end p + (listed_of p).good) n) (FieldWrong _) _ (λ z. omega arith) (λ l d. refl)))))
