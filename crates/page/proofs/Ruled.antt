-- The check told as a page or an answer, by rules tried in turn.
-- Assumes nothing.
use mathlib.Core.Path.{◌≡◌, refl, ap, ◌∙◌}
use mathlib.Core.Bool.{Bool, true, false}
use mathlib.Core.List.{List, ◌++◌}
use Prim.Native.Nat.{ℕ, ◌+◌, ◌^◌, ◌<◌, ◌≤◌}
use native.Mathlib.Omega.{arith}
use borrow.Author.Tests.{lt-ltb, le-ltb, leb-true, leb-false}
use lib.Dec.{ltb, leb}
use lib.ListN.{length}
use Rattle.std.specs.Prelude.{Ok, Err}
use Rattle.arrays.specs.Base.{when◌then◌else◌}
use Rattle.arrays.proofs.Base.{clash, if-true, if-false, if-ok, if-err}
use Rattle.wire.specs.Rules.{length_wrong, Rule, breach}
use Rattle.wire.proofs.Rules.{under_more}
use Rattle.wire.proofs.Lowest.{right-length}
use Rattle.answer.specs.Answers.{is_done, sense_of, refusal_of}
use Rattle.answer.specs.declared.Answer.{Answer}
use Rattle.answer.specs.declared.Refusal.{Refusal}
use Rattle.answer.specs.declared.Answer.TheVariants.{PageLengthWrong, FieldWrong, FifthSupplementalKey}
use Rattle.pointing.specs.Faulted.{faulted}
use Rattle.pointing.proofs.Faulted.{Within, within_under, within-append, first-broken, none-broken}
use Rattle.parameters.specs.Fields.{key_size, only_key, supplemental_most}
use Rattle.page.specs.Fields.{key_from, scope_of, is_public, lock_of, sdk_of, encryption_of, decryption_of, key_length_of, key_end, key_of, listed_of}
use Rattle.page.specs.Rules.{open_rules, plain_rules, key_length, key_rules, set_rules, match_rules, end_rules, supplemental_rules}
use Rattle.page.specs.Check.{Checked, no_page, refused_page, accepted_page, public_page, supplemental_page, set_said, set_page, checked, told, ruled}
use Rattle.page.specs.declared.Page.{Page}
use Rattle.page.proofs.Parts.{open-under, match-under, plain-under, key-under, set-hold, supplemental-hold, key_fits}
use Rattle.page.proofs.Lowest.{set-under, end_fits}

-- what is checked once the rules are tried
abbrev tried : List Rule → ℕ → Checked → Checked
tried rs n later = let fault = breach rs n in when ltb fault n then refused_page (FieldWrong fault) else later

-- a rule breaks
tried-wrong : (rs : List Rule) (n : ℕ) (later : Checked) (a : Answer) → Within n rs → faulted rs ≡ Err a → ruled (tried rs n later) ≡ Err a
tried-wrong rs n later a w e = let b = first-broken rs n a w e in rw (lt-ltb _ _ b.0, b.1) refl

-- all hold
tried-right : (rs : List Rule) (n : ℕ) (later : Checked) → faulted rs ≡ Ok tt → tried rs n later ≡ later
tried-right rs n later e = let same = none-broken rs n e in rw (same, le-ltb n n (omega arith)) refl

module _ (p : List ℕ) (long : key_from ≤ length p) where
  -- ---- SDK 0

  pub set-wrong : (a : Answer) → faulted (set_rules p) ≡ Err a → ruled (set_page p) ≡ Err a
  unfolding set_page
  set-wrong a e = tried-wrong (set_rules p) (length p) _ a (within_under (length p) (set_rules p) (set-under p (length p) (omega arith))) e

  module _ (right : faulted (set_rules p) ≡ Ok tt) where
    -- the key has the length that is asked, and lies within the page
    pub set-key : (key_length_of p ≡ key_length (encryption_of p) (decryption_of p)) × (key_end p ≤ length p)
    set-key = let same = none-broken (set_rules p) (length p) right in key_fits p _ (set-hold p long (omega arith)).1.1

    -- where the list ends is a number that two bytes hold
    pub set-end : key_end p + (listed_of p).good < 2 ^ 16
    set-end = end_fits p set-key.0

    pub set-over : leb (length p) (key_end p + (listed_of p).good) ≡ false → ruled (set_page p) ≡ Err (FieldWrong (key_end p + (listed_of p).good))
    unfolding set_page
    set-over e = ap ruled (tried-right (set_rules p) (length p) _ right) ∙ rw (lt-ltb _ _ (leb-false _ _ e)) refl

    pub set-right : leb (length p) (key_end p + (listed_of p).good) ≡ true → ruled (set_page p) ≡ Ok (set_said p)
    unfolding set_page
    set-right e = ap ruled (tried-right (set_rules p) (length p) _ right) ∙ rw (le-ltb _ _ (leb-true _ _ e)) refl

  -- ---- SDK 1

  module _ (scope mode count : ℕ) where
    -- a rule that breaks points within the page
    supplemental-within : Within (length p) (supplemental_rules p scope mode)
    unfolding supplemental_rules end_rules
    supplemental-within =
        let n = length p in
        let key = key_rules p key_size in
        let last = key ++ end_rules p in
        within-append n (match_rules p scope mode) (plain_rules p ++ last) (within_under n (match_rules p scope mode) (under_more (match_rules p scope mode) 8 n (omega arith) (match-under p scope mode)))
        (within-append n (plain_rules p) last (within_under n (plain_rules p) (under_more (plain_rules p) 18 n (omega arith) (plain-under p)))
        (within-append n key (end_rules p) (within_under n key (key-under p key_size n (omega arith))) ((λ e. leb-false _ _ e), tt)))

    pub supplemental-wrong : (a : Answer) → faulted (supplemental_rules p scope mode) ≡ Err a → ruled (supplemental_page p scope mode count) ≡ Err a
    unfolding supplemental_page
    supplemental-wrong a e = tried-wrong (supplemental_rules p scope mode) (length p) _ a supplemental-within e

    module _ (right : faulted (supplemental_rules p scope mode) ≡ Ok tt) where
      pub supplemental-key : key_end p ≤ length p
      supplemental-key = let same = none-broken (supplemental_rules p scope mode) (length p) right in (key_fits p _ (supplemental-hold p scope mode long (omega arith)).1.1.0).1

      pub supplemental-full : leb supplemental_most count ≡ true → ruled (supplemental_page p scope mode count) ≡ Err FifthSupplementalKey
      unfolding supplemental_page
      supplemental-full e = ap ruled (tried-right (supplemental_rules p scope mode) (length p) _ right) ∙ rw e refl

      pub supplemental-right : leb supplemental_most count ≡ false
          → ruled (supplemental_page p scope mode count) ≡ Ok (record { scope = scope_of p; lock = false; supplemental = true; fields = only_key (key_of p) })
      unfolding supplemental_page
      supplemental-right e = ap ruled (tried-right (supplemental_rules p scope mode) (length p) _ right) ∙ rw e refl

module _ (p : List ℕ) (scope mode count : ℕ) where
  -- ---- the whole check

  pub short : length_wrong key_from p ≡ true → ruled (checked p scope mode count) ≡ Err PageLengthWrong
  unfolding checked
  short e = rw e refl

  module _ (sized : length_wrong key_from p ≡ false) where
    -- the page has its first 20 bytes
    pub long : key_from ≤ length p
    long = (right-length key_from p sized).0

    pub open-wrong : (a : Answer) → faulted (open_rules p) ≡ Err a → ruled (checked p scope mode count) ≡ Err a
    unfolding checked
    open-wrong a e =
        let under = under_more (open_rules p) 5 (length p) (omega (arith, long)) (open-under p) in
        rw sized (tried-wrong (open_rules p) (length p) _ a (within_under (length p) (open_rules p) under) e)

    pub open-right : faulted (open_rules p) ≡ Ok tt → checked p scope mode count ≡ (when is_public p then public_page (lock_of p) else when sdk_of p then supplemental_page p scope mode count else set_page p)
    unfolding checked
    open-right e = rw sized (tried-right (open_rules p) (length p) _ e)

-- ---- a page or a refusal

-- a page is told where the answer is 0
pub told-done : (c : Checked) (page : Page) → told c ≡ Ok page → (is_done c.answer ≡ true) × (c.page ≡ page)
told-done c page e = if-ok _ _ _ e

-- and otherwise the refusal
pub told-fault : (c : Checked) (x : Refusal) → told c ≡ Err x → (is_done c.answer ≡ false) × (c.answer ≡ x.answer)
told-fault c x e = let (f, is) = if-err _ _ _ e in (f, ap (λ (y : Refusal). y.answer) is)

-- told with the answer alone, a page is given where the answer is 0
pub ruled-done : (c : Checked) (page : Page) → ruled c ≡ Ok page → (is_done c.answer ≡ true) × (c.page ≡ page)
ruled-done c page e = if-ok _ _ _ e

-- and otherwise the answer
pub ruled-fault : (c : Checked) (a : Answer) → ruled c ≡ Err a → (is_done c.answer ≡ false) × (c.answer ≡ a)
ruled-fault c a e = if-err _ _ _ e

-- the sense is the answer's, and of a page that is refused none of its values is read
pub record Blank (c : Checked) : Type 0 where
  pub sensed : c.sense ≡ sense_of c.answer
  pub unread : is_done c.answer ≡ false → c.page ≡ no_page

refused-blank : (a : Answer) → Blank (refused_page a)
refused-blank a = record { sensed = refl; unread = λ f. refl }

accepted_blank : (page : Page) → Blank (accepted_page page)
accepted_blank page = record { sensed = refl; unread = λ f. clash refl f }

either_blank : (b : Bool) {x y : Checked} → Blank x → Blank y → Blank (when b then x else y)
either_blank true x y = x
either_blank false x y = y

pub set-blank : (p : List ℕ) → Blank (set_page p)
unfolding set_page
set-blank p =
    let n = length p in
    either_blank (ltb (breach (set_rules p) n) n) (refused-blank (FieldWrong (breach (set_rules p) n)))
    (either_blank (ltb (key_end p + (listed_of p).good) n) (refused-blank (FieldWrong (key_end p + (listed_of p).good))) (accepted_blank (set_said p)))

pub supplemental-blank : (p : List ℕ) (scope mode count : ℕ) → Blank (supplemental_page p scope mode count)
unfolding supplemental_page
supplemental-blank p scope mode count =
    let n = length p in
    either_blank (ltb (breach (supplemental_rules p scope mode) n) n) (refused-blank (FieldWrong (breach (supplemental_rules p scope mode) n)))
    (either_blank (leb supplemental_most count) (refused-blank FifthSupplementalKey) (accepted_blank _))

pub blank : (p : List ℕ) (scope mode count : ℕ) → Blank (checked p scope mode count)
unfolding checked public_page
blank p scope mode count =
    let n = length p in
    either_blank (length_wrong key_from p) (refused-blank PageLengthWrong)
    (either_blank (ltb (breach (open_rules p) n) n) (refused-blank (FieldWrong (breach (open_rules p) n)))
    (either_blank (is_public p) (accepted_blank _)
    (either_blank (sdk_of p) (supplemental-blank p scope mode count) (set-blank p))))

-- a page that is ruled is told
pub told-right : (c : Checked) (page : Page) → ruled c ≡ Ok page → told c ≡ Ok page
told-right c page e = let (t, is) = ruled-done c page e in if-true _ _ _ t ∙ ap Ok is

-- and an answer, with its sense
pub told-wrong : (c : Checked) → Blank c → (a : Answer) → ruled c ≡ Err a → told c ≡ Err (refusal_of a)
told-wrong c b a e =
    let (f, is) = ruled-fault c a e in
    if-false _ _ _ f ∙ ap (λ s. Err (record { answer = c.answer; sense = s })) b.sensed ∙ ap (λ x. Err (refusal_of x)) is
