-- Document 01, "The Set Data Encryption page (0010h)": the whole check. Answer 8 carries the faulty byte (document 02, request 6).
-- Besides the page it is given the nexus's scope, its set's decryption mode and its count of supplemental keys.
use Rattle.std.specs.Prelude.{ℕ, ◌+◌, Bool, true, false, List, ltb, leb, length, Result, Ok, Err}
use Rattle.arrays.specs.Base.{when◌then◌else◌}
use Rattle.wire.specs.Rules.{length_wrong, breach}
use Rattle.answer.specs.Answers.{is_done, sense_of}
use Rattle.answer.specs.declared.Answer.{Answer}
use Rattle.answer.specs.declared.Sense.{Sense}
use Rattle.answer.specs.declared.Refusal.{Refusal}
use Rattle.answer.specs.declared.Answer.TheVariants.{Done, PageLengthWrong, FieldWrong, FifthSupplementalKey}
use Rattle.parameters.specs.Fields.{only_key, no_fields, supplemental_most}
use Rattle.parameters.specs.Codes.{public_scope}
use Rattle.page.specs.Fields.{key_from, scope_of, is_public, lock_of, sdk_of, key_end, key_of, listed_of, set_fields}
use Rattle.page.specs.Rules.{open_rules, set_rules, supplemental_rules}
use Rattle.page.specs.declared.Page.{Page}

-- what the check answers, and the page (zeros where refused)
pub record Checked : Type 0 where
  pub answer : Answer
  pub sense : Sense
  pub page : Page

-- a page with none of its values read: what a refusal carries
abbrev pub no_page : Page
no_page = record { scope = 0; lock = false; supplemental = false; fields = no_fields }

abbrev pub refused_page : Answer → Checked
refused_page answer = record { answer = answer; sense = sense_of answer; page = no_page }

abbrev pub accepted_page : Page → Checked
accepted_page page = record { answer = Done; sense = sense_of Done; page = page }

-- "With PUBLIC, past the page code and length only SCOPE and LOCK are read"
unfoldable pub public_page : Bool → Checked
public_page lock = accepted_page (record { scope = public_scope; lock = lock; supplemental = false; fields = no_fields })

-- LOCAL or ALL, SDK 1: "Then answer 9 if the set has 4 already"
unfoldable pub supplemental_page : List ℕ → ℕ → ℕ → ℕ → Checked
supplemental_page p scope mode count =
    let fault = breach (supplemental_rules p scope mode) (length p) in
    when ltb fault (length p) then refused_page (FieldWrong fault)
    else when leb supplemental_most count then refused_page FifthSupplementalKey
    else accepted_page (record { scope = scope_of p; lock = false; supplemental = true; fields = only_key (key_of p) })

-- what a page says that makes a set
abbrev pub set_said : List ℕ → Page
set_said p = record { scope = scope_of p; lock = lock_of p; supplemental = false; fields = set_fields p }

-- LOCAL or ALL, SDK 0: the fixed part, then the descriptors, of which "the last ends with the page"
unfoldable pub set_page : List ℕ → Checked
set_page p =
    let fault = breach (set_rules p) (length p) in
    let end = key_end p + (listed_of p).good in
    when ltb fault (length p) then refused_page (FieldWrong fault)
    else when ltb end (length p) then refused_page (FieldWrong end)
    else accepted_page (set_said p)

-- "Answer 7: fewer than 20 bytes, or page length plus 4 isn't the byte count. Answer 8 in every other fault"
unfoldable pub checked : List ℕ → ℕ → ℕ → ℕ → Checked
checked p scope mode count =
    let fault = breach (open_rules p) (length p) in
    when length_wrong key_from p then refused_page PageLengthWrong
    else when ltb fault (length p) then refused_page (FieldWrong fault)
    else when is_public p then public_page (lock_of p)
    else when sdk_of p then supplemental_page p scope mode count
    else set_page p

-- the page where it is done, and otherwise the refusal: "A refused answer carries its number and sense only."
abbrev pub told : Checked → Result Page Refusal
told c = when is_done c.answer then Ok c.page else Err (record { answer = c.answer; sense = c.sense })

-- the same with the answer alone, which is what rules tried in turn tell
abbrev pub ruled : Checked → Result Page Answer
ruled c = when is_done c.answer then Ok c.page else Err c.answer
