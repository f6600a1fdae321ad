-- Which Set Data Encryption pages are refused at byte 5, in plain relations.
use Rattle.page.specs.Check.{Checked}
use Rattle.std.specs.Prelude.{ℕ, ◌≡◌, false, ◌⊎◌, List}
use Rattle.wire.specs.Rules.{length_wrong}
use Rattle.parameters.specs.Codes.{local_scope, all_scope, disable, encrypt}
use Rattle.answer.specs.declared.Answer.TheVariants.{FieldWrong}
use Rattle.page.specs.Fields.{key_from, page_code, scope_of, reserved_of, ceem_of, rdmc_of, sdk_of, encryption_of, decryption_of}

-- LOCAL or ALL with SDK 0, right up to byte 4
pub record MakesSet (p : List ℕ) : Type 0 where
  pub sized : length_wrong key_from p ≡ false
  pub code : page_code p ≡ 0x10
  pub scope : (scope_of p ≡ local_scope) ⊎ (scope_of p ≡ all_scope)
  pub reserved : reserved_of p ≡ 0
  pub fresh : sdk_of p ≡ false

-- "RDMC 01b is wrong under ENCRYPT"
abbrev pub RdmcFault : List ℕ → Type 0
RdmcFault p = (encryption_of p ≡ encrypt) × (rdmc_of p ≡ 1)

-- request 2: "CEEM 10b or 11b with decryption mode DISABLE"
abbrev pub CeemFault : List ℕ → Type 0
CeemFault p = ((ceem_of p ≡ 2) ⊎ (ceem_of p ≡ 3)) × (decryption_of p ≡ disable)

-- a fault of byte 5
abbrev pub Byte5Fault : List ℕ → Type 0
Byte5Fault p = RdmcFault p ⊎ CeemFault p

-- answer 8, at byte i
abbrev pub WrongAt : ℕ → Checked → Type 0
WrongAt i c = c.answer ≡ FieldWrong i
