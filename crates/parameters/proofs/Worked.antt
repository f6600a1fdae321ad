-- Parts of a set, computed.
use mathlib.Core.Path.{◌≡◌, refl}
use mathlib.Core.Bool.{true, false}
use mathlib.Core.List.{◌∷◌, [], ◌++◌}
use lib.ListN.{replicate}
use Rattle.parameters.specs.Codes.{disable, external, encrypt, raw, decrypt, mixed, needs_key}
use Rattle.parameters.specs.Fields.{only_key, no_fields, no_supplemental}
use Rattle.parameters.specs.Good.{field_codes, keys_past, fields_zero}

-- a key goes with ENCRYPT, DECRYPT and MIXED alone
encrypt-needs : needs_key encrypt disable ≡ true
encrypt-needs = refl

decrypt-needs : needs_key disable decrypt ≡ true
decrypt-needs = refl

mixed-needs : needs_key external mixed ≡ true
mixed-needs = refl

raw-needs-none : needs_key external raw ≡ false
raw-needs-none = refl

-- no fields are zero, and their codes are in range
none-zero : fields_zero no_fields ≡ true
none-zero = refl

none-good : field_codes no_fields ≡ true
none-good = refl

-- a key that isn't zero
key-not-zero : fields_zero (only_key (replicate 31 0 ++ 1 ∷ [])) ≡ false
key-not-zero = refl

-- a byte of a key past the count
past-none : keys_past no_supplemental ≡ true
past-none = refl

past_one : keys_past (record { count = 1; keys = replicate 32 0 ++ 1 ∷ replicate 95 0 }) ≡ false
past_one = refl

within-one : keys_past (record { count = 1; keys = replicate 31 0 ++ 1 ∷ replicate 96 0 }) ≡ true
within-one = refl
