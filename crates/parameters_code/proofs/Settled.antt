-- Every public function's promise settles its answer.
use Rattle.settled.specs.Settles.{SettlesAnswer, same}
use Rattle.parameters_code.proofs.is_encrypt.Reads as is-encrypt
use Rattle.parameters_code.proofs.is_encrypt.Kinds as is-encrypt-kinds
use Rattle.parameters_code.proofs.is_decrypt_or_mixed.Reads as is-decrypt-or-mixed
use Rattle.parameters_code.proofs.is_decrypt_or_mixed.Kinds as is-decrypt-or-mixed-kinds
use Rattle.parameters_code.proofs.needs_key.Reads as needs-key
use Rattle.parameters_code.proofs.needs_key.Kinds as needs-key-kinds
use Rattle.parameters_code.proofs.field_codes.Reads as field_codes
use Rattle.parameters_code.proofs.field_codes.Kinds as field-codes-kinds
use Rattle.parameters_code.proofs.keys_past.Reads as keys-past
use Rattle.parameters_code.proofs.keys_past.Kinds as keys-past-kinds
use Rattle.parameters_code.proofs.fields_zero.Reads as fields-zero
use Rattle.parameters_code.proofs.fields_zero.Kinds as fields-zero-kinds

pub is-encrypt-settles : SettlesAnswer 0 is-encrypt-kinds.ps is-encrypt-kinds.r is-encrypt.Post
is-encrypt-settles κs a x y s t p q = same p q

pub is-decrypt-or-mixed-settles : SettlesAnswer 0 is-decrypt-or-mixed-kinds.ps is-decrypt-or-mixed-kinds.r is-decrypt-or-mixed.Post
is-decrypt-or-mixed-settles κs a x y s t p q = same p q

pub needs-key-settles : SettlesAnswer 0 needs-key-kinds.ps needs-key-kinds.r needs-key.Post
needs-key-settles κs a x y s t p q = same p q

pub field-codes-settles : SettlesAnswer 0 field-codes-kinds.ps field-codes-kinds.r field_codes.Post
field-codes-settles κs a x y s t p q = same p q

pub keys-past-settles : SettlesAnswer 0 keys-past-kinds.ps keys-past-kinds.r keys-past.Post
keys-past-settles κs a x y s t p q = same p q

pub fields-zero-settles : SettlesAnswer 0 fields-zero-kinds.ps fields-zero-kinds.r fields-zero.Post
fields-zero-settles κs a x y s t p q = same p q
