-- What a set is made of, with nothing in it.
use Rattle.std.specs.Prelude.{ℕ, false, List, replicate}
use Rattle.kad.specs.Kad.{no_kads}
use Rattle.parameters.specs.declared.Fields.{Fields}
use Rattle.parameters.specs.declared.Supplemental.{Supplemental}

-- the bytes of a key
abbrev pub key_size : ℕ
key_size = 32

-- the most supplemental keys of a set, and the bytes of all of them
abbrev pub supplemental_most : ℕ
supplemental_most = 4

abbrev pub supplemental_size : ℕ
supplemental_size = 128

-- no field but a key: what a page with SDK 1 gives
abbrev pub only_key : List ℕ → Fields
only_key key = record {
  encryption = 0;
  decryption = 0;
  index = 0;
  ceem = 0;
  rdmd = false;
  ckod = false;
  ckorp = false;
  ckorl = false;
  key = key;
  kads = no_kads;
}

-- no fields: what a PUBLIC page gives, and what an empty place holds
abbrev pub no_fields : Fields
no_fields = only_key (replicate key_size 0)

-- no supplemental keys
abbrev pub no_supplemental : Supplemental
no_supplemental = record { count = 0; keys = replicate supplemental_size 0 }
