-- Document 01, of a well-formed record: what makes the parts of a set good, and what makes them zero.
use Rattle.std.specs.Prelude.{◌*◌, Bool, not, ◌&&◌, leb, eqb, drop}
use Rattle.wire.specs.Buffers.{all_zero}
use Rattle.kad.specs.Kad.{lengths_good, kads_zero}
use Rattle.parameters.specs.Codes.{encrypt, mixed, algorithm, ceem_most}
use Rattle.parameters.specs.Fields.{key_size}
use Rattle.parameters.specs.declared.Fields.{Fields}
use Rattle.parameters.specs.declared.Supplemental.{Supplemental}

-- "codes .. and lengths are in range"
abbrev pub field_codes : Fields → Bool
field_codes f =
    leb f.encryption encrypt && leb f.decryption mixed && leb f.index algorithm && leb f.ceem ceem_most && lengths_good f.kads

-- "bytes or keys past a length or count are zero"
abbrev pub keys_past : Supplemental → Bool
keys_past s = all_zero (drop (s.count * key_size) s.keys)

-- zero, all of it
abbrev pub fields_zero : Fields → Bool
fields_zero f =
    eqb f.encryption 0 && eqb f.decryption 0 && eqb f.index 0 && eqb f.ceem 0
    && not f.rdmd && not f.ckod && not f.ckorp && not f.ckorl && all_zero f.key && kads_zero f.kads
