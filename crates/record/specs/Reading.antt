-- docs/CONSOLE.md, "The record": what bytes give. The numbers here are the tables' column "at". A byte past the end reads as 0, and a
-- byte that tells yes or no is a yes where it is 1.
use Rattle.std.specs.Prelude.{ℕ, List, drop}
use Rattle.wire.specs.Numbers.{byte_at, number_at, wide, flag_at}
use Rattle.wire.specs.Buffers.{bytes_at}
use Rattle.kad.specs.Kad.{u_most, a_most}
use Rattle.kad.specs.declared.Kads.{Kads}
use Rattle.parameters.specs.Fields.{key_size, supplemental_size}
use Rattle.parameters.specs.declared.Fields.{Fields}
use Rattle.device.specs.Words.{Worded}
use Rattle.device.specs.declared.Set.{Set}
use Rattle.device.specs.declared.Nexus.{Nexus}
use Rattle.wire.specs.Parts.{parts}
use Rattle.record.specs.Bytes.{counter_size, set_size, nexus_size, word_size, nexuses_from, words_from}

-- the key-associated data in a part's first 46 bytes
unfoldable pub kads_read : List ℕ → Kads
kads_read part = record {
  ukad = record { length = byte_at part 0; bytes = bytes_at u_most part 1 };
  akad = record { length = byte_at part 33; bytes = bytes_at a_most part 34 };
}

-- the set in a part's first 221 bytes: its fields
unfoldable pub fields_read : List ℕ → Fields
fields_read part = record {
  encryption = byte_at part 2;
  decryption = byte_at part 3;
  index = byte_at part 4;
  ceem = byte_at part 9;
  rdmd = flag_at part 10;
  ckod = flag_at part 11;
  ckorp = flag_at part 12;
  ckorl = flag_at part 13;
  key = bytes_at key_size part 14;
  kads = kads_read (drop 175 part);
}

-- and the set
unfoldable pub set_read : List ℕ → Set
set_read part = record {
  owner = byte_at part 0;
  scope = byte_at part 1;
  number = number_at part 5;
  fields = fields_read part;
  supplemental = record { count = byte_at part 46; keys = bytes_at supplemental_size part 47 };
}

-- the nexus in a part's first 13 bytes
unfoldable pub nexus_read : List ℕ → Nexus
nexus_read part = record {
  scope = byte_at part 0;
  lock = flag_at part 1;
  saved = number_at part 2;
  last_local = number_at part 6;
  marks = record { registered = flag_at part 10; another = flag_at part 11; vendor = flag_at part 12 };
}

-- the record of so many nexuses and places
unfoldable pub record_read : (nexuses places : ℕ) → List ℕ → Worded
record_read nexuses places bytes = record {
  state = record {
    counter = number_at bytes 0;
    sets = parts set_read set_size places (drop counter_size bytes);
    nexuses = parts nexus_read nexus_size nexuses (drop (nexuses_from places) bytes);
  };
  words = parts wide word_size places (drop (words_from nexuses places) bytes);
}
