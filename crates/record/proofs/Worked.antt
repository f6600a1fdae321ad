-- A record of two places and two nexuses, as bytes and back.
use Prim.Native.Nat.{ℕ}
use mathlib.Core.Path.{◌≡◌, refl}
use mathlib.Core.Bool.{true, false, not, ◌&&◌}
use mathlib.Core.List.{List, [], ◌∷◌, ◌++◌}
use lib.ListN.{length, set, take, drop, replicate}
use Rattle.arrays.specs.Arrays.{all}
use Rattle.kad.specs.Kad.{kads_of}
use Rattle.kad.specs.declared.Kads.{Kads}
use Rattle.device.specs.Updates.{with_marks, with_scope, with_lock, with_saved, with_last_local, with_supplemental, with_counter, with_sets, with_nexuses}
use Rattle.device.specs.Record.{empty_set, new_nexus, power_on, established}
use Rattle.device.specs.declared.Set.{Set}
use Rattle.device.specs.declared.Nexus.{Nexus}
use Rattle.device.specs.Selecting.{selected}
use Rattle.device.specs.Words.{Worded, words, with_words}
use Rattle.wire.specs.Parts.{joined, parts}
use Rattle.record.specs.Bytes.{kads_bytes, set_bytes, nexus_bytes, record_bytes, words_from, record_size}
use Rattle.record.specs.Reading.{kads_read, fields_read, set_read, nexus_read, record_read}
use Rattle.record.specs.Good.{good_bytes, record_taken, formed, set_yes_or_no, nexus_yes_or_no}

abbrev kads : Kads
kads = kads_of (replicate 32 30) (31 ∷ [])

-- each byte of it another
abbrev some_set : Set
some_set = with_supplemental (record { count = 47; keys = replicate 128 48 }) (established 1 2 0x06070809 (record {
  encryption = 3;
  decryption = 4;
  index = 5;
  ceem = 10;
  rdmd = true;
  ckod = false;
  ckorp = true;
  ckorl = true;
  key = replicate 32 15;
  kads = kads;
}))

abbrev some_nexus : Nexus
some_nexus = with_scope 1 (with_lock true (with_saved 0x03040506 (with_last_local 0x0708090A (with_marks (record { registered = true; another = false; vendor = true }) new_nexus))))

-- the bytes of a set, in the order of the table
of-set : set_bytes some_set
    ≡ 1 ∷ 2 ∷ 3 ∷ 4 ∷ 5 ∷ 6 ∷ 7 ∷ 8 ∷ 9 ∷ 10 ∷ 1 ∷ 0 ∷ 1 ∷ 1 ∷ (replicate 32 15 ++ 47 ∷ (replicate 128 48 ++ 32 ∷ (replicate 32 30 ++ 1 ∷ 31 ∷ replicate 11 0)))
unfolding kads_bytes set_bytes
of-set = refl

-- and of a nexus
of-nexus : nexus_bytes some_nexus ≡ 1 ∷ 1 ∷ 3 ∷ 4 ∷ 5 ∷ 6 ∷ 7 ∷ 8 ∷ 9 ∷ 10 ∷ 1 ∷ 0 ∷ 1 ∷ []
unfolding nexus_bytes
of-nexus = refl

-- sixteen ones; the highest bit, and each byte another
abbrev some_words : List ℕ
some_words = 0xFFFF ∷ 0x8001020304050607 ∷ []

abbrev some : Worded
some = record {
  state = with_counter 0x01020304 (with_sets (empty_set 9 ∷ some_set ∷ []) (with_nexuses (new_nexus ∷ some_nexus ∷ []) (power_on 0 0)));
  words = some_words;
}

abbrev bytes : List ℕ
bytes = record_bytes some

-- as many as the sizes say; of sixteen nexuses and five places 1,357, of which the words' start at byte 1,317
sized : (length bytes ≡ record_size 2 2) × (record_size 16 5 ≡ 1357) × (words_from 16 5 ≡ 1317)
unfolding joined kads_bytes set_bytes nexus_bytes record_bytes
sized = (refl, refl, refl)

-- they end with the words, the highest byte first
of_words : drop 472 bytes ≡ 0x00 ∷ 0x00 ∷ 0x00 ∷ 0x00 ∷ 0x00 ∷ 0x00 ∷ 0xFF ∷ 0xFF ∷ 0x80 ∷ 0x01 ∷ 0x02 ∷ 0x03 ∷ 0x04 ∷ 0x05 ∷ 0x06 ∷ 0x07 ∷ []
unfolding joined kads_bytes set_bytes nexus_bytes record_bytes
of_words = refl

-- those of power-on with 16 ones for place 0 and zeros elsewhere
of-new : drop 1317 (record_bytes (with_words (power_on 16 5))) ≡ 0x00 ∷ 0x00 ∷ 0x00 ∷ 0x00 ∷ 0x00 ∷ 0x00 ∷ 0xFF ∷ 0xFF ∷ replicate 32 0
unfolding joined kads_bytes set_bytes nexus_bytes record_bytes words selected power_on
of-new = refl

-- they are good and give the record back
back : (good_bytes 2 2 bytes ≡ true) × (record_taken 2 2 bytes ≡ some)
unfolding joined parts kads_bytes set_bytes nexus_bytes record_bytes kads_read fields_read set_read nexus_read record_read good_bytes record_taken
back = (refl, refl)

-- nexus 15's bit moved from place 0's word to place 1's
moved : record_taken 2 2 (set (set bytes 478 0x7F) 486 0x86) ≡ record { state = some.state; words = 0x7FFF ∷ 0x8001020304058607 ∷ [] }
unfolding joined parts kads_bytes set_bytes nexus_bytes record_bytes kads_read fields_read set_read nexus_read record_read good_bytes record_taken
moved = refl

-- the first set stands from byte 4 on, the first nexus from byte 446 on, the second from byte 459 on, the words from byte 472 on
abbrev spoilt : List (List ℕ)
spoilt =
    -- a byte short, no words, a byte long, none
    take 487 bytes
    ∷ take 472 bytes
    ∷ (bytes ++ 0 ∷ [])
    ∷ []
    -- each yes or no of the first set, of the first nexus, the last of the second nexus
    ∷ set bytes 14 2
    ∷ set bytes 15 2
    ∷ set bytes 16 2
    ∷ set bytes 17 255
    ∷ set bytes 447 2
    ∷ set bytes 456 2
    ∷ set bytes 457 2
    ∷ set bytes 458 2
    ∷ set bytes 471 2
    ∷ []

-- none of them is good, told either way
refused : (all (λ b. not (good_bytes 2 2 b)) spoilt && all (λ b. not (formed 2 2 b)) spoilt) ≡ true
unfolding joined parts kads_bytes set_bytes nexus_bytes record_bytes kads_read fields_read set_read nexus_read record_read good_bytes formed set_yes_or_no nexus_yes_or_no
refused = refl

-- other bytes may hold anything, those of the words too
abbrev odd : List (List ℕ)
odd =
    set bytes 0 255
    ∷ set bytes 13 255
    ∷ set bytes 18 255
    ∷ set bytes 50 255
    ∷ set bytes 446 255
    ∷ set bytes 455 255
    ∷ set bytes 472 255
    ∷ set bytes 487 255
    ∷ []

accepted : (all (good_bytes 2 2) odd && all (formed 2 2) odd) ≡ true
unfolding joined parts kads_bytes set_bytes nexus_bytes record_bytes kads_read fields_read set_read nexus_read record_read good_bytes formed set_yes_or_no nexus_yes_or_no
accepted = refl

-- a refused load gives what power-on gives
carries-nothing : record_taken 2 2 (set bytes 14 2) ≡ with_words (power_on 2 2)
unfolding joined parts kads_bytes set_bytes nexus_bytes record_bytes kads_read fields_read set_read nexus_read record_read good_bytes record_taken
carries-nothing = refl
