-- Document 01: "The status reader asks for 24 bytes at least and an exact length, else 7; then page code 0020h, fixed zeros zero,
-- codes in range and descriptors formed as above (under any mode), else 8." Answer 8 carries the faulty byte (document 02, request 6).
use Rattle.std.specs.Prelude.{ℕ, false, List, ltb, length, drop, Result, Ok, Err}
use Rattle.arrays.specs.Base.{when◌then◌else◌}
use Rattle.wire.specs.Numbers.{byte_at, number_at}
use Rattle.wire.specs.Rules.{length_wrong, breach}
use Rattle.answer.specs.Answers.{is_done, sense_of}
use Rattle.answer.specs.declared.Answer.{Answer}
use Rattle.answer.specs.declared.Sense.{Sense}
use Rattle.answer.specs.declared.Refusal.{Refusal}
use Rattle.answer.specs.declared.Answer.TheVariants.{Done, PageLengthWrong, FieldWrong}
use Rattle.kad.specs.Kad.{no_kads}
use Rattle.kad.specs.Reading.{read_kads}
use Rattle.kad.specs.declared.Kads.{Kads}
use Rattle.status.specs.Bytes.{status_byte4, status_byte12}
use Rattle.status.specs.Rules.{descriptors_from, status_rules}
use Rattle.status.specs.declared.Status.{Status}

-- what reading a status page gives: the answer, and the values (zeros where refused)
pub record StatusRead : Type 0 where
  pub answer : Answer
  pub sense : Sense
  pub status : Status

-- the values that a page's bytes tell, with its key-associated data
abbrev pub values_with : List ℕ → Kads → Status
values_with p kads = record {
  nexus_scope = (status_byte4 (byte_at p 4)).nexus_scope;
  set_scope = (status_byte4 (byte_at p 4)).set_scope;
  encryption = byte_at p 5;
  decryption = byte_at p 6;
  index = byte_at p 7;
  number = number_at p 8;
  ceems = (status_byte12 (byte_at p 12)).ceems;
  rdmd = (status_byte12 (byte_at p 12)).rdmd;
  kads = kads;
}

abbrev pub values : List ℕ → Status
values p = values_with p (read_kads (drop descriptors_from p)).kads

-- a refused page's values
abbrev pub no_status : Status
no_status = record {
  nexus_scope = 0;
  set_scope = 0;
  encryption = 0;
  decryption = 0;
  index = 0;
  number = 0;
  ceems = 0;
  rdmd = false;
  kads = no_kads;
}

abbrev pub refused_status : Answer → StatusRead
refused_status answer = record { answer = answer; sense = sense_of answer; status = no_status }

-- one that is taken, with its values
abbrev pub read_of : Status → StatusRead
read_of status = record { answer = Done; sense = sense_of Done; status = status }

unfoldable pub read_status : List ℕ → StatusRead
read_status p =
    let fault = breach (status_rules p) (length p) in
    when length_wrong descriptors_from p then refused_status PageLengthWrong
    else when ltb fault (length p) then refused_status (FieldWrong fault)
    else read_of (values p)

-- the values where it is done, and otherwise the refusal: "A refused answer carries its number and sense only."
abbrev pub told : StatusRead → Result Status Refusal
told r = when is_done r.answer then Ok r.status else Err (record { answer = r.answer; sense = r.sense })

-- the same with the answer alone, as the code's parts have it
abbrev pub ruled : StatusRead → Result Status Answer
ruled r = when is_done r.answer then Ok r.status else Err r.answer
