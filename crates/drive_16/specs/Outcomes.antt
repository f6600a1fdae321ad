-- What each public call of this model gives back. a is the call's answer; "A refused answer carries its number and sense only."
use Rattle.std.specs.Prelude.{ℕ, Bool, Result, Ok, Err}
use Rattle.arrays.specs.Base.{when◌then◌else◌}
use Rattle.answer.specs.Answers.{sense_of, change_of, is_done, refusal_of}
use Rattle.answer.specs.declared.Answer.{Answer}
use Rattle.answer.specs.declared.Refusal.{Refusal}
use Rattle.answer.specs.declared.Answer.TheVariants.{Done, NoPlaceForLocal}
use Rattle.page.specs.declared.Page.{Page}
use Rattle.device.specs.Record.{State, power_on}
use Rattle.device.specs.Words.{Worded, with_words, keeping}
use Rattle.marks.specs.Marks.{changes}
use Rattle.places.specs.Actions.{no_place}
use Rattle.drive.specs.Calls.{Call, security_in, write, read}
use Rattle.drive.specs.Checks.{known_answer}
use Rattle.drive.specs.Effects.{takes, effect_by}
use Rattle.drive.specs.Records.{answer_of, after_of, held_after}
use Rattle.drive.specs.Serving.{served_answer, served_word}
use Rattle.drive.specs.Outcomes.{in_length, decision, decided_place, decided_index, read_decision}
use Rattle.drive.specs.declared.Command.{Command}
use Rattle.drive.specs.declared.Decision.TheVariants.{Refused}
use Rattle.drive.specs.declared.Block.{Block}
use Rattle.drive.specs.declared.ReadDecision.TheVariants.{Withheld}
use Rattle.sizes_16.specs.Sizes.{nexus_count, place_count}
use Rattle.device_16.specs.Model.{record_of}
use Rattle.drive_16.specs.declared.Outcome.{Outcome}
use Rattle.drive_16.specs.declared.InOutcome.{InOutcome}
use Rattle.drive_16.specs.declared.WriteOutcome.{WriteOutcome}
use Rattle.drive_16.specs.declared.ReadOutcome.{ReadOutcome}

-- ---- the form of each: with the record after it, t; s is the record before

abbrev pub outcome_with : (t : Worded) → Answer → Outcome
outcome_with t a = record { after = record_of t; answer = a; sense = sense_of a }

abbrev pub in_outcome_with : (t : Worded) → State → Command → Answer → InOutcome
in_outcome_with t s command a = record { after = record_of t; answer = a; sense = sense_of a; length = in_length s command a }

abbrev pub write_outcome_with : (t : Worded) → State → ℕ → Answer → WriteOutcome
write_outcome_with t s n a = record {
  after = record_of t;
  answer = a;
  sense = sense_of a;
  decision = decision s n a;
  place = decided_place s n a;
  index = decided_index s n a;
}

abbrev pub read_outcome_with : (t : Worded) → State → ℕ → Block → Answer → ReadOutcome
read_outcome_with t s n block a = record {
  after = record_of t;
  answer = a;
  sense = sense_of a;
  decision = read_decision s n block a;
  place = decided_place s n a;
}

-- ---- the calls

-- "Power-on takes no record, answers 0 and gives all zeros", and "at power-on 16 ones for place 0, zeros elsewhere"
abbrev pub powered_on : Outcome
powered_on = outcome_with (with_words (power_on nexus_count place_count)) Done

unfoldable pub outcome : Worded → Call → Outcome
outcome r call = outcome_with (after_of r call) (answer_of r call)

unfoldable pub in_outcome : Worded → Command → InOutcome
in_outcome r command = in_outcome_with (after_of r (security_in command)) r.state command (answer_of r (security_in command))

unfoldable pub write_outcome : Worded → ℕ → Bool → WriteOutcome
write_outcome r n supported = write_outcome_with (after_of r (write n supported)) r.state n (answer_of r (write n supported))

unfoldable pub read_outcome : Worded → ℕ → Block → ReadOutcome
read_outcome r n block = read_outcome_with (after_of r (read n block)) r.state n block (answer_of r (read n block))

-- "which hosts a set serves": the word, or the refusal
unfoldable pub served : Worded → ℕ → Result ℕ Refusal
served r place = let a = served_answer r place in when is_done a then Ok (served_word r place a) else Err (refusal_of a)

-- ---- the same by the words that the record holds, as the parts after check 1 give it

abbrev pub held_by : Worded → Call → Answer → Worded
held_by r call a = held_after r (effect_by r.state call a)

unfoldable pub outcome_by : Worded → Call → Answer → Outcome
outcome_by r call a = outcome_with (held_by r call a) a

unfoldable pub in_outcome_by : Worded → Command → Answer → InOutcome
in_outcome_by r command a = in_outcome_with (held_by r (security_in command) a) r.state command a

unfoldable pub write_outcome_by : Worded → ℕ → Bool → Answer → WriteOutcome
write_outcome_by r n supported a = write_outcome_with (held_by r (write n supported) a) r.state n a

unfoldable pub read_outcome_by : Worded → ℕ → Block → Answer → ReadOutcome
read_outcome_by r n block a = read_outcome_with (held_by r (read n block) a) r.state n block a

-- of a record that is known to be well formed: check 1 isn't made
abbrev pub known_outcome : Worded → Call → Outcome
known_outcome r call = outcome_by r call (known_answer r.state call)

abbrev pub known_in_outcome : Worded → Command → InOutcome
known_in_outcome r command = in_outcome_by r command (known_answer r.state (security_in command))

abbrev pub known_write_outcome : Worded → ℕ → Bool → WriteOutcome
known_write_outcome r n supported = write_outcome_by r n supported (known_answer r.state (write n supported))

abbrev pub known_read_outcome : Worded → ℕ → Block → ReadOutcome
known_read_outcome r n block = read_outcome_by r n block (known_answer r.state (read n block))

-- ---- parts of these, as the code makes them

-- the record with what the row of an answer says of nexus n's marks
abbrev pub refused_record : Worded → ℕ → Answer → Worded
refused_record r n a = keeping r.words (changes r.state n (change_of a))

-- a refused call
abbrev pub refused_call : Worded → ℕ → Answer → Outcome
refused_call r n a = outcome_with (refused_record r n a) a

abbrev pub refused_in : Worded → ℕ → Answer → InOutcome
refused_in r n a = record { after = record_of (refused_record r n a); answer = a; sense = sense_of a; length = 0 }

abbrev pub refused_write : Worded → ℕ → Answer → WriteOutcome
refused_write r n a =
    record { after = record_of (refused_record r n a); answer = a; sense = sense_of a; decision = Refused; place = 0; index = 0 }

abbrev pub refused_read : Worded → ℕ → Answer → ReadOutcome
refused_read r n a = record { after = record_of (refused_record r n a); answer = a; sense = sense_of a; decision = Withheld; place = 0 }

-- one without a sender
abbrev pub unchanged : Worded → Answer → Outcome
unchanged r a = outcome_with r a

-- a page that passed its check: "else answer 10", else it is taken
abbrev pub page_outcome : Worded → ℕ → Page → Outcome
page_outcome r n page = when no_place r.state n page then refused_call r n NoPlaceForLocal else outcome_with (held_after r (takes n page)) Done
