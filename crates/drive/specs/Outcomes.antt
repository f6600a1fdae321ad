-- What a call gives back besides the record, where a is its answer.
use Rattle.std.specs.Prelude.{ℕ, List, eqb, length}
use Rattle.arrays.specs.Base.{when◌then◌else◌}
use Rattle.wire.specs.Buffers.{shown}
use Rattle.parameters.specs.Codes.{disable, external}
use Rattle.answer.specs.Answers.{is_done}
use Rattle.answer.specs.declared.Answer.{Answer}
use Rattle.device.specs.Record.{State}
use Rattle.device.specs.Selecting.{selected, selected_set}
use Rattle.status.specs.Pages.{supported_in_code, supported_out_code, capabilities_code, supported_in, supported_out, capabilities}
use Rattle.status.specs.Status.{status_bytes, status_of}
use Rattle.drive.specs.declared.Command.{Command}
use Rattle.drive.specs.declared.Decision.{Decision}
use Rattle.drive.specs.declared.Decision.TheVariants.{Refused, Clear, External, Encrypted}
use Rattle.drive.specs.declared.Block.{Block}
use Rattle.drive.specs.declared.ReadDecision.{ReadDecision}
use Rattle.drive.specs.declared.ReadDecision.TheVariants.{Withheld}
use Rattle.drive.specs.Restoring.{ruled_decision, restored}

-- Document 01, "Response pages": the page of a code
unfoldable pub response_page : State → ℕ → ℕ → List ℕ
response_page s n code =
    when eqb code supported_in_code then supported_in
    else when eqb code supported_out_code then supported_out
    else when eqb code capabilities_code then capabilities
    else status_bytes (status_of s n)

-- "the answer tells the page's full length"; a refused one 0
abbrev pub in_length : State → Command → Answer → ℕ
in_length s command a = when is_done a then length (response_page s command.nexus command.code) else 0

-- "The lent buffer gets the page's first bytes, as many as it holds; bytes beyond stay"; a refused IN leaves it as it was
abbrev pub in_buffer : State → Command → Answer → List ℕ → List ℕ
in_buffer s command a buffer = when is_done a then shown (response_page s command.nexus command.code) buffer else buffer

-- Document 01, "The write decision": "clear, external or encrypted, by mode"
abbrev pub decided : ℕ → Decision
decided mode = when eqb mode disable then Clear else when eqb mode external then External else Encrypted

-- the decision's value, in replies and files; a refused write has none of the others'
abbrev pub value_of : Decision → ℕ
value_of Clear = 0
value_of External = 1
value_of Encrypted = 2
value_of Refused = 255

-- "with place and index"; a refused write carries neither
abbrev pub decision : State → ℕ → Answer → Decision
decision s n a = when is_done a then decided (selected_set s n).fields.encryption else Refused

abbrev pub decided_place : State → ℕ → Answer → ℕ
decided_place s n a = when is_done a then selected s n else 0

abbrev pub decided_index : State → ℕ → Answer → ℕ
decided_index s n a = when is_done a then (selected_set s n).fields.index else 0

-- a read: plain, raw or decrypted, with the same place; a refused one carries neither
abbrev pub read_decision : State → ℕ → Block → Answer → ReadDecision
read_decision s n block a = when is_done a then ruled_decision (restored (selected_set s n) block) else Withheld
