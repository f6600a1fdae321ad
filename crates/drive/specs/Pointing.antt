-- Document 02, request 6, through the calls: the rules of a page that is sent, and when they are asked (proofs/Pointing).
use Rattle.std.specs.Prelude.{ℕ, Bool, true, false, List}
use Rattle.wire.specs.Rules.{Rule, RightLength}
use Rattle.page.specs.Fields.{key_from}
use Rattle.page.specs.Pointing.{every_rule}
use Rattle.device.specs.Record.{State, nexus_at}
use Rattle.device.specs.Selecting.{selected_set}
use Rattle.drive.specs.declared.Command.{Command}
use Rattle.drive.specs.Calls.{Call, power_up, security_in, security_out, write, read, unit_reset, happens}
use Rattle.drive.specs.Sending.{Reached}

-- the rules of a page that nexus n sends: its own scope, and its set's decryption mode
abbrev pub rules_of : State → ℕ → List ℕ → List Rule
rules_of s n page = every_rule page (nexus_at s n).scope (selected_set s n).fields.decryption

-- it is asked about where none of answers 1 to 7 is due
abbrev pub PageAsked : State → Command → List ℕ → Type 0
PageAsked s command page = Reached s command × RightLength key_from page

-- a call that sends a page
abbrev pub sends_page : Call → Bool
sends_page power_up = false
sends_page (security_in command) = false
sends_page (security_out command page) = true
sends_page (write n supported) = false
sends_page (read n block) = false
sends_page unit_reset = false
sends_page (happens event) = false
