-- What a call does, once its answer is known.
use Rattle.std.specs.Prelude.{ℕ, Option, Some, None}
use Rattle.arrays.specs.Base.{when◌then◌else◌}
use Rattle.answer.specs.Answers.{change_of, is_done}
use Rattle.answer.specs.declared.Answer.{Answer}
use Rattle.answer.specs.declared.Change.{Change}
use Rattle.answer.specs.declared.Change.TheVariants.{Unchanged, AnotherCleared, VendorCleared, Registered}
use Rattle.page.specs.declared.Page.{Page}
use Rattle.device.specs.Record.{State}
use Rattle.places.specs.declared.Event.{Event}
use Rattle.drive.specs.Calls.{Call, power_up, security_in, security_out, write, read, unit_reset, happens, sender_of}
use Rattle.drive.specs.Checks.{page_checked, answer}

pub data Effect : Type 0 where
  nothing : Effect
  marks : (nexus : ℕ) → Change → Effect  -- the marks of a nexus change
  takes : (nexus : ℕ) → Page → Effect  -- a nexus's page is taken
  clears : Effect  -- marks and flags are cleared
  releasing : Event → Effect  -- an event releases sets
  restarts : Effect  -- power-on

-- a call that is carried out; "A nexus is registered once check 5 has passed, whatever follows"
abbrev pub doing : State → Call → Effect
doing s power_up = restarts
doing s (security_in command) = marks command.nexus Registered
doing s (security_out command page) = takes command.nexus (page_checked s command.nexus page).page
doing s (write n supported) = nothing
doing s (read n block) = nothing
doing s unit_reset = clears
doing s (happens event) = releasing event

-- one that is refused: what the row of its answer says of its sender's marks
abbrev pub refusal : Option ℕ → Change → Effect
refusal None change = nothing
refusal (Some n) Unchanged = nothing
refusal (Some n) AnotherCleared = marks n AnotherCleared
refusal (Some n) VendorCleared = marks n VendorCleared
refusal (Some n) Registered = marks n Registered

-- a call with that answer
unfoldable pub effect_by : State → Call → Answer → Effect
effect_by s call a = when is_done a then doing s call else refusal (sender_of call) (change_of a)

abbrev pub effect : State → Call → Effect
effect s call = effect_by s call (answer s call)
