-- What the table of a session claims (proofs/Worked), and when it holds.
use Rattle.std.specs.Prelude.{ℕ, Bool, true, ◌&&◌, List, [], ◌∷◌, replicate}
use Rattle.device.specs.Words.{Worded}
use Rattle.drive.specs.Claims.{same_list}
use Rattle.command.specs.Requests.{request_of, order_of, lent_size}
use Rattle.command.specs.Replies.{Replied, reply_bytes, replied}

-- a command's 8 bytes, its data, and the bytes of its reply
pub record Exchange : Type 0 where
  pub bytes : List ℕ
  pub page : List ℕ
  pub reply : List ℕ

abbrev pub exchange : List ℕ → List ℕ → List ℕ → Exchange
exchange bytes page reply = record { bytes = bytes; page = page; reply = reply }

-- "The lent buffer holds A5h in each byte before the call"
abbrev pub replied_to : Worded → Exchange → Replied
replied_to r x = let request = request_of x.bytes in replied r request x.page (replicate (lent_size (order_of request)) 0xA5)

-- each command is answered so, one after another
unfoldable pub converse : Worded → List Exchange → Bool
converse r [] = true
converse r (x ∷ more) = let told = replied_to r x in same_list (reply_bytes told) x.reply && converse told.after more
