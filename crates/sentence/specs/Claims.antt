-- What the tables of texts claim (proofs/Worked).
use Rattle.std.specs.Prelude.{ℕ, Bool, true, ◌&&◌, List, [], ◌∷◌}
use Prim.Native.String.{String}
use Rattle.wire.specs.Buffers.{same_bytes}
use Rattle.text.specs.Characters.{bytes_of}
use Rattle.answer.specs.declared.Answer.{Answer}
use Rattle.why.specs.declared.Deed.{Deed}
use Rattle.why.specs.declared.Reason.{Reason}
use Rattle.why.specs.Claims.{by_touch, by_use}
use Rattle.sentence.specs.Telling.{reason_text}

-- a reason, and its two lines
pub record Worded : Type 0 where
  pub reason : Reason
  pub text : String

-- an event that is the reason: its position, kind and nexus, what it did, and in which place
abbrev pub stops : Answer → (position kind nexus : ℕ) → Deed → (place : ℕ) → String → Worded
stops answer position kind nexus deed place text = record { reason = by_touch answer position kind nexus place deed; text = text }

-- the set in use, by its place and mode
abbrev pub stands : Answer → (place mode : ℕ) → String → Worded
stands answer place mode text = record { reason = by_use answer place mode; text = text }

-- a text is just as it is claimed
unfoldable pub worded_so : List Worded → Bool
worded_so [] = true
worded_so (t ∷ more) = same_bytes (reason_text t.reason) (bytes_of t.text) && worded_so more
