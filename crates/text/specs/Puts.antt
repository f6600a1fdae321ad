-- A text put in a buffer.
use Rattle.std.specs.Prelude.{ℕ, ◌+◌, ◌≡◌, List, length}
use Rattle.std.proofs.lemmas.List.Edits.{sets}

-- from an index of the buffer on, as many of its bytes as the buffer holds; `to` is the index after it
pub record Put (buffer : List ℕ) (at : ℕ) (text : List ℕ) (to : ℕ) (after : List ℕ) : Type 0 where
  pub tells : to ≡ at + length text
  pub holds : after ≡ sets buffer at text
