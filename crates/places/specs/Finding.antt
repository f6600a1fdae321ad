-- What is claimed of the place of a LOCAL page (proofs/Finding): document 01's sentence, in numbers, without a test or a search.
use Rattle.std.specs.Prelude.{ℕ, ◌<◌, ◌≡◌, false, length}
use Rattle.device.specs.Record.{State, set_at, nexus_at}
use Rattle.places.specs.Actions.{room}
use Rattle.places.specs.declared.Room.TheVariants.{Free, Evicting, NoRoom}

-- the place is the nexus's own: the nexus is LOCAL, and so is the place's set, which it owns
pub record Present (s : State) (n place : ℕ) : Type 0 where
  pub within : place < length s.sets
  pub nexus_local : (nexus_at s n).scope ≡ 1
  pub set_local : (set_at s place).scope ≡ 1
  pub owned : (set_at s place).owner ≡ n

-- it is one for LOCAL sets, and empty
pub record Empty (s : State) (place : ℕ) : Type 0 where
  pub above : 0 < place
  pub within : place < length s.sets
  pub unused : (set_at s place).scope ≡ 0

-- it is one for LOCAL sets, and its owner has lock 0
pub record Unlocked (s : State) (place : ℕ) : Type 0 where
  pub above : 0 < place
  pub within : place < length s.sets
  pub lock0 : (nexus_at s (set_at s place).owner).lock ≡ false

-- something holds of the place, and of no lower one
pub record Lowest (P : ℕ → Type 0) (place : ℕ) : Type 0 where
  pub holds : P place
  pub first : (lower : ℕ) → lower < place → P lower → ⊥

-- it holds of no place
abbrev pub None : (ℕ → Type 0) → Type 0
None P = (place : ℕ) → P place → ⊥

-- "its present place, else the lowest empty one, else the lowest whose owner has lock 0, which is first released; else answer 10". The lines
-- exclude each other, and there is one for every case.
pub record RoomDue (s : State) (n : ℕ) : Type 0 where
  pub present : (place : ℕ) → Lowest (Present s n) place → room s n ≡ Free place
  pub lowest_empty : None (Present s n) → (place : ℕ) → Lowest (Empty s) place → room s n ≡ Free place
  pub lowest_unlocked : None (Present s n) → None (Empty s) → (place : ℕ) → Lowest (Unlocked s) place → room s n ≡ Evicting place
  pub no_room : None (Present s n) → None (Empty s) → None (Unlocked s) → room s n ≡ NoRoom
