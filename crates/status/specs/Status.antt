-- Document 01, "Response pages", 0020h: the status page's bytes from its values, and the values of a nexus.
use Rattle.std.specs.Prelude.{ℕ, ◌^◌, ◌<◌, ◌≤◌, ◌≡◌, true, List, ◌∷◌, ◌++◌, replicate}
use Rattle.wire.specs.Numbers.{four}
use Rattle.kad.specs.Kad.{lengths_good, tails_good, Sized}
use Rattle.kad.specs.Writing.{descriptors}
use Rattle.device.specs.Record.{State, nexus_at}
use Rattle.device.specs.Selecting.{selected_set}
use Rattle.device.specs.declared.Set.{Set}
use Rattle.status.specs.Pages.{status_code, page_of}
use Rattle.status.specs.Bytes.{joined4, joined12}
use Rattle.status.specs.declared.Status.{Status}

-- "byte 4 nexus scope bits 7–5, set scope bits 2–0; 5, 6 modes; 7 index; 8–11 instance number;
-- 12: control bits 6–4 (0), VCELB bit 3 (0), CEEMS 2–1, RDMD 0; 13–23 zero"
abbrev pub status_fields : Status → List ℕ
status_fields s =
    joined4 s.nexus_scope s.set_scope ∷ s.encryption ∷ s.decryption ∷ s.index
    ∷ (four s.number ++ joined12 s.ceems s.rdmd ∷ replicate 11 0)

-- "then KAD descriptors as in the Set page"
unfoldable pub status_bytes : Status → List ℕ
status_bytes s = page_of status_code (status_fields s ++ descriptors s.kads)

-- the values told of a nexus with a scope, of the set that it uses
abbrev pub status_with : ℕ → Set → Status
status_with scope set = record {
  nexus_scope = scope;
  set_scope = set.scope;
  encryption = set.fields.encryption;
  decryption = set.fields.decryption;
  index = set.fields.index;
  number = set.number;
  ceems = set.fields.ceem;
  rdmd = set.fields.rdmd;
  kads = set.fields.kads;
}

abbrev pub status_of : State → ℕ → Status
status_of s n = status_with (nexus_at s n).scope (selected_set s n)

-- "codes in range": what the reader asks of the values, and what each field of a page has room for
pub record CodesInRange (s : Status) : Type 0 where
  pub nexus_scope : s.nexus_scope ≤ 2
  pub set_scope : s.set_scope ≤ 2
  pub encryption : s.encryption ≤ 2
  pub decryption : s.decryption ≤ 3
  pub index : s.index ≤ 1
  pub ceems : s.ceems ≤ 3
  pub lengths : lengths_good s.kads ≡ true

-- values that a page tells whole: an instance number of 32 bits, and zeros past each length, in arrays of their sizes
pub record InRange (s : Status) : Type 0 where
  pub codes : CodesInRange s
  pub number : s.number < 2 ^ 32
  pub tails : tails_good s.kads ≡ true
  pub sized : Sized s.kads
