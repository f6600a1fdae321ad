-- Document 01, "What the controller holds".
use Rattle.std.specs.Prelude.{ℕ, Bool, false, not, List, [], eqb, get_or, replicate}
use Rattle.parameters.specs.Fields.{no_fields, no_supplemental}
use Rattle.parameters.specs.declared.Fields.{Fields}
use Rattle.device.specs.declared.Set.{Set}
use Rattle.device.specs.declared.Marks.{Marks}
use Rattle.device.specs.declared.Nexus.{Nexus}

-- the record, whatever its sizes
pub record State : Type 0 where
  pub counter : ℕ
  pub sets : List Set
  pub nexuses : List Nexus

-- a set made from a page's fields; "supplemental keys start at none"
abbrev pub established : ℕ → ℕ → ℕ → Fields → Set
established owner scope number fields = record { owner = owner; scope = scope; number = number; fields = fields; supplemental = no_supplemental }

-- "An empty place 0 is the default set: modes, index and scope zero"; "every empty place is zero but for its instance number"
abbrev pub empty_set : ℕ → Set
empty_set number = established 0 0 number no_fields

abbrev pub no_marks : Marks
no_marks = record { registered = false; another = false; vendor = false }

abbrev pub new_nexus : Nexus
new_nexus = record { scope = 0; lock = false; saved = 0; last_local = 0; marks = no_marks }

-- "Power-on .. gives all zeros"
unfoldable pub power_on : ℕ → ℕ → State
power_on nexuses places = record { counter = 0; sets = replicate places (empty_set 0); nexuses = replicate nexuses new_nexus }

-- what is read past the end of the places: no set has empty lists of bytes
abbrev pub no_set : Set
no_set = record {
  owner = 0;
  scope = 0;
  number = 0;
  fields = record {
    encryption = 0;
    decryption = 0;
    index = 0;
    ceem = 0;
    rdmd = false;
    ckod = false;
    ckorp = false;
    ckorl = false;
    key = [];
    kads = record { ukad = record { length = 0; bytes = [] }; akad = record { length = 0; bytes = [] } };
  };
  supplemental = record { count = 0; keys = [] };
}

abbrev pub set_at : State → ℕ → Set
set_at s place = get_or s.sets place no_set

abbrev pub nexus_at : State → ℕ → Nexus
nexus_at s n = get_or s.nexuses n new_nexus

-- "A place is used when its set's scope isn't 0"
abbrev pub empty : Set → Bool
empty set = eqb set.scope 0

abbrev pub used : Set → Bool
used set = not (empty set)
