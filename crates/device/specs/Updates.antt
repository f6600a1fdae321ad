-- One field of a nexus, of its marks, of a set or of the record changed, the others kept.
use Rattle.std.specs.Prelude.{ℕ, Bool, true, List, map, set}
use Rattle.device.specs.Record.{State, set_at, nexus_at}
use Rattle.parameters.specs.declared.Supplemental.{Supplemental}
use Rattle.device.specs.declared.Set.{Set}
use Rattle.device.specs.declared.Marks.{Marks}
use Rattle.device.specs.declared.Nexus.{Nexus}

abbrev pub registered : Marks → Marks
registered m = record { registered = true; another = m.another; vendor = m.vendor }

abbrev pub with_another : Bool → Marks → Marks
with_another flag m = record { registered = m.registered; another = flag; vendor = m.vendor }

abbrev pub with_vendor : Bool → Marks → Marks
with_vendor flag m = record { registered = m.registered; another = m.another; vendor = flag }

abbrev pub with_marks : Marks → Nexus → Nexus
with_marks marks x = record { scope = x.scope; lock = x.lock; saved = x.saved; last_local = x.last_local; marks = marks }

abbrev pub with_scope : ℕ → Nexus → Nexus
with_scope scope x = record { scope = scope; lock = x.lock; saved = x.saved; last_local = x.last_local; marks = x.marks }

abbrev pub with_lock : Bool → Nexus → Nexus
with_lock lock x = record { scope = x.scope; lock = lock; saved = x.saved; last_local = x.last_local; marks = x.marks }

abbrev pub with_saved : ℕ → Nexus → Nexus
with_saved number x = record { scope = x.scope; lock = x.lock; saved = number; last_local = x.last_local; marks = x.marks }

abbrev pub with_last_local : ℕ → Nexus → Nexus
with_last_local number x = record { scope = x.scope; lock = x.lock; saved = x.saved; last_local = number; marks = x.marks }

abbrev pub numbered : ℕ → Set → Set
numbered number s = record { owner = s.owner; scope = s.scope; number = number; fields = s.fields; supplemental = s.supplemental }

abbrev pub with_supplemental : Supplemental → Set → Set
with_supplemental keys s = record { owner = s.owner; scope = s.scope; number = s.number; fields = s.fields; supplemental = keys }

abbrev pub with_counter : ℕ → State → State
with_counter counter s = record { counter = counter; sets = s.sets; nexuses = s.nexuses }

abbrev pub with_sets : List Set → State → State
with_sets sets s = record { counter = s.counter; sets = sets; nexuses = s.nexuses }

abbrev pub with_nexuses : List Nexus → State → State
with_nexuses nexuses s = record { counter = s.counter; sets = s.sets; nexuses = nexuses }

-- the set of a place, and a nexus, made anew
abbrev pub at_place : ℕ → (Set → Set) → State → State
at_place place f s = with_sets (set s.sets place (f (set_at s place))) s

abbrev pub at_nexus : ℕ → (Nexus → Nexus) → State → State
at_nexus n f s = with_nexuses (set s.nexuses n (f (nexus_at s n))) s

-- the counter, each set and each nexus made anew
abbrev pub mapped : (ℕ → ℕ) → (Set → Set) → (Nexus → Nexus) → State → State
mapped c f g s = with_counter (c s.counter) (with_sets (map f s.sets) (with_nexuses (map g s.nexuses) s))
