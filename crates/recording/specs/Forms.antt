-- Document 02, request 3: what the fields of an event may hold, a row for each kind.
use Rattle.std.specs.Prelude.{ℕ, Bool, true, false, List, [], ◌∷◌, get_or}
use Rattle.calls.specs.Asking.{flag_most}
use Rattle.recording.specs.declared.Form.{Form}

-- one row: the largest nexus, the largest argument, and whether the event has a page
abbrev pub form : (nexus argument : ℕ) → (page : Bool) → Form
form nexus argument page = record { nexus = nexus; argument = argument; page = page }

-- "unused fields are zero"
abbrev unused : ℕ
unused = 0

-- "Other numbers are left to the calls": any of 8 bits, and of 16
abbrev any_nexus : ℕ
any_nexus = 255

abbrev any_number : ℕ
any_number = 65535

-- "Kinds: 0 power-on, .."; "The argument is the page code, the support flag 0 or 1, the place, or block kind times 256 plus key"
abbrev pub forms : List Form
forms =
    form unused unused false  -- 0 power-on
    ∷ form any_nexus any_number false  -- 1 SECURITY PROTOCOL IN: page code
    ∷ form any_nexus any_number true  -- 2 OUT: page code, page
    ∷ form any_nexus flag_most false  -- 3 write: support flag
    ∷ form unused unused false  -- 4 logical unit reset
    ∷ form unused unused false  -- 5 demount
    ∷ form any_nexus unused false  -- 6 nexus reservation loss
    ∷ form unused unused false  -- 7 device reservation loss
    ∷ form any_nexus unused false  -- 8 preempt
    ∷ form unused unused false  -- 9 microcode
    ∷ form unused any_number false  -- 10 vendor release: place
    ∷ form any_nexus any_number false  -- 11 read: block kind times 256 plus key
    ∷ []

-- a kind's row; one above 11 has none
unfoldable pub form_of : (kind : ℕ) → Form
form_of kind = get_or forms kind (form unused unused false)
