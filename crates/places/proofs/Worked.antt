-- Document 01's examples of places and numbers, computed.
use Prim.Native.Nat.{ℕ}
use mathlib.Core.Path.{◌≡◌, refl}
use mathlib.Core.Bool.{Bool, true, false, not}
use lib.ListN.{get_or, replicate}
use Rattle.kad.specs.Kad.{no_kads}
use Rattle.parameters.specs.Codes.{public_scope, local_scope, all_scope}
use Rattle.parameters.specs.Fields.{key_size, only_key, no_fields}
use Rattle.parameters.specs.declared.Fields.{Fields}
use Rattle.device.specs.Updates.{with_marks, with_scope, with_lock, with_saved, with_last_local}
use Rattle.page.specs.declared.Page.{Page}
use Rattle.device.specs.Record.{State, power_on, set_at, nexus_at, empty_set, no_marks, new_nexus}
use Rattle.device.specs.Selecting.{owned_place, selected}
use Rattle.places.specs.Actions.{drawn, act, acts, releases, own_place, room, page_actions, sender_after, supplemented, taken, released_by}
use Rattle.places.specs.declared.Event.{Event}
use Rattle.places.specs.declared.Event.TheVariants.{Demount, NexusLoss, DeviceLoss, Preempt, Microcode, VendorRelease}
use Rattle.places.specs.declared.Room.TheVariants.{Free, Evicting, NoRoom}

abbrev start : State
start = power_on 16 5

-- ENCRYPT and DECRYPT, with CKOD, and CKORL or else CKORP
abbrev fields : Bool → Fields
fields ckorl = record {
  encryption = 2;
  decryption = 2;
  index = 1;
  ceem = 1;
  rdmd = false;
  ckod = true;
  ckorp = not ckorl;
  ckorl = ckorl;
  key = replicate key_size 1;
  kads = no_kads;
}

-- a page of a scope: without the lock, with CKORP; with the lock, with CKORL
abbrev plain : ℕ → Page
plain scope = record { scope = scope; lock = false; supplemental = false; fields = fields false }

abbrev locked : ℕ → Page
locked scope = record { scope = scope; lock = true; supplemental = false; fields = fields true }

-- a PUBLIC page, and a supplemental key for a LOCAL set
abbrev to_public : Page
to_public = record { scope = public_scope; lock = false; supplemental = false; fields = no_fields }

abbrev extra : ℕ → Page
extra byte = record { scope = local_scope; lock = false; supplemental = true; fields = only_key (replicate key_size byte) }

-- an event
abbrev after : Event → State → State
after event s = acts s (releases (released_by event) s.sets)

-- "wraps from 4,294,967,295 to 0"
wraps : drawn 4294967295 ≡ 0
wraps = refl

-- nexuses 0 to 3, then 4, send LOCAL pages
abbrev four : (ℕ → Page) → State
four page = taken (taken (taken (taken start 0 (page local_scope)) 1 (page local_scope)) 2 (page local_scope)) 3 (page local_scope)

abbrev five : State
five = taken (four plain) 4 (plain local_scope)

-- P5: unlocked, "then 4: place 1, number 6; nexus 0 is PUBLIC"
p5 : (selected five 4 ≡ 1) × ((set_at five 1).number ≡ 6) × ((set_at five 1).owner ≡ 4) × ((nexus_at five 0).scope ≡ public_scope) × (selected five 1 ≡ 2) × ((set_at five 2).number ≡ 2)
unfolding power_on selected owned_place act acts releases own_place room page_actions sender_after supplemented taken
p5 = (refl, refl, refl, refl, refl, refl)

-- P6: "all four locked": no place for nexus 4
p6 : (room (four locked) 4 ≡ NoRoom) × (room (four plain) 4 ≡ Evicting 1) × (room (four locked) 3 ≡ Free 4)
unfolding power_on selected owned_place act acts releases own_place room page_actions sender_after supplemented taken
p6 = (refl, refl, refl)

-- nexus 5 sends ALL with the lock, then nexus 6 ALL
abbrev replaced : State
replaced = taken (taken start 5 (locked all_scope)) 6 (plain all_scope)

-- "any other ALL nexus becomes PUBLIC"; its lock and saved number stay
all-replaces-all : ((nexus_at replaced 5).scope ≡ public_scope) × ((nexus_at replaced 5).lock ≡ true) × ((nexus_at replaced 5).saved ≡ 1) × ((nexus_at replaced 6).scope ≡ all_scope) × ((set_at replaced 0).owner ≡ 6) × ((set_at replaced 0).number ≡ 2)
unfolding power_on selected owned_place act acts releases own_place room page_actions sender_after supplemented taken
all-replaces-all = (refl, refl, refl, refl, refl, refl)

-- nexus 3 sends LOCAL with the lock
abbrev held : State
held = taken start 3 (locked local_scope)

abbrev opened : State
opened = taken held 3 to_public

-- the number saved is the one that the page drew
saved-after-draw : (held.counter ≡ 1) × ((set_at held 1).number ≡ 1) × (nexus_at held 3 ≡ with_scope local_scope (with_lock true (with_saved 1 (with_last_local 1 (with_marks no_marks new_nexus)))))
unfolding power_on selected owned_place act acts releases own_place room page_actions sender_after supplemented taken
saved-after-draw = (refl, refl, refl)

-- "with LOCK 0 the saved number stays. LOCAL saves its last-LOCAL number."
saved-stays : nexus_at (taken held 3 (plain local_scope)) 3 ≡ with_scope local_scope (with_lock false (with_saved 1 (with_last_local 2 (with_marks no_marks new_nexus))))
unfolding power_on selected owned_place act acts releases own_place room page_actions sender_after supplemented taken
saved-stays = refl

-- "PUBLIC: the nexus's own LOCAL place, if any, is released"
public-releases : (opened.counter ≡ 2) × (set_at opened 1 ≡ empty_set 2) × ((nexus_at opened 3).scope ≡ public_scope) × (selected opened 3 ≡ 0)
unfolding power_on selected owned_place act acts releases own_place room page_actions sender_after supplemented taken
public-releases = (refl, refl, refl, refl)

-- a PUBLIC page of a nexus without a LOCAL place draws nothing
public-draws-nothing : ((taken replaced 7 to_public).counter ≡ 2) × ((set_at (taken replaced 6 to_public) 0).scope ≡ all_scope)
unfolding power_on selected owned_place act acts releases own_place room page_actions sender_after supplemented taken
public-draws-nothing = (refl, refl)

-- two supplemental keys
abbrev more : State
more = taken (taken held 3 (extra 7)) 3 (extra 9)

-- they are appended; "Instance numbers and locks stay"
supplemental-draws-nothing : (more.counter ≡ 1) × ((set_at more 1).number ≡ 1) × ((nexus_at more 3).lock ≡ true) × ((set_at more 1).supplemental.count ≡ 2) × (get_or (set_at more 1).supplemental.keys 31 0 ≡ 7) × (get_or (set_at more 1).supplemental.keys 32 0 ≡ 9) × (get_or (set_at more 1).supplemental.keys 64 0 ≡ 0)
unfolding power_on selected owned_place act acts releases own_place room page_actions sender_after supplemented taken
supplemental-draws-nothing = (refl, refl, refl, refl, refl, refl, refl)

-- nexus 6, the owner of place 0, sends LOCAL
abbrev both : State
both = taken replaced 6 (locked local_scope)

-- "A former ALL owner's set stays in place 0."
local-leaves-place-0 : (both.counter ≡ 3) × ((set_at both 0).scope ≡ all_scope) × ((set_at both 0).number ≡ 2) × ((set_at both 1).owner ≡ 6) × ((set_at both 1).number ≡ 3) × ((nexus_at both 6).scope ≡ local_scope)
unfolding power_on selected owned_place act acts releases own_place room page_actions sender_after supplemented taken
local-leaves-place-0 = (refl, refl, refl, refl, refl, refl)

-- ALL: "its LOCAL place, if any, is released first"
all-releases-own : ((taken held 3 (plain all_scope)).counter ≡ 3) × (set_at (taken held 3 (plain all_scope)) 1 ≡ empty_set 2) × ((set_at (taken held 3 (plain all_scope)) 0).number ≡ 3)
unfolding power_on selected owned_place act acts releases own_place room page_actions sender_after supplemented taken
all-releases-own = (refl, refl, refl)

-- a release empties the place; the nexus becomes PUBLIC, and its lock and saved numbers stay
lock-stays : (set_at (after Demount held) 1 ≡ empty_set 2) × (nexus_at (after Demount held) 3 ≡ with_scope public_scope (with_lock true (with_saved 1 (with_last_local 1 (with_marks no_marks new_nexus)))))
unfolding power_on selected owned_place act acts releases own_place room page_actions sender_after supplemented taken
lock-stays = (refl, refl)

-- "Releasing an empty place does nothing and counts as no release."
empty-draws-nothing : (after (VendorRelease 1) start ≡ start) × ((after (VendorRelease 2) held).counter ≡ 1) × ((after (VendorRelease 1) held).counter ≡ 2)
unfolding power_on selected owned_place act acts releases own_place room page_actions sender_after supplemented taken
empty-draws-nothing = (refl, refl, refl)

-- microcode releases all, "places in rising order"
microcode-releases-all : (set_at (after Microcode both) 0 ≡ empty_set 4) × (set_at (after Microcode both) 1 ≡ empty_set 5) × ((after Microcode both).counter ≡ 5)
unfolding power_on selected owned_place act acts releases own_place room page_actions sender_after supplemented taken
microcode-releases-all = (refl, refl, refl)

-- "nexus reservation loss, LOCAL CKORL sets of that nexus"
nexus-loss : (set_at (after (NexusLoss 6) both) 1 ≡ empty_set 4) × ((after (NexusLoss 6) both).counter ≡ 4) × (after (NexusLoss 5) both ≡ both) × (after (NexusLoss 4) five ≡ five)
unfolding power_on selected owned_place act acts releases own_place room page_actions sender_after supplemented taken
nexus-loss = (refl, refl, refl, refl)

-- "device reservation loss, place 0 if CKORL"
device-loss : (set_at (after DeviceLoss (taken start 5 (locked all_scope))) 0 ≡ empty_set 2) × (after DeviceLoss both ≡ both)
unfolding power_on selected owned_place act acts releases own_place room page_actions sender_after supplemented taken
device-loss = (refl, refl)

-- "preempt by a nexus, CKORP sets"
preempt : (set_at (after (Preempt 1) both) 0 ≡ empty_set 4) × ((after (Preempt 1) both).counter ≡ 4)
unfolding power_on selected owned_place act acts releases own_place room page_actions sender_after supplemented taken
preempt = (refl, refl)
