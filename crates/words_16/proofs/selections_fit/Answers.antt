use borrow.Author.Rules.{rules}
use borrow.Author.Tests.{not-true, not-false}
use Prim.Native.Nat.{ℕ, ◌-◌, ◌^◌}
use mathlib.Core.Path.{◌≡◌, sym, ap}
use mathlib.Core.Bool.{Bool, true, false, not, ◌&&◌}
use mathlib.Core.List.{List}
use lib.Bits.{bit_xor}
use lib.Dec.{eqb}
use lib.ListN.{length, get_or}
use Rattle.arrays.proofs.Base.{and_first, and_last}
use Rattle.sizes_16.specs.Sizes.{nexus_count, place_count}
use Rattle.device.specs.Record.{no_set}
use Rattle.device.specs.declared.Set.{Set}
use Rattle.device.specs.declared.Nexus.{Nexus}
use Rattle.words.specs.Fitting.{held_by, scopes_fit, selections_fit}
use Rattle.words.specs.declared.Held.{Held}
use Rattle.words_16.proofs.selections_fit.Goals as goal

-- by what the places were found to hold
module _ (sets : List Set) (nexuses : List Nexus) (words : List ℕ) (held : Held) (l : length sets ≡ place_count) (e : held ≡ held_by sets words place_count) where
  -- the words fit
  abbrev fits : Bool
  fits = held.fits && eqb (get_or words 0 0) (bit_xor (2 ^ nexus_count - 1) held.word)

  stops : not fits ≡ true → false ≡ selections_fit (2 ^ nexus_count - 1) sets nexuses words
  unfolding selections_fit
  stops t = rw (l, ← e) (and_first fits (scopes_fit (get_or sets 0 no_set) held.word nexuses) (sym (not-true fits t)))

  goes_on : not fits ≡ false → {r : Bool} → r ≡ scopes_fit (get_or sets 0 no_set) held.word nexuses → r ≡ selections_fit (2 ^ nexus_count - 1) sets nexuses words
  unfolding selections_fit
  goes_on f s = rw (l, ← e) (and_last fits (scopes_fit (get_or sets 0 no_set) held.word nexuses) (sym (not-false fits f)) s)

pub returns-then-not-held-words : goal.returns-then-not-held-words
returns-then-not-held-words c =
    let held = c in
    let a = held.args in
    stops a.sets a.nexuses a.words held.held_by-held.result (search rules) held.held_by-held.ensures (ap not c.if-not-held-words.true)

pub returns : goal.returns
returns c =
    let passed = c in
    let held = passed in
    let a = held.args in
    goes_on a.sets a.nexuses a.words held.held_by-held.result (search rules) held.held_by-held.ensures (ap not passed.if-not-held-words.false) c.scopes_fit.ensures
