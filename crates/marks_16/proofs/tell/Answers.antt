use Rattle.std.specs.Prelude.{ℕ, Option}
use borrow.Author.Rules.{rules}
use Prim.Native.Nat.{ℕ}
use mathlib.Core.Path.{◌≡◌, sym, ap, ap₂, ◌∙◌}
use mathlib.Core.Bool.{true, ◌||◌}
use mathlib.Core.List.{List}
use lib.Dec.{eqb}
use lib.ListN.{length, get_or}
use Rattle.arrays.specs.Arrays.{map_from}
use Rattle.arrays.specs.Words.{bit_of}
use Rattle.arrays.proofs.Laws.{sized-field}
use Rattle.sizes_16.specs.Sizes.{nexus_count, place_count}
use Rattle.device.specs.Record.{State, new_nexus}
use Rattle.device.specs.Updates.{with_nexuses}
use Rattle.device.specs.Words.{words}
use Rattle.device.specs.declared.Nexus.{Nexus}
use Rattle.device_16.specs.Model.{state, device, worded, record_of}
use Rattle.device_16.specs.declared.Device.{Device}
use Rattle.device_16.specs.declared.Record.{Record}
use Rattle.words.specs.Changes.{changed_word}
use Rattle.marks.specs.Marks.{remarked, alerted, flagged}
use Rattle.marks.specs.Parts.{told_in, actor_bit, told_by}
use Rattle.marks.proofs.Telling.{quiet}
use Rattle.marks_16.proofs.tell.Goals as goal

-- the record that is told, by the words and the word that the code made
module _ (before : Record) (after : Device) (actor : Option ℕ) (has : List ℕ) (word : ℕ) (places : length after.sets ≡ place_count) (anew : has ≡ words (state after))
    (formed : word ≡ changed_word place_count before.device.sets after.sets before.words has) where
  changes : word ≡ changed_word (length after.sets) before.device.sets after.sets before.words (words (state after))
  changes = formed ∙ ap₂ (λ (k : ℕ) (l : List ℕ). changed_word k before.device.sets after.sets before.words l) (sym places) anew

  told_is : {s : State} → s ≡ flagged (bit_of word) actor (state before.device) (state after) → record { device = device s; words = has } ≡ record_of (told_by actor (worded before) (state after))
  unfolding told_by
  told_is e =
      let f = e ∙ ap (λ (w : ℕ). flagged (bit_of w) actor (state before.device) (state after)) changes in
      λ i. record { device = device (f i); words = anew i }

  -- nobody is
  nobody : length after.nexuses ≡ nexus_count → {bit : ℕ} → bit ≡ actor_bit nexus_count actor → (eqb word 0 || eqb word bit) ≡ true → record { device = after; words = has } ≡ record_of (told_by actor (worded before) (state after))
  nobody n {bit} e h = told_is (sym (quiet nexus_count actor (state before.device) (state after) word bit n e h))

  -- each that has its bit
  those : {nexuses : List Nexus} → nexuses ≡ map_from (λ n. remarked (alerted actor (told_in (get_or before.device.nexuses n new_nexus) n actor word))) 0 after.nexuses
      → record { device = device (with_nexuses nexuses (state after)); words = has } ≡ record_of (told_by actor (worded before) (state after))
  unfolding flagged
  those e = told_is (ap (λ (l : List Nexus). with_nexuses l (state after)) e)

pub returns-then-word-actor_bit : goal.returns-then-word-actor_bit
returns-then-word-actor_bit c =
    let a = c.args in
    nobody a.before a.after a.actor c.words_of-words.result c.changed_word-word.result (search (rules, sized-field)) c.words_of-words.ensures c.changed_word-word.ensures
    (search (rules, sized-field)) c.actor_bit.ensures c.if-word-actor_bit.true

pub returns : goal.returns
returns c =
    let a = c.args in
    those a.before a.after a.actor c.words_of-words.result c.changed_word-word.result (search (rules, sized-field)) c.words_of-words.ensures c.changed_word-word.ensures c.alert_by-nexuses.ensures
