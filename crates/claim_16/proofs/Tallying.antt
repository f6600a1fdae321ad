-- A session tallied: writes noted, event by event.
-- Assumes nothing.
use Prim.Native.Nat.{ℕ, ◌+◌, ◌≤◌}
use mathlib.Core.Path.{◌≡◌, refl, sym, ap, ap₂, ◌∙◌}
use mathlib.Core.Bool.{true}
use mathlib.Core.List.{List, []}
use lib.ListN.{length, drop}
use Rattle.device.specs.Record.{State}
use Rattle.device.specs.Selecting.{selected_set}
use Rattle.drive.specs.Checks.{answer_where}
use Rattle.drive.specs.Records.{after_of}
use Rattle.drive.specs.declared.Decision.{Decision}
use Rattle.sizes_16.specs.Sizes.{nexus_count}
use Rattle.device.specs.Words.{Worded, with_words}
use Rattle.device_16.specs.Model.{worded}
use Rattle.drive_16.specs.Outcomes.{outcome_by}
use Rattle.drive_16.specs.declared.Outcome.{Outcome}
use Rattle.calls.specs.Asking.{call_of}
use Rattle.calls.specs.Quiet.{sender_number}
use Rattle.calls.specs.declared.Asked.{Asked}
use Rattle.calls.specs.declared.Quiet.{Quiet}
use Rattle.calls.proofs.Quietly.{quiet_of}
use Rattle.calls_16.specs.Sights.{sighted}
use Rattle.calls_16.specs.declared.Sight.{Sight}
use Rattle.recording.specs.Entries.{entry_of, event_asked, event_page, call}
use Rattle.recording.specs.declared.Entry.{Entry}
use Rattle.session_16.specs.Sessions.{start}
use Rattle.session_16.proofs.Playing.{Playing, play-starts, play-more, next, call-made, quiet_is, made-is}
use Rattle.claim.specs.declared.Row.{Row}
use Rattle.claim.specs.Writes.{wrote}
use Rattle.claim.specs.Rows.{rows_of}
use Rattle.claim.specs.Making.{became_by, wrote_as, noted_each}
use Rattle.claim.proofs.Sessions.{notes}
use Rattle.claim.proofs.Noting.{Noting, noting-starts, wrote_found, noting-more}

-- the invariant of the loop: writes are noted, there are no more of them than events so far, and the record is well formed
pub record Tallying (pages events : List ℕ) (r : Worded) (rows : List Row) (rest : List ℕ) : Type 0 where
  pub i : ℕ
  pub plays : Playing (notes nexus_count) pages events start (rows_of nexus_count []) r rows rest i
  pub noting : Noting nexus_count i rows

-- nothing is noted yet
pub tally-starts : (pages events : List ℕ) {r : Worded} {rows : List Row} → r ≡ with_words start → rows ≡ rows_of nexus_count [] → Tallying pages events r rows events
tally-starts pages events e f = rw f (record { i = 0; plays = play-starts e; noting = noting-starts nexus_count refl })

-- what an event is found to be, as the code finds it: its sender, the set that this uses, and what became of its write
pub record Found (s : State) (rest : List ℕ) (e : Entry) (asked : Asked) (sight : Sight) (q : Quiet) (d : Decision) : Type 0 where
  pub entry : e ≡ entry_of rest
  pub asks : asked ≡ event_asked e
  pub sighting : sight ≡ sighted s (sender_number asked)
  pub finding : q ≡ quiet_of true s (event_asked (entry_of rest))
  pub became : d ≡ became_by q.answer sight.set.fields.encryption

module _ {pages events : List ℕ} {r : Worded} {rows : List Row} {rest : List ℕ} (l : Tallying pages events r rows rest)
    {e : Entry} {asked : Asked} {sight : Sight} {q : Quiet} {d : Decision} (f : Found r.state rest e asked sight q d) where
  abbrev s : State
  s = r.state

  -- what is noted is what became of its write
  noted-is : wrote_as asked d ≡ wrote s (next l.plays)
  unfolding call
  noted-is =
      let asks : asked ≡ event_asked (entry_of rest) = f.asks ∙ ap event_asked f.entry in
      let used : sight.set.fields.encryption ≡ (selected_set s (sender_number (event_asked (entry_of rest)))).fields.encryption =
      ap (λ (x : Sight). x.set.fields.encryption) f.sighting ∙ ap (λ a. (selected_set s (sender_number a)).fields.encryption) asks in
      let becomes : d ≡ became_by (quiet_of true s (event_asked (entry_of rest))).answer (selected_set s (sender_number (event_asked (entry_of rest)))).fields.encryption =
      f.became ∙ ap₂ became_by (ap (λ (x : Quiet). x.answer) f.finding) used in
      ap₂ wrote_as asks becomes ∙ wrote_found true s (sym l.plays.well) (event_asked (entry_of rest)) (event_page pages (entry_of rest))

  told : {more : List Row} → more ≡ noted_each nexus_count (wrote_as asked d) rows → more ≡ notes nexus_count l.i s (next l.plays) rows
  told g = g ∙ ap (λ w. noted_each nexus_count w rows) noted-is

  module _ (h : 8 ≤ length rest) {more : List Row} (g : more ≡ noted_each nexus_count (wrote_as asked d) rows) {t : Worded} where
    -- one event more
    tallied : t ≡ after_of r (next l.plays) → Tallying pages events t more (drop 8 rest)
    tallied e = record { i = l.i + 1; plays = play-more l.plays h e (told g); noting = noting-more l.noting asked d g }

    -- that leaves the record as it is
    pub quiet-tallied : q.quiet ≡ true → t ≡ r → Tallying pages events t more (drop 8 rest)
    quiet-tallied here a = tallied (a ∙ (quiet_is l.plays.knows pages rest f.finding here).left)

    -- any other
    pub call-tallied : {page : List ℕ} {o : Outcome} → page ≡ event_page pages e → o ≡ outcome_by r (call_of asked page) (answer_where true s (call_of asked page))
        → t ≡ worded o.after → Tallying pages events t more (drop 8 rest)
    call-tallied c o a = tallied (a ∙ (made-is l.plays.knows (call-made pages rest f.entry f.asks c) o).left)
