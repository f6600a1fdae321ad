-- A session read for one nexus on this model, and the record at its end.
use Rattle.std.specs.Prelude.{ℕ, List}
use Rattle.device.specs.Words.{with_words}
use Rattle.device_16.specs.Model.{record_of}
use Rattle.drive.specs.Calls.{Call}
use Rattle.drive.specs.Runs.{run_from}
use Rattle.session.specs.Folds.{fold_calls}
use Rattle.session_16.specs.Sessions.{start}
use Rattle.why.specs.Watching.{watched, unwatched}
use Rattle.why_16.specs.declared.Followed.{Followed}

abbrev pub followed_for : ℕ → List Call → Followed
followed_for n calls = record { after = record_of (with_words (run_from start calls)); watch = fold_calls (watched n) 0 start calls unwatched }
