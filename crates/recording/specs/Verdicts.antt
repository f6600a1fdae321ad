-- What a recorded session as a whole is answered: the numbers of document 02. None has sense.
use Rattle.std.specs.Prelude.{ℕ, Bool, eqb}
use Rattle.recording.specs.declared.Verdict.{Verdict}
use Rattle.recording.specs.declared.Verdict.TheVariants.{Done, BatchNotTaken, EventsAbove, NotSalvageable, RecordingWrong, RateAbove}

abbrev pub verdict_number : Verdict → ℕ
verdict_number Done = 0
verdict_number BatchNotTaken = 18
verdict_number EventsAbove = 19
verdict_number NotSalvageable = 21
verdict_number RecordingWrong = 22
verdict_number RateAbove = 23

abbrev pub is_taken : Verdict → Bool
is_taken verdict = eqb (verdict_number verdict) 0
