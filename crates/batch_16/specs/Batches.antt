-- What a batch gives on this model.
use Rattle.std.specs.Prelude.{ℕ, ◌≡◌, List, length}
use Rattle.device.specs.Words.{Worded}
use Rattle.device_16.specs.Model.{record_of}
use Rattle.session_16.specs.declared.Ran.{Ran}
use Rattle.batch.specs.Batches.{batch_verdict, batch_record, batch_buffer}

-- the record at the end and the verdict, and each byte of the lent buffer
pub record Batched (r : Worded) (events pages buffer : List ℕ) (a : Ran) (end : List ℕ) : Type 0 where
  pub ran : a ≡ record { after = record_of (batch_record r events pages buffer); verdict = batch_verdict events pages (length buffer) }
  pub told : end ≡ batch_buffer r events pages buffer
