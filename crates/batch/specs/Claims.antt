-- What the table of batches claims (proofs/Worked), and when a claim holds, on a drive of 16 nexuses and 5 places.
use Rattle.std.specs.Prelude.{ℕ, Bool, true, ◌&&◌, List, [], ◌∷◌, ◌++◌, eqb, replicate}
use Rattle.device.specs.Words.{Worded, same_words}
use Rattle.drive.specs.Claims.{same_list, same_record}
use Rattle.recording.specs.Verdicts.{verdict_number}
use Rattle.batch.specs.Batches.{batch_verdict, batch_record, batch_buffer}

-- a starting record, events, page bytes and a lent buffer of so many bytes, A5h before; the verdict's number, the buffer after, and the
-- whole record at the end, its words included
pub record Batch : Type 0 where
  pub from : Worded
  pub events : List ℕ
  pub pages : List ℕ
  pub lent : ℕ
  pub number : ℕ
  pub told : List ℕ
  pub end : Worded

-- the lent buffer before
abbrev pub lent_bytes : ℕ → List ℕ
lent_bytes lent = replicate lent 0xA5

-- taken: these answers, so many bytes beyond, and this record
abbrev pub takes : Worded → (events pages : List ℕ) → (lent : ℕ) → (answers : List ℕ) → (beyond : ℕ) → (end : Worded) → Batch
takes r events pages lent answers beyond end =
    record { from = r; events = events; pages = pages; lent = lent; number = 0; told = answers ++ lent_bytes beyond; end = end }

-- refused: buffer and record as they were
abbrev pub refuses : Worded → (events pages : List ℕ) → (lent : ℕ) → (number : ℕ) → Batch
refuses r events pages lent number =
    record { from = r; events = events; pages = pages; lent = lent; number = number; told = lent_bytes lent; end = r }

abbrev same : Worded → Worded → Bool
same r t = same_record r.state t.state && same_words r.words t.words

abbrev holds : Batch → Bool
holds b =
    eqb (verdict_number (batch_verdict b.events b.pages b.lent)) b.number
    && same_list (batch_buffer b.from b.events b.pages (lent_bytes b.lent)) b.told
    && same (batch_record b.from b.events b.pages (lent_bytes b.lent)) b.end

unfoldable pub batched : List Batch → Bool
batched [] = true
batched (b ∷ more) = holds b && batched more
