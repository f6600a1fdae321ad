-- What every command orders, and what every call, question and batch of the stream is replied.
-- Assumes nothing.
use Prim.Native.Nat.{ℕ, ◌+◌, ◌/◌, ◌%◌, ◌^◌, ◌<◌, ◌≤◌}
use mathlib.Core.Path.{◌≡◌, refl, sym, ap, ap₂, ◌∙◌}
use mathlib.Core.Bool.{true, false}
use mathlib.Core.List.{List, [], ◌∷◌, ◌++◌}
use native.Mathlib.Omega.{arith}
use borrow.Author.Tests.{le-leb, lt-leb, ne_eqb}
use lib.Dec.{leb, eqb}
use lib.ListN.{length, get_or, take, drop, length-append}
use lib.Pow.{pow_mono}
use lib.Seq.{take_at, drop_at}
use Rattle.arrays.specs.Words.{bit_of}
use Rattle.arrays.proofs.Base.{cases, clash, if-true, if-false}
use Rattle.arrays.proofs.Words.{word_below}
use Rattle.wire.specs.Numbers.{byte_at, word, word_at, two, wide, eight}
use Rattle.wire.proofs.Numbers.{word_two, wide-eight}
use Rattle.answer.specs.Answers.{is_field_wrong}
use Rattle.answer.specs.declared.Answer.TheVariants.{FieldWrong}
use Rattle.device.specs.Selecting.{selected}
use Rattle.device.specs.Words.{words, Worded, formed}
use Rattle.device.specs.declared.Nexus.{Nexus}
use Rattle.words.proofs.Words.{word-at, bit-selects, formed-is}
use Rattle.status.proofs.Pointing.{status-judged}
use Rattle.drive.specs.Calls.{Call, security_out, is_power_up}
use Rattle.drive.specs.Checks.{answer}
use Rattle.drive.specs.Records.{answer_of}
use Rattle.drive.specs.Serving.{served_answer}
use Rattle.drive.proofs.Effects.{known-agrees}
use Rattle.drive.proofs.Records.{formed-known, unformed-due}
use Rattle.drive.proofs.Pointing.{page-points}
use Rattle.calls.specs.Asking.{call_of}
use Rattle.calls.specs.declared.Asked.{Asked}
use Rattle.calls.specs.declared.Asked.TheVariants.{PowerOn, In, Out, Write, Read, UnitReset, Happen}
use Rattle.recording.specs.Verdicts.{verdict_number}
use Rattle.batch.specs.Batches.{batch_verdict, batch_record, batch_buffer}
use Rattle.command.specs.Requests.{request_of, call_order, tool_order, order_of, batch_events, batch_pages, holds_events}
use Rattle.command.specs.Replies.{Replied, pointer, unknown_reply, in_reply, out_reply, write_reply, read_reply, serves_reply, status_reply, asked_reply, batch_reply}
use Rattle.command.specs.Ordered.{Ordered, Answers, Points, Data, AnswersServes, ReadsStatus, AnswersBatch}
use Rattle.command.specs.declared.Request.{Request}

-- The 8 bytes of a command, whatever they are; byte 5, the port, isn't read.
pub command-read : (k n a₁ a₀ p port l₁ l₀ : ℕ) → request_of (k ∷ n ∷ a₁ ∷ a₀ ∷ p ∷ port ∷ l₁ ∷ l₀ ∷ [])
    ≡ record { kind = k; nexus = n; argument = word a₁ a₀; protocol = p; length = word l₁ l₀ }
command-read k n a₁ a₀ p port l₁ l₀ = refl

-- What every command orders.
pub ordered : (r : Request) → Ordered r
unfolding order_of call_order tool_order
ordered r = record {
  call = λ h f g. simp (le-leb r.kind 11 h, ne_eqb r.kind 1 f, ne_eqb r.kind 3 g);
  lends = λ e h. rw (e, le-leb r.length 4096 h) refl;
  lends_above = λ e h. rw (e, lt-leb r.length 4096 h) refl;
  write = λ e h. rw (e, le-leb r.argument 1 h) refl;
  write_above = λ e h. rw (e, lt-leb r.argument 1 h) refl;
  batch = λ e h. rw (e, le-leb r.argument 4096 h) refl;
  batch_above = λ e h. rw (e, lt-leb r.argument 4096 h) refl;
  serves = λ e. rw e refl;
  other = λ h k. simp (lt-leb r.kind 11 (omega arith), ne_eqb r.kind 12 (λ e. omega arith), ne_eqb r.kind 13 (λ e. omega arith), ne_eqb r.kind 253 (λ e. omega arith), ne_eqb r.kind 254 (λ e. omega arith), ne_eqb r.kind 255 (λ e. omega arith));
  status = λ e. rw e refl;
  take = λ e. rw e refl;
  give = λ e. rw e refl;
}

-- a byte that fits two is told by them
points : (bytes : List ℕ) (b : ℕ) → bytes ≡ two b → b < 2 ^ 16 → Points b bytes
points bytes b e l = (e, ap (λ (x : List ℕ). word_at x 0) e ∙ word_two b l)

-- What the status reader is replied.
pub status-replied : (r : Worded) (page : List ℕ) → ReadsStatus r page
unfolding status_reply
status-replied r page = record {
  read = λ e. rw e refl;
  pointed = λ b e. points _ b (rw e refl) ((status-judged page).fits b e);
  short = λ e. rw e refl;
}

-- What the question which nexuses select a place is replied.
module _ (r : Worded) (place : ℕ) where
  -- the place's word, and in a well-formed record of 64 nexuses at most, its bits
  told-word : formed r ≡ true → place < length r.state.sets → (serves_reply r place).bytes ≡ eight (get_or r.words place 0)
  unfolding serves_reply served_answer
  told-word t h = rw (t, lt-leb _ _ h) refl

  told-bits : formed r ≡ true → place < length r.state.sets → length r.state.nexuses ≤ 64
      → (n : ℕ) → n < length r.state.nexuses → bit_of (wide (serves_reply r place).bytes) n ≡ eqb (selected r.state n) place
  told-bits t h few n l =
      let s = r.state in
      let held : get_or r.words place 0 ≡ get_or (words s) place 0 = ap (λ (x : Worded). get_or x.words place 0) (formed-is r t).1 in
      let below : get_or (words s) place 0 < 2 ^ length s.nexuses = rw (word-at s place h) (word_below (λ k (x : Nexus). eqb (selected s k) place) s.nexuses 0) in
      let fits : 2 ^ length s.nexuses ≤ 2 ^ 64 = pow_mono few in
      let small : get_or (words s) place 0 < 2 ^ 64 = omega (arith, below, fits) in
      ap (λ (bytes : List ℕ). bit_of (wide bytes) n) (told-word t h ∙ ap eight held)
      ∙ ap (λ (w : ℕ). bit_of w n) (wide-eight (get_or (words s) place 0) small [])
      ∙ bit-selects s place n h l

  pub serves-replied : AnswersServes r place (serves_reply r place)
  unfolding serves_reply served_answer
  serves-replied = record {
    unformed = λ f. (rw f refl, rw f refl);
    above = λ t h. (rw (t, le-leb _ _ h) refl, rw (t, le-leb _ _ h) refl);
    told = λ t h. (rw (t, lt-leb _ _ h) refl, told-word t h);
    selects = told-bits;
    sense = cases (formed r) (λ t. cases (leb (length r.state.sets) place) (λ u. rw (t, u) refl) (λ u. rw (t, u) refl)) (λ f. rw f refl);
    left = refl;
  }

-- where a page is answered 8, document 01 says so of the record without its words
eight-due : (r : Worded) (call : Call) (b : ℕ) → is_power_up call ≡ false → answer_of r call ≡ FieldWrong b → answer r.state call ≡ FieldWrong b
eight-due r call b p e =
    cases (formed r)
    (λ t. known-agrees r.state call (formed-is r t).0 ∙ formed-known r call t ∙ e)
    (λ f. clash refl (sym (ap is_field_wrong (unformed-due r call p f ∙ e))))

-- What a call of the stream is replied, whoever sends it and with whatever page and lent buffer.
pub call-replied : (r : Worded) (asked : Asked) (page lent : List ℕ) → Answers r (call_of asked page) (asked_reply r asked page lent)
unfolding asked_reply in_reply out_reply write_reply read_reply
call-replied r PowerOn page lent = record { number = refl; sense = refl; left = refl }
call-replied r (In command) page lent = record { number = refl; sense = refl; left = refl }
call-replied r (Out command) page lent = record { number = refl; sense = refl; left = refl }
call-replied r (Write n supported) page lent = record { number = refl; sense = refl; left = refl }
call-replied r (Read n block) page lent = record { number = refl; sense = refl; left = refl }
call-replied r UnitReset page lent = record { number = refl; sense = refl; left = refl }
call-replied r (Happen event) page lent = record { number = refl; sense = refl; left = refl }

-- And its data.
pub data-replied : (r : Worded) (page lent : List ℕ) → Data r page lent
unfolding asked_reply in_reply out_reply write_reply read_reply
data-replied r page lent = record {
  given = λ c. refl;
  written = λ n supported t. simp t;
  unwritten = λ n supported f. simp f;
  read = λ n block t. simp t;
  unread = λ n block f. simp f;
  pointed = λ c b e. points _ b (ap pointer e) ((page-points r.state c page).fits b (eight-due r (security_out c page) b refl e));
  sent = λ c f. simp f;
  happened = λ event. refl;
  reset = refl;
  powered = refl;
}

-- ---- a batch's data

module _ (events pages : List ℕ) (small : length events < 65536) where
  abbrev batch_data : List ℕ
  batch_data = two (length events) ++ (events ++ pages)

  -- they tell how many bytes of events there are
  counted : word (length events / 256 % 256) (length events % 256) ≡ length events
  counted = word_two (length events) small

  -- the events and the page bytes are read back
  pub batch-events : batch_events batch_data ≡ events
  batch-events = ap (λ (n : ℕ). take n (events ++ pages)) counted ∙ take_at events pages (length events) refl

  pub batch-pages : batch_pages batch_data ≡ pages
  batch-pages = ap (λ (n : ℕ). drop (2 + n) batch_data) counted ∙ drop_at (two (length events) ++ events) pages (2 + length events) (omega arith)

  batch-held : holds_events batch_data ≡ true
  batch-held = le-leb (2 + word (length events / 256 % 256) (length events % 256)) (length batch_data) (omega (arith, counted, length-append events pages))

  -- What a batch of the stream is replied.
  pub batch-replied : (r : Worded) (lent : List ℕ) → AnswersBatch r events pages lent (batch_reply r batch_data lent)
  unfolding batch_reply
  batch-replied r lent =
      let e = if-true (holds_events batch_data) _ (unknown_reply r) batch-held in
      record {
        number = ap (λ (x : Replied). x.number) e ∙ ap₂ (λ (x y : List ℕ). verdict_number (batch_verdict x y (length lent))) batch-events batch-pages;
        sense = ap (λ (x : Replied). x.sense) e;
        told = ap (λ (x : Replied). x.bytes) e ∙ ap₂ (λ (x y : List ℕ). batch_buffer r x y lent) batch-events batch-pages;
        left = ap (λ (x : Replied). x.after) e ∙ ap₂ (λ (x y : List ℕ). batch_record r x y lent) batch-events batch-pages;
      }

-- One whose E runs past its data is unknown.
pub batch-past : (r : Worded) (bytes lent : List ℕ) → length bytes < 2 + word (byte_at bytes 0) (byte_at bytes 1) → batch_reply r bytes lent ≡ unknown_reply r
unfolding batch_reply
batch-past r bytes lent h = if-false (holds_events bytes) _ (unknown_reply r) (lt-leb _ _ h)
