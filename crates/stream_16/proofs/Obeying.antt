-- An order followed, and a command obeyed.
-- Assumes nothing.
use Prim.Native.Nat.{ℕ, ◌<◌, ◌≤◌}
use mathlib.Core.Path.{◌≡◌, refl, sym, ap, ◌∙◌}
use mathlib.Core.List.{List}
use borrow.Author.Tests.{lt-ltb, le-ltb}
use native.Mathlib.Omega.{arith}
use lib.ListN.{length}
use Rattle.arrays.proofs.Base.{cases, if-true}
use Rattle.answer.specs.declared.Answer.TheVariants.{Done}
use Rattle.device.specs.Record.{State, power_on}
use Rattle.device.specs.Words.{Worded, with_words, formed}
use Rattle.device_16.specs.Model.{record_of}
use Rattle.sizes_16.specs.Sizes.{nexus_count, place_count}
use Rattle.drive.specs.Calls.{Call, power_up}
use Rattle.drive.specs.Checks.{answer, known_answer, answer_where, checks}
use Rattle.drive.specs.Effects.{effect_by}
use Rattle.drive.specs.After.{changed_by, carried_out}
use Rattle.drive_16.specs.Outcomes.{powered_on, outcome}
use Rattle.drive_16.specs.declared.Outcome.{Outcome}
use Rattle.command.specs.Requests.{lent_most, order_of, lent_size}
use Rattle.calls.specs.declared.Asked.{Asked}
use Rattle.command.specs.Replies.{Replied, unknown_reply, called, asked_reply, obeyed}
use Rattle.command.specs.declared.Request.{Request}
use Rattle.command.specs.declared.Order.{Order}
use Rattle.command.proofs.Requests.{lends-most}
use Rattle.reply_16.specs.Giving.{reply_most, reply_of, reply_with, Given}
use Rattle.reply_16.proofs.Giving.{kept}
use Rattle.stream_16.specs.Stream.{lent_part, served}
use Rattle.reply_16.specs.declared.Reply.{Reply}

-- a call that gives its answer alone
pub call-told : (w : Worded) (call : Call) {o : Outcome} {r : Reply} → o ≡ outcome w call → r ≡ reply_with o.after o.answer 0
    → r ≡ reply_of (called w call)
unfolding outcome
call-told w call p u = u ∙ ap (λ (x : Outcome). reply_with x.after x.answer 0) p

-- power-on, whatever the record
power-replied : (w : Worded) → reply_with (record_of (with_words (power_on (length w.state.nexuses) (length w.state.sets)))) Done 0 ≡ reply_of (called w power_up)
unfolding answer known_answer answer_where checks effect_by changed_by carried_out
power-replied w = sym (cases (formed w) (λ t. rw t refl) (λ f. rw f refl))

pub power-told : (w : Worded) {o : Outcome} {r : Reply} → length w.state.nexuses ≡ nexus_count → length w.state.sets ≡ place_count → o ≡ powered_on
    → r ≡ reply_with o.after o.answer 0 → r ≡ reply_of (called w power_up)
power-told w nexuses places p u =
    let same : power_on nexus_count place_count ≡ power_on (length w.state.nexuses) (length w.state.sets) = rw (nexuses, places) refl in
    u ∙ ap (λ (x : Outcome). reply_with x.after x.answer 0) p ∙ ap (λ (x : State). reply_with (record_of (with_words x)) Done 0) same ∙ power-replied w

-- what is lent to an order that is known is no more than it may be
pub few-known : {order known : Order} → order ≡ known → lent_size order ≤ lent_most → lent_size known ≤ lent_most
few-known e h = rw e at h

-- an order that is known is followed
pub followed : (w : Worded) (page b : List ℕ) {order known : Order} {r : Reply} {end : List ℕ} → order ≡ known
    → Given (obeyed w known page (lent_part known b)) b r end → Given (obeyed w order page (lent_part order b)) b r end
followed w page b e g = rw e g

-- and so is a call
pub asked-followed : (w : Worded) (page lent b : List ℕ) {asked known : Asked} {r : Reply} {end : List ℕ} → asked ≡ known
    → Given (asked_reply w known page lent) b r end → Given (asked_reply w asked page lent) b r end
asked-followed w page lent b e g = rw e g

module _ (w : Worded) (request : Request) (page b : List ℕ) where
  -- a buffer that is too short
  pub short-served : (r : Reply) → length b < reply_most → r ≡ reply_of (unknown_reply w) → Given (served w request page b) b r b
  unfolding served
  short-served r h u =
      let e = if-true _ (unknown_reply w) _ (lt-ltb _ _ h) in
      kept (served w request page b) b r (ap (λ (x : Replied). x.bytes) e) (u ∙ ap reply_of (sym e))

  -- one that isn't holds what is lent
  pub lent_fits : {order : Order} → reply_most ≤ length b → order ≡ order_of request → (reply_most ≤ length b) × (lent_size order ≤ lent_most)
  lent_fits h e = (h, omega (arith, ap lent_size e, lends-most request))

  pub long-served : {order : Order} {r : Reply} {end : List ℕ} → reply_most ≤ length b → order ≡ order_of request
      → Given (obeyed w order page (lent_part order b)) b r end → Given (served w request page b) b r end
  unfolding served
  long-served {order} h e g = rw (le-ltb _ _ h) (rw e at g)
