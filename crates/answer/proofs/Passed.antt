-- Laws of a check that gives its answer only where it is refused.
-- Assumes nothing.
use mathlib.Core.Path.{◌≡◌, sym}
use mathlib.Core.Bool.{true, false}
use Rattle.std.specs.Prelude.{Ok, Err}
use Rattle.arrays.proofs.Base.{if-false, if-ok, if-err}
use Rattle.answer.specs.Answers.{is_done, passed}
use Rattle.answer.specs.declared.Answer.{Answer}
use Rattle.answer.specs.declared.Answer.TheVariants.{Done}
use Rattle.answer.proofs.Numbers.{done-is}

-- one that is passed found no fault
pub passed-done : (a : Answer) → Ok tt ≡ passed a → is_done a ≡ true
passed-done a e = (if-ok _ _ _ (sym e)).0

pub passed-is : (a : Answer) → Ok tt ≡ passed a → Done ≡ a
passed-is a e = sym (done-is a (passed-done a e))

-- one that is refused gives its answer
pub refused-is : (a b : Answer) → Err b ≡ passed a → b ≡ a
refused-is a b e = sym (if-err _ _ _ (sym e)).1

-- which isn't 0
pub refused-fault : (a b : Answer) → Err b ≡ passed a → is_done a ≡ false
refused-fault a b e = (if-err _ _ _ (sym e)).0

-- an answer that isn't 0 refuses
pub fault-refused : (a : Answer) → is_done a ≡ false → Err a ≡ passed a
fault-refused a f = sym (if-false _ _ _ f)
