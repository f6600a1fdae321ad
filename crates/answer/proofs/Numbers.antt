-- Laws of an answer's number.
-- Assumes nothing.
use mathlib.Core.Path.{◌≡◌, refl, sym, ap, ◌∙◌}
use mathlib.Core.Bool.{true, true≢false}
use Rattle.answer.specs.Answers.{number_of, is_done}
use Rattle.answer.specs.declared.Answer.{Answer}
use Rattle.answer.specs.declared.Answer.TheVariants.{Done, NotWellFormed, NexusAbove, ChangedByAnotherNexus, ChangedByVendorEvent, ProtocolNotSupported, PageNotSupported, PageLengthWrong, FieldWrong, FifthSupplementalKey, NoPlaceForLocal, KeyInstanceChanged, ParametersNotUsable, PlaceAbove, BlockNotKnown, UnableToDecrypt, NotEncrypted, KeyIncorrect}

-- number 0 is Done's alone
pub done-is : (a : Answer) → is_done a ≡ true → a ≡ Done
done-is Done e = refl
done-is NotWellFormed e = absurd (true≢false (sym e))
done-is NexusAbove e = absurd (true≢false (sym e))
done-is ChangedByAnotherNexus e = absurd (true≢false (sym e))
done-is ChangedByVendorEvent e = absurd (true≢false (sym e))
done-is ProtocolNotSupported e = absurd (true≢false (sym e))
done-is PageNotSupported e = absurd (true≢false (sym e))
done-is PageLengthWrong e = absurd (true≢false (sym e))
done-is (FieldWrong byte) e = absurd (true≢false (sym e))
done-is FifthSupplementalKey e = absurd (true≢false (sym e))
done-is NoPlaceForLocal e = absurd (true≢false (sym e))
done-is KeyInstanceChanged e = absurd (true≢false (sym e))
done-is ParametersNotUsable e = absurd (true≢false (sym e))
done-is PlaceAbove e = absurd (true≢false (sym e))
done-is BlockNotKnown e = absurd (true≢false (sym e))
done-is UnableToDecrypt e = absurd (true≢false (sym e))
done-is NotEncrypted e = absurd (true≢false (sym e))
done-is KeyIncorrect e = absurd (true≢false (sym e))

-- answers with different numbers differ
pub differ : {C : Type 0} {a : Answer} (x y : Answer) → (number_of x ≡ number_of y → ⊥) → a ≡ x → a ≡ y → C
differ x y n d e = absurd (n (ap number_of (sym d ∙ e)))
