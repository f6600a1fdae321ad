-- What each kind asks, by computing: with any nexus n, argument a and protocol p.
-- Assumes nothing.
use Prim.Native.Nat.{ℕ}
use mathlib.Core.Path.{◌≡◌, refl}
use Rattle.places.specs.declared.Event.TheVariants.{Demount, NexusLoss, DeviceLoss, Preempt, Microcode, VendorRelease}
use Rattle.drive.specs.Restoring.{block_of}
use Rattle.calls.specs.Asking.{command_of, supports, event_of, asked_of}
use Rattle.calls.specs.declared.Asked.TheVariants.{PowerOn, In, Out, Write, Read, UnitReset, Happen}

module _ (n a p : ℕ) where
  pub kind_0 : asked_of 0 n a p ≡ PowerOn
  unfolding asked_of
  kind_0 = refl

  pub kind_1 : asked_of 1 n a p ≡ In (command_of n p a)
  unfolding asked_of
  kind_1 = refl

  pub kind_2 : asked_of 2 n a p ≡ Out (command_of n p a)
  unfolding asked_of
  kind_2 = refl

  pub kind_3 : asked_of 3 n a p ≡ Write n (supports a)
  unfolding asked_of
  kind_3 = refl

  pub kind-4 : asked_of 4 n a p ≡ UnitReset
  unfolding asked_of
  kind-4 = refl

  pub kind-5 : asked_of 5 n a p ≡ Happen Demount
  unfolding asked_of event_of
  kind-5 = refl

  pub kind-6 : asked_of 6 n a p ≡ Happen (NexusLoss n)
  unfolding asked_of event_of
  kind-6 = refl

  pub kind-7 : asked_of 7 n a p ≡ Happen DeviceLoss
  unfolding asked_of event_of
  kind-7 = refl

  pub kind-8 : asked_of 8 n a p ≡ Happen (Preempt n)
  unfolding asked_of event_of
  kind-8 = refl

  pub kind-9 : asked_of 9 n a p ≡ Happen Microcode
  unfolding asked_of event_of
  kind-9 = refl

  pub kind-10 : asked_of 10 n a p ≡ Happen (VendorRelease a)
  unfolding asked_of event_of
  kind-10 = refl

  pub kind-11 : asked_of 11 n a p ≡ Read n (block_of a)
  unfolding asked_of
  kind-11 = refl
