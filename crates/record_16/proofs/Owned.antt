-- What owning a device record tells: its numbers have 32 bits, its words 64, and its arrays have their sizes.
-- Assumes nothing.
use contract.Lifetimes.{Lfts}
use borrow.Author.Rules.{rules}
use borrow.Fn.Kinds.{Dens, GoodsP}
use denote.Array as array
use denote.Builtin.{u64}
use base.Fml.{Fml}
use denote.Shadow.{shadow}
use mir.Val.{Val}
use Prim.Native.Nat.{ℕ, ◌^◌, ◌<◌}
use mathlib.Core.List.{List, [], ◌∷◌}
use Rattle.arrays.proofs.Laws.{sized-field}
use Rattle.device.specs.declared.Set.{Set}
use Rattle.device.specs.declared.Nexus.{Nexus}
use Rattle.device.specs.contracts.Set as set
use Rattle.device.specs.contracts.Nexus as nexus
use Rattle.wire.specs.Parts.{Each}
use Rattle.record.specs.Good.{SetFits, NexusFits, Fits}
use Rattle.sizes_16.specs.Sizes.{nexus_count, place_count}
use Rattle.device_16.specs.Model.{worded}
use Rattle.record_16.proofs.record_bytes.Kinds as kinds

-- what owning an element tells, told of each
each_owned : {T : Type 0} (own : T → List Val → Fml) (P : T → Type 0) → ((x : T) (u : Val) → shadow (own x (u ∷ [])) → P x) → (xs : List T) (us : List Val) → shadow (array.each T own xs us) → Each P xs
each_owned own P f [] us p = tt
each_owned own P f (x ∷ xs) [] p = absurd p
each_owned own P f (x ∷ xs) (u ∷ us) p = (f x u p.0, each_owned own P f xs us p.1)

set-owned : (x : Set) (u : Val) → shadow ((set.the_row).own_val x (u ∷ [])) → SetFits x
set-owned x u p = record { number = search rules; key = search rules; keys = search rules; kads = (search rules, search rules) }

nexus-owned : (x : Nexus) (u : Val) → shadow ((nexus.the_row).own_val x (u ∷ [])) → NexusFits x
nexus-owned x u p = record { saved = search rules; last_local = search rules }

word-owned : (x : ℕ) (u : Val) → shadow (u64.own_val x (u ∷ [])) → x < 2 ^ 64
word-owned x u p = search rules

-- the record that `record_bytes` is given
pub owned-fits : (κs : Lfts 0) (a : Dens κs kinds.ps) → GoodsP κs kinds.ps a → Fits nexus_count place_count (worded a.0)
owned-fits κs a g =
    let d = g.0.1.1.0 in
    let w = g.0.1.1.1.0 in
    record {
      counter = search rules;
      places_all = search (rules, sized-field);
      sets_fit = each_owned (set.the_row).own_val SetFits set-owned a.0.device.sets _ d.1.1.1.0.1.1;
      nexuses_all = search (rules, sized-field);
      nexuses_fit = each_owned (nexus.the_row).own_val NexusFits nexus-owned a.0.device.nexuses _ d.1.1.1.1.0.1.1;
      words_all = search (rules, sized-field);
      words_fit = each_owned u64.own_val (λ word. word < 2 ^ 64) word-owned a.0.words _ w.1.1;
    }
