-- Nexuses made anew with their scopes kept.
-- Assumes nothing.
use Prim.Native.Nat.{ℕ}
use mathlib.Core.Path.{◌≡◌, refl, sym, ap, ◌∙◌}
use mathlib.Core.List.{List, map}
use borrow.Author.Tests.{ltb-true, ltb-false}
use lib.Dec.{ltb}
use lib.ListN.{length, get_or, set}
use lib.Seq.{set_out}
use Rattle.arrays.specs.Arrays.{map_from}
use Rattle.arrays.proofs.Base.{cases}
use Rattle.arrays.proofs.Laws.{get_d-set-by, read_same, read-map_from, read-map}
use Rattle.device.specs.Record.{State, nexus_at, new_nexus}
use Rattle.device.specs.declared.Nexus.{Nexus}

-- all of them
pub mapped-scopes : (f : ℕ → Nexus → Nexus) → ((i : ℕ) (x : Nexus) → (f i x).scope ≡ x.scope) → (s : State) (i : ℕ) → (get_or (map_from f 0 s.nexuses) i new_nexus).scope ≡ (nexus_at s i).scope
mapped-scopes f e s = read_same (λ (x : Nexus). x.scope) (map_from f 0 s.nexuses) s.nexuses new_nexus (read-map_from (λ (x : Nexus). x.scope) f e 0 s.nexuses)

-- each by itself
pub remade-scopes : (f : Nexus → Nexus) → ((x : Nexus) → (f x).scope ≡ x.scope) → (s : State) (i : ℕ) → (get_or (map f s.nexuses) i new_nexus).scope ≡ (nexus_at s i).scope
remade-scopes f e s = read_same (λ (x : Nexus). x.scope) (map f s.nexuses) s.nexuses new_nexus (read-map (λ (x : Nexus). x.scope) f e s.nexuses)

-- one of them
pub set-scopes : (n : ℕ) (x : Nexus) (s : State) → x.scope ≡ (nexus_at s n).scope → (i : ℕ) → (get_or (set s.nexuses n x) i new_nexus).scope ≡ (nexus_at s i).scope
set-scopes n x s e i =
    cases (ltb n (length s.nexuses))
    (λ t. get_d-set-by (λ (y : Nexus). y.scope ≡ (nexus_at s i).scope) s.nexuses n i x new_nexus (λ q. ltb-true _ _ t)
    (λ q. e ∙ ap (λ (k : ℕ). (nexus_at s k).scope) (sym q))
    (λ q. refl))
    (λ t. ap (λ (l : List Nexus). (get_or l i new_nexus).scope) (set_out s.nexuses n x (ltb-false _ _ t)))
