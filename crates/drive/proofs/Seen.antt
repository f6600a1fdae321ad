-- A record whose sets and nexuses are made anew, but for who owns what and who is told: each nexus uses the place that it used, the record
-- is as well formed, and checks 1 to 4 answer as they did.
-- Assumes nothing.
use Rattle.std.specs.Prelude.{Some, None}
use Prim.Native.Nat.{ℕ, ◌+◌}
use mathlib.Core.Bool.{Bool, true, not, ◌&&◌, ◌||◌}
use mathlib.Core.List.{List, [], ◌∷◌, ◌++◌, map}
use mathlib.Core.Path.{◌≡◌, ◌∙◌, ap, ap₂}
use lib.Dec.{eqb, leb}
use lib.ListN.{length, length-map}
use Rattle.arrays.specs.Base.{when◌then◌else◌, bit}
use Rattle.arrays.specs.Arrays.{find, each, count}
use Rattle.arrays.proofs.Laws.{read_same, read-map, fold_from-map}
use Rattle.answer.specs.declared.Answer.TheVariants.{NotWellFormed}
use Rattle.parameters.specs.Codes.{local_scope, all_scope}
use Rattle.device.specs.Record.{State, set_at, nexus_at, no_set, new_nexus, empty}
use Rattle.device.specs.Updates.{mapped}
use Rattle.device.specs.Selecting.{owns, owned_place, or_else, selected, selected_set}
use Rattle.device.specs.WellFormed.{set_good, nexus_good, owner_is_local, has_all, well_formed}
use Rattle.device.specs.declared.Set.{Set}
use Rattle.device.specs.declared.Nexus.{Nexus}
use Rattle.drive.specs.declared.Block.{Block}
use Rattle.drive.specs.Restoring.{ruled_answer, restored}
use Rattle.drive.specs.Calls.{read}
use Rattle.drive.specs.Checks.{answer_if, first_of, check1, heard, heard_of, checks, answer}

-- what two maps keep, of a set and of a nexus: whose it is and who is told, which says what set a nexus uses and whether it is heard
pub record Seen (f : Set → Set) (g : Nexus → Nexus) : Type 0 where
  pub owner : (x : Set) → (f x).owner ≡ x.owner
  pub scope : (x : Set) → (f x).scope ≡ x.scope
  pub nexus_scope : (x : Nexus) → (g x).scope ≡ x.scope
  pub marks : (x : Nexus) → (g x).marks ≡ x.marks

module _ (f : Set → Set) (g : Nexus → Nexus) (k : Seen f g) where
  -- who owns a set
  pub owns-kept : (n : ℕ) (x : Set) → owns n (f x) ≡ owns n x
  owns-kept n x = ap₂ (λ a b. eqb a local_scope && eqb b n) (k.scope x) (k.owner x)

  -- a search among the sets, where the tests agree
  pub find-kept : (p q : ℕ → Set → Bool) → ((i : ℕ) (x : Set) → p i (f x) ≡ q i x) → (l : List Set) → find Some None p (map f l) ≡ find Some None q l
  find-kept p q e l = fold_from-map f (λ i x r. when p i x then Some i else r) (λ i x r. when q i x then Some i else r) None (λ i x r. ap (λ b. when b then Some i else r) (e i x)) 0 l

  -- a test of each element, where the tests agree
  each-kept : {A : Type 0} (h : A → A) (p q : ℕ → A → Bool) → ((i : ℕ) (x : A) → p i (h x) ≡ q i x) → (l : List A) → each p (map h l) ≡ each q l
  each-kept h p q e l = fold_from-map h (λ i x r. p i x && r) (λ i x r. q i x && r) true (λ i x r. ap (λ b. b && r) (e i x)) 0 l

  -- a count
  count_kept : {A : Type 0} (h : A → A) (p : A → Bool) → ((x : A) → p (h x) ≡ p x) → (l : List A) → count (λ i. p) (map h l) ≡ count (λ i. p) l
  count_kept h p e l = fold_from-map h (λ i x r. bit (p x) + r) (λ i x r. bit (p x) + r) 0 (λ i x r. ap (λ b. bit b + r) (e x)) 0 l

  module _ (c : ℕ → ℕ) (s : State) where
    abbrev t : State
    t = mapped c f g s

    -- what is read of a nexus
    pub nexus-seen : {B : Type 0} (r : Nexus → B) → ((x : Nexus) → r (g x) ≡ r x) → (n : ℕ) → r (nexus_at t n) ≡ r (nexus_at s n)
    nexus-seen r e n = read_same r (map g s.nexuses) s.nexuses new_nexus (read-map r g e s.nexuses) n

    -- what is read of a set
    set-seen : {B : Type 0} (r : Set → B) → ((x : Set) → r (f x) ≡ r x) → (p : ℕ) → r (set_at t p) ≡ r (set_at s p)
    set-seen r e p = read_same r (map f s.sets) s.sets no_set (read-map r f e s.sets) p

    -- the place that a nexus owns
    pub owned-seen : (n : ℕ) → owned_place t.sets n ≡ owned_place s.sets n
    unfolding owned_place
    owned-seen n = find-kept (λ p. owns n) (λ p. owns n) (λ i x. owns-kept n x) s.sets

    -- the place whose set the nexus uses
    pub selected-seen : (n : ℕ) → selected t n ≡ selected s n
    unfolding selected
    selected-seen n = ap₂ (λ a b. when eqb a local_scope then or_else b 0 else 0) (nexus-seen (λ x. x.scope) k.nexus_scope n) (owned-seen n)

    -- what is read of that set
    pub used-seen : {B : Type 0} (r : Set → B) → ((x : Set) → r (f x) ≡ r x) → (n : ℕ) → r (selected_set t n) ≡ r (selected_set s n)
    used-seen r e n = ap (λ p. r (set_at t p)) (selected-seen n) ∙ set-seen r e (selected s n)

    -- what is asked of a nexus
    nexus-good-kept : (n : ℕ) (x : Nexus) → nexus_good t.sets n (g x) ≡ nexus_good s.sets n x
    unfolding nexus_good
    nexus-good-kept n x =
        let sc = k.nexus_scope x in
        let own = count_kept f (owns n) (owns-kept n) s.sets in
        let used = set-seen (λ y. y.scope) k.scope 0 in
        let owner = set-seen (λ y. y.owner) k.owner 0 in
        λ i. leb (sc i) 2 && (not (eqb (sc i) local_scope) || eqb (own i) 1) && (not (eqb (sc i) all_scope) || (not (eqb (used i) 0) && eqb (owner i) n))

    -- what is asked of an owner
    owner-kept : (place : ℕ) (x : Set) → owner_is_local t.nexuses place (f x) ≡ owner_is_local s.nexuses place x
    unfolding owner_is_local
    owner-kept place x =
        ap₂ (λ a o. eqb place 0 || eqb a 0 || eqb (nexus_at t o).scope local_scope) (k.scope x) (k.owner x)
        ∙ ap (λ a. eqb place 0 || empty x || eqb a local_scope) (nexus-seen (λ y. y.scope) k.nexus_scope x.owner)

    -- how many nexuses there are
    pub nexuses-kept : length t.nexuses ≡ length s.nexuses
    nexuses-kept = length-map s.nexuses g

    -- and how many places
    pub places-kept : length t.sets ≡ length s.sets
    places-kept = length-map s.sets f

    -- being well formed, where the sets are as good as they were
    formed-kept : each (set_good (length s.nexuses)) t.sets ≡ each (set_good (length s.nexuses)) s.sets → well_formed t ≡ well_formed s
    unfolding well_formed
    formed-kept e =
        let a : each (set_good (length t.nexuses)) t.sets ≡ each (set_good (length s.nexuses)) s.sets = ap (λ m. each (set_good m) t.sets) nexuses-kept ∙ e in
        let b : each (nexus_good t.sets) t.nexuses ≡ each (nexus_good s.sets) s.nexuses = each-kept g (nexus_good t.sets) _ nexus-good-kept s.nexuses in
        let o : each (owner_is_local t.nexuses) t.sets ≡ each (owner_is_local s.nexuses) s.sets = each-kept f (owner_is_local t.nexuses) _ owner-kept s.sets in
        let h : count (λ n. has_all) t.nexuses ≡ count (λ n. has_all) s.nexuses = count_kept g has_all (λ x. ap (λ m. eqb m all_scope) (k.nexus_scope x)) s.nexuses in
        λ i. a i && b i && o i && leb (h i) 1

    -- as each is where the map keeps that
    pub good-seen : ((nexuses place : ℕ) (x : Set) → set_good nexuses place (f x) ≡ set_good nexuses place x) → well_formed t ≡ well_formed s
    good-seen e = formed-kept (each-kept f (set_good (length s.nexuses)) _ (e (length s.nexuses)) s.sets)

    -- where the maps keep being well formed
    module _ (formed : well_formed t ≡ well_formed s) where
      -- checks 1 to 4
      pub heard-kept : (n : ℕ) → check1 t ∷ heard_of t n ≡ check1 s ∷ heard_of s n
      heard-kept n =
          let m = nexus-seen (λ x. x.marks) k.marks n in
          λ i. answer_if (not (formed i)) NotWellFormed ∷ heard (nexuses-kept i) n (m i)

      -- the answer to a read, where the map keeps what is decided of its block
      pub read_kept : (n : ℕ) (block : Block) → ((x : Set) → restored (f x) block ≡ restored x block) → answer t (read n block) ≡ answer s (read n block)
      unfolding answer checks
      read_kept n block e =
          let v = used-seen (λ x. restored x block) e n in
          λ i. first_of (heard-kept n i ++ ruled_answer (v i) ∷ [])
