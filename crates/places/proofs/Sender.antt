-- How a page is taken; the sender after it, from the nexus itself and the place that it then uses.
-- Assumes nothing.
use Prim.Native.Nat.{ℕ, ◌≤◌, ◌<◌}
use mathlib.Core.Path.{◌≡◌, sym, ap, ◌∙◌}
use mathlib.Core.Bool.{true, false}
use mathlib.Core.List.{List, []}
use lib.ListN.{length, set}
use lib.Seq.{set_out, get_or-set_same}
use Rattle.arrays.proofs.Base.{if-true, if-false}
use Rattle.page.specs.declared.Page.{Page}
use Rattle.device.specs.Record.{State, set_at, nexus_at, new_nexus}
use Rattle.device.specs.Selecting.{place_of, selected}
use Rattle.device.specs.Updates.{with_scope, with_nexuses, at_nexus}
use Rattle.device.specs.declared.Nexus.{Nexus}
use Rattle.places.specs.Actions.{acts, page_actions, nexus_after, sender_after, supplemented, taken}

-- a supplemental key does nothing to the places
pub supplemental-actions : (s : State) (n : ℕ) (page : Page) → page.supplemental ≡ true → page_actions s n page ≡ []
unfolding page_actions
supplemental-actions s n page e = if-true _ _ _ e

-- how it is taken
pub taken-supplemental : (s : State) (n : ℕ) (page : Page) → page.supplemental ≡ true → taken s n page ≡ supplemented s n page
unfolding taken
taken-supplemental s n page e = if-true _ _ _ e

-- and any other page
pub taken-whole : (s : State) (n : ℕ) (page : Page) → page.supplemental ≡ false → taken s n page ≡ sender_after (acts s (page_actions s n page)) n page
unfolding taken
taken-whole s n page e = if-false _ _ _ e

-- the sender's scope is the page's
pub sender-scope : (s : State) (n : ℕ) (page : Page) → n < length s.nexuses → (nexus_at (sender_after s n page) n).scope ≡ page.scope
unfolding sender_after
sender-scope s n page h = ap (λ (x : Nexus). x.scope) (get_or-set_same s.nexuses n _ new_nexus h)

-- a nexus past the last one changes nothing
pub sender-beyond : (s : State) (n : ℕ) (page : Page) → length s.nexuses ≤ n → sender_after s n page ≡ s
unfolding sender_after
sender-beyond s n page h = ap (λ (l : List Nexus). with_nexuses l s) (set_out s.nexuses n _ h)

-- the place that it uses is the one of the nexus with the page's scope
pub sender-at : (s : State) (n : ℕ) (page : Page) (place : ℕ) → n < length s.nexuses → place ≡ place_of (with_scope page.scope (nexus_at s n)) n s.sets
    → with_nexuses (set s.nexuses n (nexus_after page (set_at s place).number (nexus_at s n))) s ≡ sender_after s n page
unfolding sender_after selected
sender-at s n page place h e =
    let same : nexus_at (at_nexus n (with_scope page.scope) s) n ≡ with_scope page.scope (nexus_at s n) = get_or-set_same s.nexuses n (with_scope page.scope (nexus_at s n)) new_nexus h in
    ap (λ (k : ℕ). with_nexuses (set s.nexuses n (nexus_after page (set_at s k).number (nexus_at s n))) s)
    (e ∙ ap (λ (x : Nexus). place_of x n s.sets) (sym same))
