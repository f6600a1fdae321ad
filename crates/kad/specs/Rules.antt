-- The rules of a whole list of descriptors, each pointing to its byte in the page that the list stands in.
use Rattle.std.specs.Prelude.{ℕ, zero, suc, ◌+◌, List, [], ◌∷◌, ◌++◌, drop, Option, Some}
use Rattle.wire.specs.Rules.{Rule, rule}
use Rattle.kad.specs.Reading.{type_of, next_of, descriptor_rules}

-- the same rules, each pointing i bytes further
abbrev pub shifted : ℕ → List Rule → List Rule
shifted i [] = []
shifted i (r ∷ rs) = rule (i + r.at) r.holds ∷ shifted i rs

-- the rules of all descriptors of a list of at most n bytes that starts at byte i, one descriptor after another
unfoldable pub list_rules : ℕ → ℕ → List ℕ → Option ℕ → List Rule
list_rules zero i s seen = []
list_rules (suc n) i [] seen = []
list_rules (suc n) i (b ∷ s) seen =
    let next = next_of (b ∷ s) in
    shifted i (descriptor_rules (b ∷ s) seen) ++ list_rules n (i + next) (drop next (b ∷ s)) (Some (type_of (b ∷ s)))
