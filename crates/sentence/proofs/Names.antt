-- A kind that has no name.
-- Assumes nothing.
use Prim.Native.Nat.{ℕ, ◌≤◌}
use mathlib.Core.Path.{◌≡◌, sym, ap}
use lib.ListN.{get_or-eq_default}
use Rattle.text.specs.Characters.{bytes_of}
use Rattle.sentence.specs.Telling.{kind_names, kind_words}

pub unnamed : (kind : ℕ) → 12 ≤ kind → bytes_of "unknown" ≡ kind_words kind
unfolding kind_words
unnamed kind h = ap bytes_of (sym (get_or-eq_default kind_names "unknown" h))
