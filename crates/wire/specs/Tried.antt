-- Rules tried in turn.
use Rattle.std.specs.Prelude.{ℕ, List, [], ◌∷◌, Result, Ok, Err}
use Rattle.arrays.specs.Base.{when◌then◌else◌}
use Rattle.wire.specs.Rules.{Rule}

-- the byte of the first rule that breaks
abbrev pub tried : List Rule → Result Unit ℕ
tried [] = Ok tt
tried (r ∷ rs) = when r.holds then tried rs else Err r.at
