-- Document 01: "Sizes: nexuses 0 to 15; set places 0 to 4".
use Rattle.std.specs.Prelude.{ℕ}

abbrev pub nexus_count : ℕ
nexus_count = 16

abbrev pub place_count : ℕ
place_count = 5
