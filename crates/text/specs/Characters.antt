-- Text as bytes: a character's byte is its ASCII code.
use Rattle.std.specs.Prelude.{ℕ, List, [], ◌∷◌}
use Prim.Native.Char.{code}
use Prim.Native.String.{String, [] as no_text, ◌∷◌ as ◌then◌}

-- the bytes of a text
unfoldable pub bytes_of : String → List ℕ
bytes_of no_text = []
bytes_of (c then more) = code c ∷ bytes_of more
