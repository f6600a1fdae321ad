-- Bytes stored in what a caller lent, and runs of zeros.
use Rattle.std.specs.Prelude.{ℕ, ◌≡◌, Bool, ◌&&◌, List, ◌++◌, eqb, length, take, drop, replicate}
use Rattle.arrays.specs.Arrays.{each, all}
use Rattle.wire.specs.Numbers.{byte_at}

-- "The lent buffer gets the page's first bytes, as many as it holds; bytes beyond stay"
abbrev pub shown : List ℕ → List ℕ → List ℕ
shown page buffer = take (length buffer) page ++ drop (length page) buffer

-- "the answer tells the page's full length"
pub record Shown (page buffer : List ℕ) (r : ℕ) (after : List ℕ) : Type 0 where
  pub tells : r ≡ length page
  pub holds : after ≡ shown page buffer

-- n bytes: the first of d, as many as fit, and zeros after them
abbrev pub padded : ℕ → List ℕ → List ℕ
padded n d = shown d (replicate n 0)

abbrev pub all_zero : List ℕ → Bool
all_zero = all (λ b. eqb b 0)

-- n bytes from an index on
abbrev pub bytes_at : ℕ → List ℕ → ℕ → List ℕ
bytes_at n s i = padded n (drop i s)

-- as many bytes, and each the same
abbrev pub same_bytes : List ℕ → List ℕ → Bool
same_bytes a b = eqb (length a) (length b) && each (λ i x. eqb x (byte_at b i)) a
