-- What the table of claims claims (proofs/Worked), and when a claim holds, on a drive of 16 nexuses and 5 places.
use Rattle.std.specs.Prelude.{ℕ, Bool, true, ◌&&◌, List, [], ◌∷◌, eqb}
use Prim.Native.String.{String}
use Rattle.text.specs.Characters.{bytes_of}
use Rattle.drive.specs.Claims.{same_list}
use Rattle.recording.specs.Verdicts.{verdict_number}
use Rattle.claim.specs.Files.{claim_verdict, claim_printed}

-- a rate and a file; the verdict's number, and what is printed
pub record Priced : Type 0 where
  pub rate : ℕ
  pub file : List ℕ
  pub number : ℕ
  pub text : String

abbrev pub claims : ℕ → List ℕ → String → Priced
claims rate file text = record { rate = rate; file = file; number = 0; text = text }

-- refused: nothing is printed
abbrev pub refuses : ℕ → List ℕ → ℕ → Priced
refuses rate file number = record { rate = rate; file = file; number = number; text = "" }

abbrev holds : Priced → Bool
holds c = eqb (verdict_number (claim_verdict c.rate c.file)) c.number && same_list (claim_printed 16 5 c.rate c.file) (bytes_of c.text)

unfoldable pub claimed : List Priced → Bool
claimed [] = true
claimed (c ∷ more) = holds c && claimed more
