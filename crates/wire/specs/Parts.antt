-- Parts of one size, one after another.
use Rattle.std.specs.Prelude.{ℕ, zero, suc, List, [], ◌∷◌, ◌++◌, drop}

-- the bytes of each element, one after another
unfoldable pub joined : {A : Type 0} → (A → List ℕ) → List A → List ℕ
joined write [] = []
joined write (x ∷ xs) = write x ++ joined write xs

-- what n parts of a size give, each read from the bytes that start with it
unfoldable pub parts : {A : Type 0} → (List ℕ → A) → ℕ → ℕ → List ℕ → List A
parts read size zero bytes = []
parts read size (suc n) bytes = read bytes ∷ parts read size n (drop size bytes)

-- each element has it
abbrev pub Each : {A : Type 0} → (A → Type 0) → List A → Type 0
Each P [] = Unit
Each P (x ∷ xs) = P x × Each P xs
