-- Bits and ones of words, and words that sort elements.
use Rattle.std.specs.Prelude.{ℕ, zero, suc, ◌+◌, ◌/◌, ◌%◌, ◌^◌, Bool, false, ◌||◌, List, eqb}
use Rattle.std.specs.Int.Count.{ones}
use Rattle.arrays.specs.Arrays.{map_from, fold_from, word_of}

-- bit n of a word is set
abbrev pub bit_of : ℕ → ℕ → Bool
bit_of word n = eqb (word / 2 ^ n % 2) 1

-- the ones of several words
abbrev pub ones_over : List ℕ → ℕ
ones_over = fold_from (λ k word r. ones word + r) 0 0

-- beside each element of ys a word of the elements of xs, by a test of its index
abbrev pub words_of : {A B : Type 0} → (ℕ → ℕ → A → Bool) → List A → List B → List ℕ
words_of q xs ys = map_from (λ place y. word_of (q place) xs) 0 ys

-- the word of those that pick its index
abbrev pub words_by : {A B : Type 0} → (ℕ → A → ℕ) → List A → List B → List ℕ
words_by sel = words_of (λ place n x. eqb (sel n x) place)

-- the test passes at one of the numbers below k
abbrev pub some_below : ℕ → (ℕ → Bool) → Bool
some_below zero p = false
some_below (suc k) p = some_below k p || p k
