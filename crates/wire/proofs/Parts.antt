-- Parts of one size, one after another, of any elements: part k starts at k sizes.
-- Assumes nothing.
use Prim.Native.Nat.{ℕ, zero, suc, ◌+◌, ◌*◌, ◌≤◌, ◌<◌}
use mathlib.Core.Path.{◌≡◌, refl, sym, ap, ap₂, ◌∙◌}
use mathlib.Core.Bool.{Bool, true, ◌&&◌}
use mathlib.Core.List.{List, [], ◌∷◌, ◌++◌, map, append_assoc}
use native.Mathlib.Nat.{zero-mul, suc-mul, add-zero, zero-add}
use native.Mathlib.Numerals.{add-one}
use native.Mathlib.Omega.{arith}
use lib.ListN.{length, get_or, take, drop, replicate, length-append, length-drop, drop_of_length-le, take-append-drop}
use lib.Seq.{sets, length-sets, drop-cons, drop-drop, drop_at, take-add}
use Rattle.arrays.specs.Arrays.{map_from, all}
use Rattle.arrays.proofs.Base.{both, and_left, and_right}
use Rattle.arrays.proofs.Laws.{all_cons}
use Rattle.wire.proofs.Stores.{sets-append}
use Rattle.wire.specs.Parts.{joined, parts, Each}
use Rattle.wire.proofs.Bytes.{Below, below-drop}

-- one part more
pub next : (size k : ℕ) → size + k * size ≡ suc k * size
next size k = let e : suc k * size ≡ k * size + size = suc-mul k size in omega arith

module _ {A : Type 0} (write : A → List ℕ) (size : ℕ) where
  -- parts of one size are so many bytes
  pub joined_length : (xs : List A) → Each (λ x. length (write x) ≡ size) xs → length (joined write xs) ≡ length xs * size
  unfolding joined
  joined_length [] h = sym (zero-mul size)
  joined_length (x ∷ xs) h = omega (arith, length-append (write x) (joined write xs), h.0, joined_length xs h.1, next size (length xs))

-- ---- a loop that stores one part after another, from an index on

-- the invariant: of the n elements xs the parts below k are stored, and the rest, stored, gives what is promised
pub record Storing {A : Type 0} (write : A → List ℕ) (size n : ℕ) (xs : List A) (from : ℕ) (b₀ : List ℕ) (k : ℕ) (b : List ℕ) : Type 0 where
  pub within : k ≤ n
  pub sized : length xs ≡ n
  pub kept : length b ≡ length b₀
  pub rest : sets b (from + k * size) (joined write (drop k xs)) ≡ sets b₀ from (joined write xs)
  pub counted : k * size + length (joined write (drop k xs)) ≡ length (joined write xs)

module _ {A : Type 0} {write : A → List ℕ} {size n : ℕ} {xs : List A} {from : ℕ} {b₀ : List ℕ} where
  -- none is stored yet
  pub store-starts : length xs ≡ n → Storing write size n xs from b₀ 0 b₀
  store-starts h = record { within = omega arith; sized = h; kept = refl; rest = rw (zero-mul size, add-zero from) refl; counted = rw (zero-mul size, zero-add) refl }

  -- one more
  pub store-more : {k : ℕ} {b : List ℕ} → Storing write size n xs from b₀ k b → k < n → (d : A) {v c : List ℕ} → v ≡ write (get_or xs k d) → length v ≡ size → c ≡ sets b (from + k * size) v → Storing write size n xs from b₀ (k + 1) c
  unfolding joined
  store-more {k} {b} r h d {v} {c} e l f =
      let there : from + k * size + length v ≡ from + suc k * size = omega (arith, next size k) in
      let others = joined write (drop (suc k) xs) in
      let split : joined write (drop k xs) ≡ v ++ others = ap (joined write) (drop-cons xs k d (omega (arith, r.sized))) ∙ ap (λ (x : List ℕ). x ++ others) (sym e) in
      let more : sets b (from + k * size) (joined write (drop k xs)) ≡ sets c (from + suc k * size) others =
      ap (sets b (from + k * size)) split ∙ rw (f, ← there) (sym (sets-append b (from + k * size) v others)) in
      record {
        within = omega arith;
        sized = r.sized;
        kept = ap length f ∙ length-sets b (from + k * size) v ∙ r.kept;
        rest = rw (add-one k) (sym more ∙ r.rest);
        counted = rw (add-one k) (omega (arith, next size k, r.counted, ap length split, length-append v others));
      }

  -- all are
  pub store-ends : {k : ℕ} {b : List ℕ} → Storing write size n xs from b₀ k b → n ≤ k → b ≡ sets b₀ from (joined write xs)
  unfolding joined
  store-ends {k} {b} r h =
      ap (λ (l : List A). sets b (from + k * size) (joined write l)) (sym (drop_of_length-le xs {i = k} (omega (arith, r.sized)))) ∙ r.rest

  -- and they are so many bytes
  pub store-counts : {k : ℕ} {b : List ℕ} → Storing write size n xs from b₀ k b → n ≤ k → length (joined write xs) ≡ n * size
  unfolding joined
  store-counts {k} r h =
      let all : k ≡ n = omega (arith, r.within) in
      let none : joined write (drop k xs) ≡ [] = ap (joined write) (drop_of_length-le xs {i = k} (omega (arith, r.sized))) in
      let whole : k * size + length (joined write (drop k xs)) ≡ k * size = rw none (add-zero (k * size)) in
      rw all at (sym r.counted ∙ whole)

-- ---- a loop that reads one part after another

module _ {A : Type 0} (read : List ℕ → A) (size : ℕ) where
  -- as many elements as parts
  pub length-parts : (n : ℕ) (bytes : List ℕ) → length (parts read size n bytes) ≡ n
  unfolding parts
  length-parts zero bytes = refl
  length-parts (suc n) bytes = ap suc (length-parts n (drop size bytes))

  -- from part k on
  parts_from : {B : Type 0} (z : B) (bytes : List ℕ) (from k n : ℕ) → parts read size n (drop (from + k * size) bytes) ≡ map_from (λ i old. read (drop (from + i * size) bytes)) k (replicate n z)
  unfolding parts
  parts_from z bytes from k zero = refl
  parts_from z bytes from k (suc n) =
      let on : from + k * size + size ≡ from + suc k * size = omega (arith, next size k) in
      let rest : drop size (drop (from + k * size) bytes) ≡ drop (from + suc k * size) bytes = drop-drop size (from + k * size) bytes ∙ ap (λ (i : ℕ). drop i bytes) on in
      ap (λ (r : List A). read (drop (from + k * size) bytes) ∷ r) (ap (λ (b : List ℕ). parts read size n b) rest ∙ parts_from z bytes from (suc k) n)

  -- a loop that makes each element anew from the part that starts at its index times the size
  pub parts-made : {B : Type 0} (z : B) (bytes : List ℕ) (from n : ℕ) → parts read size n (drop from bytes) ≡ map_from (λ i old. read (drop (from + i * size) bytes)) 0 (replicate n z)
  parts-made z bytes from n = rw (zero-mul, add-zero) at (parts_from z bytes from 0 n)

-- ---- written and read, read and written

module _ {A : Type 0} (write : A → List ℕ) (read : List ℕ → A) (size : ℕ) where
  -- an element whose bytes, with anything after them, give it back
  abbrev pub GivenBack : A → Type 0
  GivenBack x = (length (write x) ≡ size) × ((rest : List ℕ) → read (write x ++ rest) ≡ x)

  -- elements that their bytes give back: all of them, one after another
  pub read-joined : (xs : List A) → Each GivenBack xs → (rest : List ℕ) → parts read size (length xs) (joined write xs ++ rest) ≡ xs
  unfolding joined parts
  read-joined [] h rest = refl
  read-joined (x ∷ xs) h rest =
      let split : write x ++ joined write xs ++ rest ≡ write x ++ (joined write xs ++ rest) = append_assoc (write x) (joined write xs) rest in
      let after : drop size (write x ++ (joined write xs ++ rest)) ≡ joined write xs ++ rest = drop_at (write x) (joined write xs ++ rest) size h.0.0 in
      rw (split, after, h.0.1 (joined write xs ++ rest), read-joined xs h.1 rest) refl

  -- parts that what they give has again: all of them, one after another
  pub joined-read : (n : ℕ) (bytes : List ℕ) → Each (λ part. write (read part) ≡ take size part) (parts (λ part. part) size n bytes) → joined write (parts read size n bytes) ≡ take (n * size) bytes
  unfolding joined parts
  joined-read zero bytes h = sym (ap (λ (k : ℕ). take k bytes) (zero-mul size))
  joined-read (suc n) bytes h =
      ap₂ (λ (x y : List ℕ). x ++ y) h.0 (joined-read n (drop size bytes) h.1) ∙ sym (take-add size (n * size) bytes)
      ∙ ap (λ (k : ℕ). take k bytes) (next size n)

-- ---- what holds of each part

-- what is read of each has it
pub each_read : {A : Type 0} (P : A → Type 0) (read : List ℕ → A) (size : ℕ) → ((part : List ℕ) → Below part → P (read part)) → (n : ℕ) (bytes : List ℕ) → Below bytes → Each P (parts read size n bytes)
unfolding parts
each_read P read size f zero bytes b = tt
each_read P read size f (suc n) bytes b = (f bytes b, each_read P read size f n (drop size bytes) (below-drop bytes size b))

-- each is there, and passes a test
pub each_part : {P : List ℕ → Type 0} (size : ℕ) (test : List ℕ → Bool) → ((part : List ℕ) → Below part → size ≤ length part → test part ≡ true → P part)
    → (n : ℕ) (bytes : List ℕ) → Below bytes → n * size ≤ length bytes → all (λ ok. ok) (parts test size n bytes) ≡ true → Each P (parts (λ part. part) size n bytes)
unfolding parts
each_part size test f zero bytes b h e = tt
each_part size test f (suc n) bytes b h e =
    let rest = drop size bytes in
    let others = all (λ ok. ok) (parts test size n rest) in
    let split : (test bytes && others) ≡ true = sym (all_cons (λ (ok : Bool). ok) (test bytes) (parts test size n rest)) ∙ e in
    (f bytes b (omega (arith, next size n)) (and_left (test bytes) others split), each_part size test f n rest (below-drop bytes size b) (omega (arith, next size n, length-drop size bytes)) (and_right (test bytes) others split))

-- each is there
pub each-there : {P : List ℕ → Type 0} (size : ℕ) → ((part : List ℕ) → Below part → size ≤ length part → P part) → (n : ℕ) (bytes : List ℕ) → Below bytes → n * size ≤ length bytes → Each P (parts (λ part. part) size n bytes)
unfolding parts
each-there size f zero bytes b h = tt
each-there size f (suc n) bytes b h =
    (f bytes b (omega (arith, next size n)), each-there size f n (drop size bytes) (below-drop bytes size b) (omega (arith, next size n, length-drop size bytes)))

-- elements whose bytes, with anything after them, pass it: each part passes
pub parts-pass : {A : Type 0} (write : A → List ℕ) (size : ℕ) (test : List ℕ → Bool) (xs : List A) → Each (λ x. (length (write x) ≡ size) × ((rest : List ℕ) → test (write x ++ rest) ≡ true)) xs
    → (rest : List ℕ) → all (λ ok. ok) (parts test size (length xs) (joined write xs ++ rest)) ≡ true
unfolding joined parts
parts-pass write size test [] h rest = refl
parts-pass write size test (x ∷ xs) h rest =
    let more = joined write xs ++ rest in
    let split : write x ++ joined write xs ++ rest ≡ write x ++ more = append_assoc (write x) (joined write xs) rest in
    let after : drop size (write x ++ more) ≡ more = drop_at (write x) more size h.0.0 in
    rw (split, after) (all_cons (λ (ok : Bool). ok) (test (write x ++ more)) (parts test size (length xs) more) ∙ both _ _ (h.0.1 more) (parts-pass write size test xs h.1 rest))

-- ---- n elements, and whatever follows

module _ {A : Type 0} (write : A → List ℕ) (size n : ℕ) (xs : List A) (counted : length xs ≡ n) (sized : Each (λ x. length (write x) ≡ size) xs) where
  -- they are so many bytes
  pub section-length : length (joined write xs) ≡ n * size
  section-length = rw counted at (joined_length write size xs sized)

  -- past which is what follows
  pub section-past : (rest : List ℕ) → drop (n * size) (joined write xs ++ rest) ≡ rest
  section-past rest = drop_at (joined write xs) rest (n * size) section-length

-- the next n bytes, and then all others
pub section-on : (from n : ℕ) (bytes : List ℕ) {these others : List ℕ} → these ≡ take n (drop from bytes) → others ≡ drop (from + n) bytes → these ++ others ≡ drop from bytes
section-on from n bytes p q = ap₂ (λ (x y : List ℕ). x ++ y) p (q ∙ sym (drop-drop n from bytes)) ∙ take-append-drop n (drop from bytes)

-- ---- of each element

-- both of two
pub each_both : {A : Type 0} (P Q : A → Type 0) (xs : List A) → Each P xs → Each Q xs → Each (λ x. P x × Q x) xs
each_both P Q [] p q = tt
each_both P Q (x ∷ xs) p q = ((p.0, q.0), each_both P Q xs p.1 q.1)

-- what any has
pub each_all : {A : Type 0} {R : A → Type 0} → ((x : A) → R x) → (xs : List A) → Each R xs
each_all f [] = tt
each_all f (x ∷ xs) = (f x, each_all f xs)

-- what follows from what it has
pub each_same : {A : Type 0} {P R : A → Type 0} → ((x : A) → P x → R x) → (xs : List A) → Each P xs → Each R xs
each_same f [] p = tt
each_same f (x ∷ xs) p = (f x p.0, each_same f xs p.1)

-- what is made of it has it
pub each_map : {A B : Type 0} {P : A → Type 0} (R : B → Type 0) (g : A → B) → ((x : A) → P x → R (g x)) → (xs : List A) → Each P xs → Each R (map g xs)
each_map R g f [] p = tt
each_map R g f (x ∷ xs) p = (f x p.0, each_map R g f xs p.1)

-- two maps that make the same of it
pub map_each : {A B : Type 0} {P : A → Type 0} (g h : A → B) → ((x : A) → P x → g x ≡ h x) → (xs : List A) → Each P xs → map g xs ≡ map h xs
map_each g h f [] p = refl
map_each g h f (x ∷ xs) p = ap₂ (λ y ys. y ∷ ys) (f x p.0) (map_each g h f xs p.1)
