-- Laws of lists: what follows from a value of `each` and `find`, for a caller of a function that promises one, and lists that are read,
-- changed at one index or made anew.
-- Assumes nothing.
use Prim.Native.Nat.{ℕ, zero, suc, ◌+◌, ◌≤◌, ◌<◌, suc-le-suc}
use mathlib.Core.Path.{◌≡◌, refl, sym, ap, ap₂, subst, ◌∙◌}
use mathlib.Core.List.{List, [], ◌∷◌, ◌++◌, map}
use mathlib.Core.Bool.{Bool, true, false, ◌&&◌, and_assoc}
use native.Mathlib.Nat.{le_of_suc-le-suc, not-suc-le-zero, not-le_of_lt, zero-add, add-zero, add-suc, suc-add}
use native.Mathlib.Omega.{arith}
use native.Mathlib.Numerals.{add-one}
use borrow.Author.Tests.{eqb-true, eqb-false, eq-eqb, ltb-true, ltb-false}
use lib.Dec.{eqb, ltb}
use lib.ListN.{length, get_or, set, take, drop, length-map, get_or-map}
use lib.Seq.{sets, get_or-set_same, get_or-set_other, set_out, get_or-drop, take-nil, drop-drop, drop-set-lt}
use Rattle.arrays.specs.Base.{when◌then◌else◌}
use Rattle.arrays.specs.Arrays.{map_from, fold_from, each, all, find}
use Rattle.arrays.proofs.Base.{cases, and_left, and_right, if-elim, if-true, if-false}
use Rattle.arrays.proofs.Loops.{map_from-map}

module _ {A : Type 0} (p : ℕ → A → Bool) (d : A) where
  abbrev each_from : ℕ → List A → Bool
  each_from = fold_from (λ k x r. p k x && r) true

  -- from any element on
  each_from_lem : (xs : List A) (b : ℕ) → each_from b xs ≡ true → (k : ℕ) → k < length xs → p (b + k) (get_or xs k d) ≡ true
  each_from_lem [] b e k h = absurd (not-suc-le-zero h)
  each_from_lem (x ∷ xs) b e zero h = rw add-zero (and_left (p b x) (each_from (suc b) xs) e)
  each_from_lem (x ∷ xs) b e (suc k) h = rw (add-suc b k, ← suc-add b k) (each_from_lem xs (suc b) (and_right (p b x) (each_from (suc b) xs) e) k (le_of_suc-le-suc h))

  -- what holds of each holds at every index
  pub each_at : (xs : List A) → each p xs ≡ true → (k : ℕ) → k < length xs → p k (get_or xs k d) ≡ true
  each_at xs e k h = rw zero-add at (each_from_lem xs 0 e k h)

  -- from any element on
  each-made : (xs : List A) (b : ℕ) → ((k : ℕ) → k < length xs → p (b + k) (get_or xs k d) ≡ true) → each_from b xs ≡ true
  each-made [] b f = refl
  each-made (x ∷ xs) b f =
      simp (rw add-zero at (f zero (omega arith)), each-made xs (suc b) (λ k h. rw (suc-add b k, ← add-suc b k) (f (suc k) (suc-le-suc h))))

  -- and what holds at every index holds of each
  pub each_of : (xs : List A) → ((k : ℕ) → k < length xs → p k (get_or xs k d) ≡ true) → each p xs ≡ true
  each_of xs f = each-made xs 0 (λ k h. rw zero-add (f k h))

module _ {A R : Type 0} (at : ℕ → R) (none : R) (p : ℕ → A → Bool) (d : A) (P : R → Type 0) where
  -- from any element on
  find-from : (xs : List A) (b : ℕ) → ((k : ℕ) → k < length xs → p (b + k) (get_or xs k d) ≡ true → P (at (b + k))) → P none → P (fold_from (λ k x r. when p k x then at k else r) none b xs)
  find-from [] b f n = n
  find-from (x ∷ xs) b f n =
      if-elim P (p b x) (rw add-zero at (f zero (omega arith)))
      (λ e. find-from xs (suc b) (λ k h. rw (suc-add b k, ← add-suc b k) (f (suc k) (suc-le-suc h))) n)

  -- what holds of none, and of at k where k is in range and passes, holds of what is found
  pub find-by : (xs : List A) → ((k : ℕ) → k < length xs → p k (get_or xs k d) ≡ true → P (at k)) → P none → P (find at none p xs)
  find-by xs f n = find-from xs 0 (λ k h. rw zero-add (f k h)) n

module _ {A R : Type 0} (at : ℕ → R) (none : R) (p : ℕ → A → Bool) (d : A) where
  lowest-from : (xs : List A) (b k : ℕ) → k < length xs → p (b + k) (get_or xs k d) ≡ true → ((i : ℕ) → i < k → p (b + i) (get_or xs i d) ≡ false) → fold_from (λ j x r. when p j x then at j else r) none b xs ≡ at (b + k)
  lowest-from [] b k h t f = absurd (not-suc-le-zero h)
  lowest-from (x ∷ xs) b zero h t f = rw add-zero (if-true (p b x) _ _ (rw add-zero at t))
  lowest-from (x ∷ xs) b (suc k) h t f =
      if-false (p b x) _ _ (rw add-zero at (f zero (omega arith)))
      ∙ (rw (add-suc b k, ← suc-add b k) (lowest-from xs (suc b) k (le_of_suc-le-suc h) (rw (suc-add b k, ← add-suc b k) t) (λ i g. rw (suc-add b i, ← add-suc b i) (f (suc i) (suc-le-suc g)))))

  -- what passes, and nothing before it, is found
  pub find-lowest : (xs : List A) (k : ℕ) → k < length xs → p k (get_or xs k d) ≡ true → ((i : ℕ) → i < k → p i (get_or xs i d) ≡ false) → find at none p xs ≡ at k
  find-lowest xs k h t f = rw zero-add at (lowest-from xs 0 k h (rw zero-add t) (λ i g. rw zero-add (f i g)))

-- the length of a struct's field that is an array of structs: what owning the struct tells is of the elements taken apart
pub sized-field : (A B : Type 0) (f : A → B) (xs : List A) (n : ℕ) → length (map f xs) ≡ n → length xs ≡ n
sized-field A B f xs n e = sym (length-map xs f) ∙ e

-- the elements that a loop rewrote
module _ {A B : Type 0} (f : ℕ → A → B) where
  -- are as many
  pub length-map_from : (k : ℕ) (xs : List A) → length (map_from f k xs) ≡ length xs
  length-map_from k [] = refl
  length-map_from k (x ∷ xs) = ap suc (length-map_from (suc k) xs)

  -- the element at an index, where past the end the defaults agree
  get_d-from : (k : ℕ) (xs : List A) (i : ℕ) (d : A) (e : B) → (length xs ≤ i → e ≡ f (k + i) d) → get_or (map_from f k xs) i e ≡ f (k + i) (get_or xs i d)
  get_d-from k [] i d e h = h (omega arith)
  get_d-from k (x ∷ xs) zero d e h = simp add-zero
  get_d-from k (x ∷ xs) (suc i) d e h =
      rw (add-suc k i, ← suc-add k i) (get_d-from (suc k) xs i d e (λ l. rw (suc-add k i, ← add-suc k i) (h (suc-le-suc l))))

  -- the element at an index
  pub get_d-map_from : (xs : List A) (i : ℕ) (d : A) (e : B) → i < length xs → get_or (map_from f 0 xs) i e ≡ f i (get_or xs i d)
  get_d-map_from xs i d e h = rw zero-add at (get_d-from 0 xs i d e (λ l. absurd (not-le_of_lt h l)))

-- what is found of the elements that a loop rewrote is what is found of the old ones by a test of what they become;
-- so `each`, `count` and `find` do not see a rewriting that keeps what their test reads
pub fold_from-map_from : {A B R : Type 0} (g : ℕ → B → R → R) (z : R) (f : ℕ → A → B) (k : ℕ) (xs : List A) → fold_from g z k (map_from f k xs) ≡ fold_from (λ i x r. g i (f i x) r) z k xs
fold_from-map_from g z f k [] = refl
fold_from-map_from g z f k (x ∷ xs) = ap (λ (r : _). g k (f k x) r) (fold_from-map_from g z f (suc k) xs)

-- tests that agree at each element find the same
pub fold_from-same : {A R : Type 0} (g h : ℕ → A → R → R) (z : R) → ((i : ℕ) (x : A) (r : R) → g i x r ≡ h i x r) → (k : ℕ) (xs : List A) → fold_from g z k xs ≡ fold_from h z k xs
fold_from-same g h z e k [] = refl
fold_from-same g h z e k (x ∷ xs) = e k x _ ∙ ap (λ (r : _). h k x r) (fold_from-same g h z e (suc k) xs)

-- the element at any index, where f keeps the default
pub get_d-map_from-kept : {A : Type 0} (f : ℕ → A → A) (d : A) → ((i : ℕ) → f i d ≡ d) → (k : ℕ) (xs : List A) (i : ℕ) → get_or (map_from f k xs) i d ≡ f (k + i) (get_or xs i d)
get_d-map_from-kept f d e k xs i = get_d-from f k xs i d d (λ l. sym (e (k + i)))

module _ {A : Type 0} (p : A → Bool) where
  -- where the count begins does not matter
  all_from : (i j : ℕ) (xs : List A) → fold_from (λ k x r. p x && r) true i xs ≡ fold_from (λ k x r. p x && r) true j xs
  all_from i j [] = refl
  all_from i j (x ∷ xs) = ap (λ (r : Bool). p x && r) (all_from (suc i) (suc j) xs)

  -- a test of each element, without its index: of the first and of the rest
  pub all_cons : (x : A) (xs : List A) → all p (x ∷ xs) ≡ (p x && all p xs)
  all_cons x xs = ap (λ (r : Bool). p x && r) (all_from 1 0 xs)

  -- a test of two lists joined
  pub all_append : (xs ys : List A) → all p (xs ++ ys) ≡ (all p xs && all p ys)
  all_append [] ys = refl
  all_append (x ∷ xs) ys = rw (all_cons x (xs ++ ys), all_append xs ys, all_cons x xs) (sym (and_assoc (p x) (all p xs) (all p ys)))

-- the element at an index once another is stored
pub get_d_set : {A : Type 0} (l : List A) (q p : ℕ) (v d : A) → get_or (set l q v) p d ≡ when eqb p q && ltb q (length l) then v else get_or l p d
get_d_set l q p v d =
    cases (eqb p q)
    (λ e. cases (ltb q (length l))
    (λ b. rw (eqb-true p q e) (get_or-set_same l q v d (ltb-true _ _ b) ∙ simp (eq-eqb q q refl, b)))
    (λ b. ap (λ x. get_or x p d) (set_out l q v (ltb-false _ _ b)) ∙ simp (e, b)))
    (λ e. get_or-set_other l q p v d (eqb-false p q e) ∙ simp e)

-- an element stored: what holds of it at its index, and elsewhere of what was there, holds at each index
pub get_d-set-by : {A : Type 0} (P : A → Type 0) (xs : List A) (i j : ℕ) (v d : A) → (j ≡ i → i < length xs) → (j ≡ i → P v) → (eqb j i ≡ false → P (get_or xs j d)) → P (get_or (set xs i v) j d)
get_d-set-by P xs i j v d within same other =
    cases (eqb j i)
    (λ e. let q : j ≡ i = eqb-true j i e in
    subst P (sym (ap (λ (k : ℕ). get_or (set xs i v) k d) q ∙ get_or-set_same xs i v d (within q))) (same q))
    (λ e. subst P (sym (get_or-set_other xs i j v d (eqb-false j i e))) (other e))

-- a run of stores leaves what is past it
pub drop-sets : (v l : List ℕ) (i : ℕ) → drop (i + length v) (sets l i v) ≡ drop (i + length v) l
drop-sets [] l i = refl
drop-sets (x ∷ v) l i =
    rw (add-suc i (length v), ← suc-add i (length v))
    (drop-sets v (set l i x) (suc i) ∙ drop-set-lt (suc i + length v) l i x (omega arith))

-- what stands first of the rest of a list
pub first-of : {A : Type 0} (l : List A) (k : ℕ) (x : A) (xs : List A) (d : A) → drop k l ≡ x ∷ xs → get_or l k d ≡ x
first-of {A} l k x xs d e = rw add-zero at (sym (get_or-drop k l 0 d)) ∙ ap (λ (r : List A). get_or r 0 d) e

-- and what is left then
pub rest_of : {A : Type 0} (l : List A) (k : ℕ) (x : A) (xs : List A) → drop k l ≡ x ∷ xs → drop (suc k) l ≡ xs
rest_of l k x xs e = rw add-one at (sym (drop-drop 1 k l)) ∙ ap (drop 1) e

-- what is read of an element is the same where it is the same of the whole lists
pub read_same : {A B : Type 0} (r : A → B) (l m : List A) (d : A) → map r l ≡ map r m → (i : ℕ) → r (get_or l i d) ≡ r (get_or m i d)
read_same r l m d e i = sym (get_or-map r l i d) ∙ ap (λ x. get_or x i (r d)) e ∙ get_or-map r m i d

-- rewritings that agree at each index make the same
module _ {A B : Type 0} (f g : ℕ → A → B) where
  mapped-from : (k : ℕ) (xs : List A) → ((i : ℕ) (x : A) → i < length xs → f (k + i) x ≡ g (k + i) x) → map_from f k xs ≡ map_from g k xs
  mapped-from k [] e = refl
  mapped-from k (x ∷ xs) e =
      ap₂ {C = List B} ◌∷◌ (rw add-zero at (e zero x (omega arith))) (mapped-from (suc k) xs (λ i y h. rw (suc-add k i, ← add-suc k i) (e (suc i) y (suc-le-suc h))))

  pub map_from-same : (xs : List A) → ((i : ℕ) (x : A) → i < length xs → f i x ≡ g i x) → map_from f 0 xs ≡ map_from g 0 xs
  map_from-same xs e = mapped-from 0 xs (λ i x h. rw zero-add (e i x h))

-- a rewriting that keeps each element
pub map_from-kept : {A : Type 0} (f : ℕ → A → A) → ((i : ℕ) (x : A) → f i x ≡ x) → (k : ℕ) (l : List A) → map_from f k l ≡ l
map_from-kept f e k [] = refl
map_from-kept {A} f e k (x ∷ l) = ap₂ {C = List A} ◌∷◌ (e k x) (map_from-kept f e (suc k) l)

-- a rewriting that keeps what is read
pub read-map_from : {A B : Type 0} (r : A → B) (f : ℕ → A → A) → ((i : ℕ) (x : A) → r (f i x) ≡ r x) → (k : ℕ) (l : List A) → map r (map_from f k l) ≡ map r l
read-map_from r f e k [] = refl
read-map_from {B = B} r f e k (x ∷ l) = ap₂ {C = List B} ◌∷◌ (e k x) (read-map_from r f e (suc k) l)

-- a map that keeps what is read
pub read-map : {A B : Type 0} (r : A → B) (f : A → A) → ((x : A) → r (f x) ≡ r x) → (l : List A) → map r (map f l) ≡ map r l
read-map r f e l = ap (map r) (sym (map_from-map f 0 l)) ∙ read-map_from r (λ i. f) (λ i. e) 0 l

-- a map of a list once an element is stored
pub map-set : {A B : Type 0} (g : A → B) (l : List A) (q : ℕ) (v : A) → map g (set l q v) ≡ set (map g l) q (g v)
map-set g [] q v = refl
map-set g (x ∷ l) zero v = refl
map-set {B = B} g (x ∷ l) (suc q) v = ap {B = List B} (λ r. g x ∷ r) (map-set g l q v)

-- a map of a rewritten list is a rewriting of the map
pub map-map_from : {A B : Type 0} (g : A → B) (f : ℕ → A → A) (h : ℕ → B → B) → ((i : ℕ) (x : A) → g (f i x) ≡ h i (g x)) → (k : ℕ) (l : List A) → map g (map_from f k l) ≡ map_from h k (map g l)
map-map_from g f h e k [] = refl
map-map_from {B = B} g f h e k (x ∷ l) = ap₂ {C = List B} ◌∷◌ (e k x) (map-map_from g f h e (suc k) l)

-- a map of a mapped list
pub map-over : {A B : Type 0} (g : A → B) (f : A → A) (h : B → B) → ((x : A) → g (f x) ≡ h (g x)) → (l : List A) → map g (map f l) ≡ map h (map g l)
map-over g f h e l = ap (map g) (sym (map_from-map f 0 l)) ∙ map-map_from g (λ i. f) (λ i. h) (λ i. e) 0 l ∙ map_from-map h 0 (map g l)

-- what is gathered of a map's elements, where each tells what the old one told
pub fold_from-map : {A B R : Type 0} (f : A → B) (g : ℕ → B → R → R) (h : ℕ → A → R → R) (z : R) → ((i : ℕ) (x : A) (r : R) → g i (f x) r ≡ h i x r) → (k : ℕ) (l : List A) → fold_from g z k (map f l) ≡ fold_from h z k l
fold_from-map f g h z e k l =
    ap (fold_from g z k) (sym (map_from-map f k l)) ∙ fold_from-map_from g z (λ i. f) k l ∙ fold_from-same (λ i x r. g i (f x) r) h z e k l

-- lists of which the same is read are as long
pub same_length : {A B : Type 0} (r : A → B) (l m : List A) → map r l ≡ map r m → length l ≡ length m
same_length r l m e = sym (length-map l r) ∙ ap length e ∙ length-map m r

-- a search by a test of the element alone
module _ {A R : Type 0} (at : ℕ → R) (none : R) (p : A → Bool) where
  abbrev from : ℕ → List A → R
  from = fold_from (λ k x r. when p x then at k else r) none

  -- from any element on
  set-from : (l : List A) (k q : ℕ) (v : A) → p v ≡ false → (from k l ≡ at (k + q) → ⊥) → from k (set l q v) ≡ from k l
  set-from [] k q v e ne = refl
  set-from (x ∷ l) k zero v e ne =
      cases (p x)
      (λ t. absurd (ne (rw add-zero (if-true (p x) (at k) _ t))))
      (λ t. if-false (p v) (at k) _ e ∙ sym (if-false (p x) (at k) _ t))
  set-from (x ∷ l) k (suc q) v e ne =
      cases (p x)
      (λ t. if-true (p x) (at k) _ t ∙ sym (if-true (p x) (at k) _ t))
      (λ t. ap (λ (r : R). when p x then at k else r) (set-from l (suc k) q v e (λ y. ne (if-false (p x) (at k) _ t ∙ rw (add-suc k q, ← suc-add k q) y))))

  -- it is blind to an index that it did not stop at, where what comes there does not pass
  pub find-set : (l : List A) (q : ℕ) (v : A) → p v ≡ false → (find at none (λ k. p) l ≡ at q → ⊥) → find at none (λ k. p) (set l q v) ≡ find at none (λ k. p) l
  find-set l q v e ne = set-from l 0 q v e (λ y. ne (rw zero-add at y))

  -- it finds the same where the test tells the same of each element
  pub find-same : (l m : List A) → map p l ≡ map p m → find at none (λ k. p) l ≡ find at none (λ k. p) m
  find-same l m e = sym (over l) ∙ ap (λ (x : List Bool). fold_from (λ k b r. when b then at k else r) none 0 x) e ∙ over m
    where
      over : (l : List A) → fold_from (λ k b r. when b then at k else r) none 0 (map p l) ≡ find at none (λ k. p) l
      over l = fold_from-map p (λ k b r. when b then at k else r) (λ k x r. when p x then at k else r) none (λ i x r. refl) 0 l

-- ---- the first elements

-- what is made of the first elements is the first of what is made
pub map-take : {A B : Type 0} (f : A → B) (n : ℕ) (l : List A) → map f (take n l) ≡ take n (map f l)
map-take f zero l = refl
map-take f (suc n) [] = refl
map-take {B = B} f (suc n) (x ∷ l) = ap {B = List B} (λ r. f x ∷ r) (map-take f n l)

-- of the first elements without the first of them
pub drop-take : {A : Type 0} (m n : ℕ) (l : List A) → drop m (take (m + n) l) ≡ take n (drop m l)
drop-take zero n l = rw zero-add refl
drop-take (suc m) n [] = rw (suc-add m n) (sym (take-nil n))
drop-take (suc m) n (x ∷ l) = rw (suc-add m n) (drop-take m n l)
