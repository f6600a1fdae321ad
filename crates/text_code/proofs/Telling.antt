-- Laws of lines made by value.
-- Assumes nothing.
use Prim.Native.Nat.{ℕ, ◌+◌, ◌≤◌}
use mathlib.Core.Path.{◌≡◌, sym, ap, ◌∙◌}
use mathlib.Core.List.{List, [], ◌++◌}
use native.Mathlib.Omega.{arith}
use borrow.Author.Tests.{le-leb, leb-false}
use lib.Dec.{leb}
use lib.ListN.{length, replicate, length-append}
use lib.Seq.{sets, length-sets}
use Rattle.arrays.proofs.Base.{cases, if-true, if-false}
use Rattle.wire.proofs.Stores.{sets-append, sets-out, sets-shown, take-padded}
use Rattle.text.specs.Decimal.{at_most}
use Rattle.text.proofs.Decimal.{at-most}
use Rattle.text.specs.Making.{lines_most}
use Rattle.text_code.specs.Telling.{told_lines, and_text, text_of}
use Rattle.text_code.specs.declared.Lines.{Lines}

-- nothing is stored past the end, and an index past it may be told as the end
sets-most : (bytes : List ℕ) (k : ℕ) (text : List ℕ) → sets bytes (at_most (length bytes) k) text ≡ sets bytes k text
sets-most bytes k text =
    cases (leb k (length bytes))
    (λ t. ap (λ (n : ℕ). sets bytes n text) (if-true (leb k (length bytes)) k (length bytes) t))
    (λ f.
    ap (λ (n : ℕ). sets bytes n text) (if-false (leb k (length bytes)) k (length bytes) f)
    ∙ sets-out text bytes (length bytes) (omega arith)
    ∙ sym (sets-out text bytes k (omega (arith, leb-false k (length bytes) f))))

-- a text, and another just after it
-- and so may a length that grows
size-most : (most k more : ℕ) → at_most most (at_most most k + more) ≡ at_most most (k + more)
size-most most k more =
    cases (leb k most)
    (λ t. ap (λ (n : ℕ). at_most most (n + more)) (if-true (leb k most) k most t))
    (λ f.
    ap (λ (n : ℕ). at_most most (n + more)) (if-false (leb k most) k most f)
    ∙ at-most most (most + more) (omega arith)
    ∙ sym (at-most most (k + more) (omega (arith, leb-false k most f))))

-- a text, and another just after it
pub and-then : (lines : Lines) (text more : List ℕ) → and_text (and_text lines text) more ≡ and_text lines (text ++ more)
unfolding and_text
and-then lines text more =
    let most = length lines.bytes in
    let at = lines.length + length text in
    let bytes : sets (sets lines.bytes lines.length text) (at_most most at) more ≡ sets lines.bytes lines.length (text ++ more) =
    ap (λ (n : ℕ). sets (sets lines.bytes lines.length text) (at_most n at) more) (sym (length-sets lines.bytes lines.length text))
    ∙ sets-most (sets lines.bytes lines.length text) at more
    ∙ sets-append lines.bytes lines.length text more in
    let size : at_most (length (sets lines.bytes lines.length text)) (at_most most at + length more) ≡ at_most most (lines.length + length (text ++ more)) =
    ap (λ (n : ℕ). at_most n (at_most most at + length more)) (length-sets lines.bytes lines.length text)
    ∙ size-most most at (length more)
    ∙ ap (λ (n : ℕ). at_most most n) (omega (arith, length-append text more)) in
    λ i. record { bytes = bytes i; length = size i }

-- no lines, and a text that there is room for
pub told : (text : List ℕ) → length text ≤ lines_most → and_text (told_lines []) text ≡ told_lines text
unfolding told_lines and_text
told text h =
    let none : 0 + length text ≡ length text = omega arith in
    let size = ap (at_most lines_most) none ∙ if-true (leb (length text) lines_most) (length text) lines_most (le-leb (length text) lines_most h) in
    let bytes = sets-shown text (replicate lines_most 0) in
    λ i. record { bytes = bytes i; length = size i }

-- the text is read from its lines
pub text-read : (text : List ℕ) {lines : Lines} → lines ≡ told_lines text → lines.length ≤ lines_most → text_of lines ≡ text
unfolding told_lines
text-read text {lines} e h =
    let l : lines.length ≡ length text = ap (λ (x : Lines). x.length) e in
    ap text_of e ∙ take-padded lines_most text (omega (arith, l, h))
