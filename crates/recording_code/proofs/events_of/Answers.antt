use Prim.Native.Nat.{ℕ, ◌-◌, ◌<◌}
use mathlib.Core.Path.{◌≡◌, ap, ◌∙◌}
use native.Mathlib.Omega.{arith}
use mathlib.Core.List.{List}
use native.Mathlib.Nat.{min-le_left}
use lib.ListN.{length, take, drop, length-take}
use Rattle.recording.specs.Files.{header}
use Rattle.recording_code.proofs.events_of.Goals as goal

-- a part has at most the bytes that were asked for
few : (n : ℕ) (bytes : List ℕ) {part : List ℕ} → part ≡ take n bytes → n < 65536 → length part < 65536
few n bytes {part} e h = let l = ap length e ∙ length-take n bytes in omega (arith, l, min-le_left n (length bytes), h)

pub returns-then-from-lt-HEADER_SIZE : goal.returns-then-from-lt-HEADER_SIZE
returns-then-from-lt-HEADER_SIZE c =
    let file = c.args.file.now in
    let w = c.word_at-from.ensures.0 in
    let e : 0 ≡ (header file).pages_from - 8 = omega (arith, w, c.if-from-lt-HEADER_SIZE.true) in
    (c.part.ensures ∙ ap (λ (n : ℕ). take n (drop 8 file)) e, few 0 (drop 8 file) c.part.ensures (omega arith))

pub returns : goal.returns
returns c =
    let file = c.args.file.now in
    let w = c.word_at-from.ensures in
    (c.part-2.ensures ∙ ap (λ (n : ℕ). take (n - 8) (drop 8 file)) w.0, few (c.word_at-from.result - 8) (drop 8 file) c.part-2.ensures (omega (arith, w.1)))
