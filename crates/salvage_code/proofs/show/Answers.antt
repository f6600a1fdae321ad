use borrow.Author.Rules.{rules}
use Prim.Native.Nat.{ℕ, ◌+◌}
use mathlib.Core.Path.{◌≡◌, ap, ◌∙◌}
use mathlib.Core.List.{List, ◌++◌}
use native.Mathlib.Omega.{arith}
use lib.ListN.{length}
use lib.Seq.{sets}
use Rattle.wire.proofs.Stores.{sets-append, sets-shown}
use Rattle.salvage_code.proofs.show.Goals as goal

pub returns : goal.returns
returns c =
    let p2 = c in
    let p1 = p2 in
    let a = p1.args in
    let out = a.out.now in
    let events = a.events.now in
    let pages = a.pages.now in
    let l : length a.head ≡ 8 = search rules in
    let e : 8 ≡ 0 + length a.head = omega (arith, l) in
    let s1 = p1.put.ensures in
    let s2 = p2.put-2.ensures ∙ ap (λ (x : List ℕ). sets x 8 events) s1 in
    c.put-3.ensures
    ∙ ap (λ (x : List ℕ). sets x (8 + length events) pages) s2
    ∙ sets-append (sets out 0 a.head) 8 events pages
    ∙ ap (λ (k : ℕ). sets (sets out 0 a.head) k (events ++ pages)) e
    ∙ sets-append out 0 a.head (events ++ pages)
    ∙ sets-shown (a.head ++ (events ++ pages)) out
