-- Lines, as the code puts them.
-- Assumes nothing.
use Prim.Native.Nat.{ℕ, zero, suc, ◌+◌, ◌*◌, ◌≤◌, ◌<◌}
use mathlib.Core.Path.{◌≡◌, refl, sym, ap, subst, ◌∙◌}
use mathlib.Core.List.{List, [], ◌∷◌, ◌++◌, append_assoc, append-nil}
use native.Mathlib.Nat.{not-suc-le-zero, le_of_suc-le-suc, zero-add}
use native.Mathlib.Numerals.{add-one}
use native.Mathlib.Omega.{arith}
use lib.ListN.{length, get_or, take}
use lib.Seq.{length-sets, take_all}
use Rattle.text.specs.Puts.{Put}
use Rattle.text.proofs.Puts.{put-none, put_then}
use Rattle.claim.specs.Lines.{row_line, row_lines}
use Rattle.claim.specs.Making.{line_most}
use Rattle.claim.specs.Rows.{no_writes}
use Rattle.claim.specs.declared.Row.{Row}

-- the lines of the first rows, and of one more
pub lines_more : (j : ℕ) (rows : List Row) (k : ℕ) → k < length rows → row_lines j (take (suc k) rows) ≡ row_lines j (take k rows) ++ row_line (j + k) (get_or rows k no_writes)
unfolding row_lines
lines_more j [] k h = absurd (not-suc-le-zero h)
lines_more j (row ∷ rows) zero h =
    let e : j + 0 ≡ j = omega arith in
    ap (λ x. row_line j row ++ x) refl ∙ append-nil (row_line j row) ∙ ap (λ x. row_line x row) (sym e)
lines_more j (row ∷ rows) (suc k) h =
    let e : suc j + k ≡ j + suc k = omega arith in
    ap (λ x. row_line j row ++ x) (lines_more (suc j) rows k (le_of_suc-le-suc h))
    ∙ sym (append_assoc (row_line j row) (row_lines (suc j) (take k rows)) (row_line (suc j + k) (get_or rows k no_writes)))
    ∙ ap (λ x. row_line j row ++ row_lines (suc j) (take k rows) ++ row_line x (get_or rows k no_writes)) e

-- ---- lines put one after another

-- the invariant: the lines of the rows below k are put, and the buffer keeps its length
pub record Lining (out₀ : List ℕ) (rows : List Row) (k at : ℕ) (out : List ℕ) : Type 0 where
  pub few : at ≤ line_most * k
  pub kept : length out ≡ length out₀
  pub puts : Put out₀ 0 (row_lines 0 (take k rows)) at out

pub lining-starts : {out₀ : List ℕ} {rows : List Row} → Lining out₀ rows 0 0 out₀
unfolding row_lines
lining-starts = record { few = omega arith; kept = refl; puts = put-none }

module _ {out₀ : List ℕ} {rows : List Row} {k at : ℕ} {out : List ℕ} (l : Lining out₀ rows k at out) where
  -- one more
  pub lining-more : k < length rows → {line : List ℕ} → line ≡ row_line k (get_or rows k no_writes) → length line ≤ line_most
      → {to : ℕ} {next : List ℕ} → Put out at line to next → Lining out₀ rows (k + 1) to next
  lining-more h {line} e m {to} {next} p =
      let text = row_line k (get_or rows k no_writes) in
      let more : Put out at text to next = subst (λ t. Put out at t to next) e p in
      let same : row_lines 0 (take k rows) ++ text ≡ row_lines 0 (take (k + 1) rows) =
      ap (λ j. row_lines 0 (take k rows) ++ row_line j (get_or rows k no_writes)) (sym (zero-add k)) ∙ sym (lines_more 0 rows k h) ∙ ap (λ j. row_lines 0 (take j rows)) (sym (add-one k)) in
      record {
        few = omega (arith, p.tells, l.few, m);
        kept = ap length more.holds ∙ length-sets out at text ∙ l.kept;
        puts = subst (λ t. Put out₀ 0 t to next) same (put_then l.puts more);
      }

  -- all are put
  pub lining_ends : length rows ≤ k → Put out₀ 0 (row_lines 0 rows) at out
  lining_ends h = subst (λ t. Put out₀ 0 (row_lines 0 t) at out) (take_all k rows h) l.puts
