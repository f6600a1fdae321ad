use Prim.Native.Nat.{ℕ, ◌+◌, ◌*◌, ◌<◌, ◌≤◌}
use mathlib.Core.Path.{◌≡◌, sym, ◌∙◌}
use mathlib.Core.Bool.{true}
use mathlib.Core.List.{List}
use native.Mathlib.Omega.{arith}
use lib.ListN.{length}
use lib.Seq.{length-take-le}
use Rattle.salvage.specs.Salvage.{is_salvageable}
use Rattle.salvage.proofs.Saving.{kept-within, kept_small, saves-all}
use Rattle.salvage_code.proofs.salvage.Goals as goal
use Rattle.salvage_code.proofs.salvage.Goals.{After-kept_count-kept}

module _ (c : After-kept_count-kept) where
  abbrev the : List ℕ
  the = c.args.file.now

  good : is_salvageable the ≡ true
  good = sym c.is_salvageable.ensures ∙ c.if-not-is_salvageable.false

  -- the events kept are there
  within : 8 * c.kept_count-kept.result ≤ length c.events_of-events.result.now
  within = rw (c.kept_count-kept.ensures, c.events_of-events.ensures.0) (kept-within the good)

  -- the new file is small
  small : 8 + 8 * c.kept_count-kept.result + length c.pages_of-pages.result.now < 65536
  small = rw (c.kept_count-kept.ensures, c.pages_of-pages.ensures) (kept_small the good)

pub right_header-new-requires : goal.right_header-new-requires
right_header-new-requires c = small (goal.at.right_header-new-requires c).After-kept_count-kept

pub slice_bounds-show-end : goal.slice_bounds-show-end
slice_bounds-show-end c = sym (length-take-le _ c.events_of-events.result.now (within (goal.at.slice_bounds-show-end c).After-kept_count-kept))

pub overflow_sub-result : goal.overflow_sub-result
overflow_sub-result c = let h = within (goal.at.overflow_sub-result c).After-kept_count-kept in omega (arith, h)

pub returns : goal.returns
returns c =
    let k = (goal.at.returns c).After-kept_count-kept in
    let all = saves-all (the k) (good k) c.args.out.now in
    let new = c.right_header-new.ensures in
    let kept = c.kept_count-kept.ensures in
    let pages = c.pages_of-pages.ensures in
    let events = c.events_of-events.ensures.0 in
    record {
      reports = simp (c.header_of-old.ensures, new, kept, pages, events) all.reports;
      writes = c.show.ensures ∙ simp (c.header_bytes-head.ensures, new, kept, pages, events) all.writes;
    }
