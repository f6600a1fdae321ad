use borrow.Author.Rules.{rules}
use mathlib.Core.Path.{◌≡◌, ◌∙◌}
use lib.ListN.{length}
use Rattle.arrays.proofs.Laws.{sized-field}
use Rattle.sizes_16.specs.Sizes.{nexus_count}
use Rattle.device_16.specs.Model.{worded}
use Rattle.drive_16.proofs.Known.{in-stopped, in-given}
use Rattle.drive_16.proofs.security_in_known.Goals as goal

pub returns-in-Err : goal.returns-in-Err
returns-in-Err c =
    let a = c.args in
    let size : length a.r.device.nexuses ≡ nexus_count = search (rules, sized-field) in
    let told = in-stopped (worded a.r) a.command nexus_count _ _ size c.nexus_of-nexus.ensures c.is_in_page-supported.ensures _ c.in-Err.ensures in
    (c.refuse_in.ensures ∙ told.0, told.1 a.buffer.now)

pub returns : goal.returns
returns c =
    let a = c.args in
    let size : length a.r.device.nexuses ≡ nexus_count = search (rules, sized-field) in
    let shows = c.respond-length.ensures in
    let told = in-given (worded a.r) a.command nexus_count _ _ size c.nexus_of-nexus.ensures c.is_in_page-supported.ensures c.in_default.ensures in
    (rw (c.change_marks_in.ensures, shows.tells) told.0, shows.holds ∙ told.1 a.buffer.now)
