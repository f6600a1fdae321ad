use borrow.Author.Rules.{rules}
use mathlib.Core.Path.{◌≡◌, ◌∙◌}
use lib.ListN.{length}
use Rattle.arrays.proofs.Laws.{sized-field}
use Rattle.sizes_16.specs.Sizes.{nexus_count}
use Rattle.device_16.specs.Model.{worded}
use Rattle.drive_16.proofs.Known.{out-stopped, page-refused, page-right}
use Rattle.drive_16.proofs.security_out_known.Goals as goal

pub returns-in-Err : goal.returns-in-Err
returns-in-Err c =
    let a = c.args in
    let size : length a.r.device.nexuses ≡ nexus_count = search (rules, sized-field) in
    c.refuse.ensures ∙ out-stopped (worded a.r) a.command nexus_count _ _ size c.nexus_of-nexus.ensures a.page.now c.is_out_page-supported.ensures _ c.in-Err.ensures

pub returns-in-Ok : goal.returns-in-Ok
returns-in-Ok c =
    let a = c.args in
    let size : length a.r.device.nexuses ≡ nexus_count = search (rules, sized-field) in
    c.accept.ensures
    ∙ page-right (worded a.r) a.command nexus_count _ _ size c.nexus_of-nexus.ensures a.page.now c.is_out_page-supported.ensures c.in_default.ensures _ c.in-Ok.ensures

pub returns-in-Err-check_page : goal.returns-in-Err-check_page
returns-in-Err-check_page c =
    let a = c.args in
    let size : length a.r.device.nexuses ≡ nexus_count = search (rules, sized-field) in
    c.refuse-in-Err-check_page.ensures
    ∙ page-refused (worded a.r) a.command nexus_count _ _ size c.nexus_of-nexus.ensures a.page.now c.is_out_page-supported.ensures c.in_default.ensures _ c.in-Err-check_page.ensures
