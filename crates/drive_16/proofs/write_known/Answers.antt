use borrow.Author.Rules.{rules}
use mathlib.Core.Path.{◌≡◌, ◌∙◌}
use lib.ListN.{length}
use Rattle.arrays.proofs.Laws.{sized-field}
use Rattle.device.proofs.Selecting.{found}
use Rattle.sizes_16.specs.Sizes.{nexus_count}
use Rattle.device_16.specs.Model.{state, worded}
use Rattle.drive_16.proofs.Known.{write-unheard, write-stopped, write-permitted}
use Rattle.drive_16.proofs.write_known.Goals as goal

pub returns-in-Err : goal.returns-in-Err
returns-in-Err c =
    let a = c.args in
    let size : length a.r.device.nexuses ≡ nexus_count = search (rules, sized-field) in
    c.refuse_write.ensures ∙ write-unheard (worded a.r) a.n nexus_count _ size c.nexus_at-nexus.ensures a.supported _ c.in-Err.ensures

pub returns-in-Err-check_write : goal.returns-in-Err-check_write
returns-in-Err-check_write c =
    let a = c.args in
    let size : length a.r.device.nexuses ≡ nexus_count = search (rules, sized-field) in
    let seen = c.nexus_at-nexus.ensures in
    let chosen = found (state a.r.device) a.n _ _ seen c.place_of-place.ensures.0 in
    c.refuse_write-in-Err-check_write.ensures
    ∙ write-stopped (worded a.r) a.n nexus_count _ size seen _ chosen c.in_default.ensures a.supported _ c.in-Err-check_write.ensures

pub returns : goal.returns
returns c =
    let a = c.args in
    let size : length a.r.device.nexuses ≡ nexus_count = search (rules, sized-field) in
    let seen = c.nexus_at-nexus.ensures in
    let chosen = found (state a.r.device) a.n _ _ seen c.place_of-place.ensures.0 in
    rw c.decide.ensures (write-permitted (worded a.r) a.n nexus_count _ size seen _ chosen c.in_default.ensures a.supported c.in_default-check_write.ensures)
