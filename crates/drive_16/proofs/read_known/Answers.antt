use borrow.Author.Rules.{rules}
use mathlib.Core.Path.{◌≡◌, ◌∙◌}
use lib.ListN.{length}
use Rattle.arrays.proofs.Laws.{sized-field}
use Rattle.device.proofs.Selecting.{found}
use Rattle.sizes_16.specs.Sizes.{nexus_count}
use Rattle.device_16.specs.Model.{state, worded}
use Rattle.drive_16.proofs.Known.{read-unheard, read-stopped, read-given}
use Rattle.drive_16.proofs.read_known.Goals as goal

pub returns-in-Err : goal.returns-in-Err
returns-in-Err c =
    let a = c.args in
    let size : length a.r.device.nexuses ≡ nexus_count = search (rules, sized-field) in
    c.refuse_read.ensures ∙ read-unheard (worded a.r) a.n nexus_count _ size c.nexus_at-nexus.ensures a.block _ c.in-Err.ensures

pub returns-in-Err-restore : goal.returns-in-Err-restore
returns-in-Err-restore c =
    let a = c.args in
    let size : length a.r.device.nexuses ≡ nexus_count = search (rules, sized-field) in
    let seen = c.nexus_at-nexus.ensures in
    let chosen = found (state a.r.device) a.n _ _ seen c.place_of-place.ensures.0 in
    c.refuse_read-in-Err-restore.ensures
    ∙ read-stopped (worded a.r) a.n nexus_count _ size seen _ chosen c.in_default.ensures a.block _ c.in-Err-restore.ensures

pub returns-in-Ok : goal.returns-in-Ok
returns-in-Ok c =
    let a = c.args in
    let size : length a.r.device.nexuses ≡ nexus_count = search (rules, sized-field) in
    let seen = c.nexus_at-nexus.ensures in
    let chosen = found (state a.r.device) a.n _ _ seen c.place_of-place.ensures.0 in
    read-given (worded a.r) a.n nexus_count _ size seen _ chosen c.in_default.ensures a.block _ c.in-Ok.ensures
