use borrow.Author.Rules.{rules}
use mathlib.Core.Bool.{◌||◌, Bool}
use mathlib.Core.Path.{◌≡◌, sym, ap, ◌∙◌}
use mathlib.Core.Logic.{⊎_elim}
use lib.ListN.{length}
use Rattle.arrays.proofs.Laws.{sized-field}
use Rattle.sizes_16.specs.Sizes.{nexus_count, place_count}
use Rattle.device_16.specs.Model.{worded}
use Rattle.calls_16.proofs.Known.{power-known, in-known, write_known, read_known, performed, marked_performed, perform-unformed}
use Rattle.calls_16.proofs.perform.Goals as goal

-- whether check 1 lets the call pass
let_pass : (formed : Bool) {power is b : Bool} → power ≡ is → (formed || power) ≡ b → (formed || is) ≡ b
let_pass formed e t = ap (λ (x : Bool). formed || x) (sym e) ∙ t

pub returns-then-not-formed-is_power_on : goal.returns-then-not-formed-is_power_on
returns-then-not-formed-is_power_on c =
    let a = c.args in
    perform-unformed a.formed (worded a.r) a.asked a.page.now (let_pass a.formed c.is_power_on.ensures c.if-not-formed-is_power_on.true)

pub returns-in-PowerOn : goal.returns-in-PowerOn
returns-in-PowerOn c =
    let a = c.args in
    let nexuses : length a.r.device.nexuses ≡ nexus_count = search (rules, sized-field) in
    let places : length a.r.device.sets ≡ place_count = search (rules, sized-field) in
    performed a.formed (worded a.r) a.asked a.page.now (let_pass a.formed c.is_power_on.ensures c.if-not-formed-is_power_on.false) c.in-PowerOn.is
    (c.power_on.ensures ∙ power-known (worded a.r) nexuses places)

pub returns-in-In : goal.returns-in-In
returns-in-In c =
    let a = c.args in
    let r = worded a.r in
    let page = a.page.now in
    let t = let_pass a.formed c.is_power_on.ensures c.if-not-formed-is_power_on.false in
    ⊎_elim (λ w. marked_performed a.formed r a.asked page t w.1 (in-known r w.0 page) c.mark.ensures)
    (λ w. ⊎_elim (λ x. marked_performed a.formed r a.asked page t x.2 (write_known r x.0 x.1 page) c.mark.ensures)
    (λ x. marked_performed a.formed r a.asked page t x.2 (read_known r x.0 x.1 page) c.mark.ensures)
    w)
    c.in-In.is

pub returns-in-Out : goal.returns-in-Out
returns-in-Out c =
    let a = c.args in
    performed a.formed (worded a.r) a.asked a.page.now (let_pass a.formed c.is_power_on.ensures c.if-not-formed-is_power_on.false) c.in-Out.is c.security_out_known.ensures

pub returns-in-UnitReset : goal.returns-in-UnitReset
returns-in-UnitReset c =
    let a = c.args in
    performed a.formed (worded a.r) a.asked a.page.now (let_pass a.formed c.is_power_on.ensures c.if-not-formed-is_power_on.false) c.in-UnitReset.is c.unit_reset_known.ensures

pub returns-in-Happen : goal.returns-in-Happen
returns-in-Happen c =
    let a = c.args in
    performed a.formed (worded a.r) a.asked a.page.now (let_pass a.formed c.is_power_on.ensures c.if-not-formed-is_power_on.false) c.in-Happen.is c.happen_known.ensures
