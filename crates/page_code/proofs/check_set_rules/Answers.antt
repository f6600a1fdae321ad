use mathlib.Core.Path.{sym, ◌∙◌}
use mathlib.Core.List.{◌++◌}
use Rattle.pointing.proofs.Faulted.{passes, stops, left}
use Rattle.page.specs.Fields.{encryption_of, decryption_of}
use Rattle.page.specs.Rules.{mode_rules, plain_rules, key_length, key_rules, set_rules}
use Rattle.page_code.proofs.check_set_rules.Goals as goal

pub returns-in_err-check_modes : goal.returns-in_err-check_modes
unfolding set_rules
returns-in_err-check_modes c =
    let p = c.args.page.now in
    left _ _ c.from_residual.ensures.1
    ∙ sym (stops (mode_rules p) (plain_rules p ++ key_rules p (key_length (encryption_of p) (decryption_of p))) _ (sym c.in_err-check_modes.ensures))

pub returns-in_err-check_plain : goal.returns-in_err-check_plain
unfolding set_rules
returns-in_err-check_plain c =
    let p = c.args.page.now in
    let keys = key_rules p (key_length (encryption_of p) (decryption_of p)) in
    left _ _ c.from_residual-in_err-check_plain.ensures.1
    ∙ sym (passes (mode_rules p) (plain_rules p ++ keys) (sym c.in_ok-check_modes.ensures) ∙ stops (plain_rules p) keys _ (sym c.in_err-check_plain.ensures))
