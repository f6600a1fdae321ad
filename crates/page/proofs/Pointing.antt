-- Document 02, request 6: the byte of answer 8 is the lowest at which a rule of 01 breaks, whatever order the rules are tested in.
-- Assumes nothing.
use mathlib.Core.List.{List, [], ◌++◌}
use Prim.Native.Nat.{ℕ}
use lib.ListN.{take, drop}
use Rattle.arrays.proofs.Base.{cases}
use Rattle.wire.specs.Rules.{RightLength}
use Rattle.wire.proofs.Lowest.{length-due, Same, same_self, same_then, same-both, same_after, same-swap, same_move}
use Rattle.parameters.specs.Fields.{key_size}
use Rattle.pointing.specs.Judged.{Judged}
use Rattle.pointing.proofs.Judging.{judged-same}
use Rattle.page.specs.Fields.{key_from, is_public, sdk_of, encryption_of, decryption_of}
use Rattle.page.specs.Rules.{open_rules, mode_rules, plain_rules, key_length, key_rules, set_rules, match_rules, end_rules, supplemental_rules}
use Rattle.page.specs.Check.{checked}
use Rattle.page.specs.Pointing.{reserved, every_set_rule, every_list_rule, every_supplemental_rule, every_scoped_rule, every_rule}
use Rattle.page.proofs.Lowest.{after_rules, inner_rules, page_rules, page-verdict}

-- ---- the same rules in the order of their bytes and in 01's

-- SDK 0: byte 5 goes to the end, the reserved bytes before the modes
set_same : (p : List ℕ) → Same (set_rules p) (every_set_rule p)
unfolding set_rules mode_rules plain_rules key_rules every_set_rule
set_same p =
    let byte4 = take 1 (mode_rules p) in
    let byte5 = take 2 (drop 1 (mode_rules p)) in
    let values = drop 3 (mode_rules p) ++ take 3 (plain_rules p) in
    let keys = key_rules p (key_length (encryption_of p) (decryption_of p)) in
    let zeros = reserved p in
    same_after byte4 (byte5 ++ (values ++ (zeros ++ keys))) (zeros ++ (values ++ (keys ++ byte5)))
    (same_then (same_move byte5 values (zeros ++ keys))
    (same_then (same_after values (byte5 ++ (zeros ++ keys)) (zeros ++ (keys ++ byte5)) (same_then (same_move byte5 zeros keys) (same_after zeros (byte5 ++ keys) (keys ++ byte5) (same-swap byte5 keys))))
    (same_move values zeros (keys ++ byte5))))

-- SDK 1: the reserved parts go after the mode
supplemental-same : (p : List ℕ) (scope mode : ℕ) → Same (supplemental_rules p scope mode) (every_supplemental_rule p scope mode)
unfolding supplemental_rules match_rules plain_rules key_rules end_rules every_supplemental_rule
supplemental-same p scope mode =
    let scopes = take 1 (match_rules p scope mode) in
    let bits = take 1 (drop 1 (match_rules p scope mode)) in
    let modes = drop 2 (match_rules p scope mode) in
    let values = take 3 (plain_rules p) in
    let zeros = reserved p in
    let last = key_rules p key_size ++ end_rules p in
    same_after scopes (bits ++ (modes ++ (values ++ (zeros ++ last)))) (modes ++ (bits ++ (zeros ++ (values ++ last))))
    (same_then (same_move bits modes (values ++ (zeros ++ last)))
    (same_after modes (bits ++ (values ++ (zeros ++ last))) (bits ++ (zeros ++ (values ++ last))) (same_after bits (values ++ (zeros ++ last)) (zeros ++ (values ++ last)) (same_move values zeros last))))

-- by the scope
scoped-same : (p : List ℕ) (scope mode : ℕ) → Same (inner_rules p scope mode) (every_scoped_rule p scope mode)
unfolding inner_rules every_scoped_rule after_rules every_list_rule
scoped-same p scope mode =
    cases (is_public p) (λ t. rw t (same_self []))
    (λ t. cases (sdk_of p) (λ u. rw (t, u) (supplemental-same p scope mode))
    (λ u. rw (t, u) (same-both (set_rules p) (after_rules p) (every_set_rule p) (every_list_rule p) (set_same p) (same_self (every_list_rule p)))))

-- all of them
rules-same : (p : List ℕ) (scope mode : ℕ) → Same (page_rules p scope mode) (every_rule p scope mode)
unfolding open_rules
rules-same p scope mode = same_after (open_rules p) (inner_rules p scope mode) (every_scoped_rule p scope mode) (scoped-same p scope mode)

-- If the answer is 8 with byte b, a rule of 01 breaks at b, which is a byte of the page, and none at a lower byte; if it is 0 or 9, none breaks.
-- And of a page of the right length: 8 is answered wherever a rule breaks, and it is taken, but for want of room, wherever none does.
pub page-judged : (p : List ℕ) (scope mode count : ℕ) → Judged (RightLength key_from p) (every_rule p scope mode) p (checked p scope mode count).answer
page-judged p scope mode count = judged-same (rules-same p scope mode) (page-verdict _ p scope mode count (length-due key_from p).1)
