-- What stands behind a place of a text is a text.
use Rattle.std.proofs.Common.{◌≡◌, ℕ, ◌+◌, ◌-◌, ◌<◌, ◌≤◌, Bool, true, false, if◌then◌else◌, nat_lt, nat_le, List, length, drop, Some, None, refl, ap, ◌∙◌, arith, length-drop}
use Rattle.std.specs.Prelude.{IsTrue, is_none}
use Rattle.std.specs.List.{position_or_len}
use Rattle.std.proofs.lemmas.Bool.{and_from, and_parts, le-leb, leb-true}
use Rattle.std.proofs.lemmas.Bool.Decides.{nat_tests}
use Rattle.std.proofs.lemmas.List.{get_or-drop}
use Rattle.std.proofs.lemmas.List.Sums.{fails_before_first, position_or_len_is}
use Rattle.moos_post.specs.Words.{control_place, is_control, is_text}

-- no byte is found exactly where the first place that passes is none
all_pass : (place long : ℕ) (found : Bool) → nat_lt place long ≡ found → is_none (if found then Some place else None) ≡ true → long ≤ place
all_pass place long true is none = absurd (let e : false ≡ true = none in cc)
all_pass place long false is none = grind (arith, nat_tests)

none_passes : (place long : ℕ) (found : Bool) → nat_lt place long ≡ found → place ≡ long → is_none (if found then Some place else None) ≡ true
none_passes place long true is same = absurd (let within : place < long = grind (arith, nat_tests) in omega arith)
none_passes place long false is same = refl

pub text_behind : (text : List ℕ) (i : ℕ) → IsTrue (is_text text) → IsTrue (is_text (drop i text))
text_behind text i is =
    let rest = drop i text in
    let parts = and_parts (nat_le (length text) 4096) (is_none (control_place text)) is in
    let short : length text ≤ 4096 = leb-true (length text) 4096 parts.0 in
    let free : length text ≤ position_or_len is_control text = all_pass (position_or_len is_control text) (length text) (nat_lt (position_or_len is_control text) (length text)) refl parts.1 in
    let long : length rest ≡ length text - i = length-drop i text in
    let whole : position_or_len is_control rest ≡ length rest
    = position_or_len_is is_control rest (length rest) 0 (omega arith)
    (λ k within. ap is_control (get_or-drop i text k 0) ∙ fails_before_first is_control text (i + k) 0 (omega (arith, within, long, free))) (λ within. absurd (omega (arith, within))) in
    and_from (nat_le (length rest) 4096) (is_none (control_place rest)) (le-leb (length rest) 4096 (omega (arith, short, long)))
    (none_passes (position_or_len is_control rest) (length rest) (nat_lt (position_or_len is_control rest) (length rest)) refl whole)
