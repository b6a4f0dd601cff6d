-- Reading a printed number gives it back.
use Rattle.std.proofs.Common.{◌≡◌, ℕ, suc, ◌+◌, ◌-◌, ◌/◌, ◌%◌, ◌^◌, ◌<◌, ◌≤◌, inl, inr, true, false, ◌==◌, List, [], ◌∷◌, ◌++◌, length, take, drop, refl, ap, ◌∙◌, sym, arith, length-append, append-nil, add-one}
use Rattle.std.specs.Prelude.{ℤ, pos, negsuc, decimal, nat_le, Option, Some, None, option_map, if◌then◌else◌}
use Rattle.std.specs.List.{list_all}
use Rattle.std.proofs.lemmas.Fmt.{decimal_nonempty, length-decimal-le}
use Rattle.std.proofs.lemmas.Grind.{common_steps}
use Rattle.std.proofs.Math.Seq.{take-append_seam, drop-append-add, take-length}
use Rattle.std.proofs.Math.ListN.{drop_of_length-le}
use Rattle.moos_post.specs.Words.{is_digit, IsMilli}
use Rattle.moos_text.specs.Numbers.{digits_value, thousandths_of, is_numeral, point_place, unsigned_of, unsigned_within, milli_of, decimals_text, unsigned_text, milli_text}
use Rattle.moos_text.proofs.Numerals.{point_behind}
use Rattle.moos_text.proofs.PrintedDigits.{decimal_digits, decimal_value, decimals_shape, Shape}

-- the whole part of a number is short
pub whole_short : (n : ℕ) → n < 2 ^ 64 → length (decimal (n / 1000)) ≤ 17
whole_short n within = length-decimal-le 17 (n / 1000) (omega arith) (omega arith) (omega arith)

-- what the two parts of a number make
made : ℕ → List ℕ → List ℕ → Option ℕ
made most whole decimals = if is_numeral most whole decimals then Some (thousandths_of whole decimals) else None

made_of : (most : ℕ) (whole decimals : List ℕ) → list_all is_digit whole ≡ true → list_all is_digit decimals ≡ true → 0 < length whole → thousandths_of whole decimals ≤ most → made most whole decimals ≡ Some (thousandths_of whole decimals)
unfolding made
made_of most whole decimals digits further some within =
    let long : nat_le 1 (length whole + length decimals) ≡ true = grind arith in
    let small : nat_le (thousandths_of whole decimals) most ≡ true = grind arith in
    rw digits (rw further (rw long (rw small refl)))

-- digits without a point
unsigned_whole : (most : ℕ) (whole : List ℕ) → list_all is_digit whole ≡ true → unsigned_within most whole ≡ made most whole []
unfolding made
unsigned_whole most whole digits =
    let at : point_place whole ≡ length whole = point_behind (length whole) whole (omega arith) (rw take-length digits) (λ lt. absurd (omega arith)) in
    let front : take (point_place whole) whole ≡ whole = rw at (take-length whole) in
    let back : drop (suc (point_place whole)) whole ≡ [] = drop_of_length-le whole {i = suc (point_place whole)} (omega (arith, at)) in
    ap (λ w. made most w (drop (suc (point_place whole)) whole)) front ∙ ap (λ d. made most whole d) back

-- digits on both sides of a point
unsigned_parts : (most : ℕ) (whole decimals : List ℕ) → list_all is_digit whole ≡ true → unsigned_within most (whole ++ 46 ∷ decimals) ≡ made most whole decimals
unfolding made
unsigned_parts most whole decimals digits =
    let text : List ℕ = whole ++ 46 ∷ decimals in
    let at : point_place text ≡ length whole = point_behind (length whole) text (omega (arith, length-append whole (46 ∷ decimals))) (rw take-append_seam digits) (λ lt. grind (arith, common_steps)) in
    let front : take (point_place text) text ≡ whole = rw at (take-append_seam whole (46 ∷ decimals)) in
    let back : drop (suc (point_place text)) text ≡ decimals = rw at (ap (λ i. drop i text) (sym (add-one (length whole))) ∙ drop-append-add whole (46 ∷ decimals) 1) in
    ap (λ w. made most w (drop (suc (point_place text)) text)) front ∙ ap (λ d. made most whole d) back

-- a number without a sign, printed by its whole part and decimals of this shape
shaped_back : (most n : ℕ) → n < 2 ^ 64 → n ≤ most → Shape (n % 1000) → unsigned_within most (unsigned_text n) ≡ Some n
shaped_back most n small within (inl h) =
    let whole : List ℕ = decimal (n / 1000) in
    let digits = decimal_digits (n / 1000) (omega arith) in
    let spelt : digits_value whole ≡ n / 1000 = decimal_value (n / 1000) (omega arith) in
    let value : thousandths_of whole [] ≡ n = omega (arith, spelt, h.1) in
    ap (λ d. unsigned_within most (whole ++ d)) h.0 ∙ ap (λ t. unsigned_within most t) (append-nil whole) ∙ unsigned_whole most whole digits
    ∙ made_of most whole [] digits refl (decimal_nonempty (n / 1000) (omega arith)) (omega (arith, value)) ∙ ap (λ v. Some v) value
shaped_back most n small within (inr h) =
    let whole : List ℕ = decimal (n / 1000) in
    let digits = decimal_digits (n / 1000) (omega arith) in
    let spelt : digits_value whole ≡ n / 1000 = decimal_value (n / 1000) (omega arith) in
    let value : thousandths_of whole h.0 ≡ n = omega (arith, spelt, h.3) in
    ap (λ d. unsigned_within most (whole ++ d)) h.1 ∙ unsigned_parts most whole h.0 digits
    ∙ made_of most whole h.0 digits h.2 (decimal_nonempty (n / 1000) (omega arith)) (omega (arith, value)) ∙ ap (λ v. Some v) value

-- a printed number without a sign
pub unsigned_back : (n : ℕ) → n < 2 ^ 64 → (most : ℕ) → n ≤ most → unsigned_within most (unsigned_text n) ≡ Some n
unsigned_back n small most within = shaped_back most n small within (decimals_shape (n % 1000) (omega arith))

-- a text that begins with a digit has no sign
unsigned_front : (whole rest : List ℕ) → 0 < length whole → list_all is_digit whole ≡ true → milli_of (whole ++ rest) ≡ option_map pos (unsigned_of (whole ++ rest))
unsigned_front [] rest some digits = absurd (omega arith)
unsigned_front (first ∷ whole) rest some digits =
    let no_plus : (first == 43) ≡ false = grind arith in
    let no_minus : (first == 45) ≡ false = grind arith in
    rw no_plus (rw no_minus refl)

pub milli_back : (value : ℤ) → IsMilli value → milli_of (milli_text value) ≡ Some value
milli_back (pos n) within =
    let small : n ≤ 10 ^ 12 = grind (arith, within.1) in
    unsigned_front (decimal (n / 1000)) (decimals_text (n % 1000)) (decimal_nonempty (n / 1000) (omega arith)) (decimal_digits (n / 1000) (omega arith))
    ∙ ap (λ o. option_map pos o) (unsigned_back n (omega (arith, small)) (10 ^ 12) small)
milli_back (negsuc n) within = let small : n ≤ 10 ^ 12 - 1 = grind (arith, within.0) in rw (unsigned_back (suc n) (omega (arith, small)) (10 ^ 12) (omega (arith, small))) refl
