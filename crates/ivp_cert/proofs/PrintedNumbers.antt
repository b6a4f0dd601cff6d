-- Printed numbers are words, and reading them gives the numbers back.
use Rattle.std.proofs.Common.{◌≡◌, ℕ, suc, ◌-◌, ◌*◌, ◌/◌, ◌%◌, ◌^◌, ◌<◌, ◌≤◌, true, false, ◌==◌, nat_lt, nat_le, Some, List, [], ◌∷◌, length, refl, ap, sym, ◌∙◌, arith, append-nil, length-append}
use Rattle.std.specs.Prelude.{ℤ, pos, negsuc, neg_ℤ, ◌≤ℤ◌, decimal, option_map, option_and_then}
use Rattle.std.specs.Fmt.{signed_decimal}
use Rattle.std.specs.List.{list_all, AllByRecursion as Each}
use Rattle.std.proofs.lemmas.Bool.{le-leb, lt-ltb}
use Rattle.std.proofs.lemmas.Fmt.{decimal_nonempty}
use Rattle.moos_io.proofs.Lists.{each_true, each_weaker}
use Rattle.moos_post.specs.Words.{is_digit, IsMilli}
use Rattle.moos_text.specs.Numbers.{decimals_text, digits_value, milli_of, milli_text, unsigned_text, whole_of, whole_part}
use Rattle.moos_text.proofs.PrintedDigits.{decimal_digits, decimal_value, milli_bytes, unsigned_bytes}
use Rattle.moos_text.proofs.RoundTrip.{milli_back, unsigned_back}
use Rattle.ivp_cert.specs.Decisions.{sum_word}
use Rattle.ivp_cert.specs.Words.{integer_of, natural_of, place_of}
use Rattle.ivp_cert.proofs.PrintedLines.{IsWord}

-- a printed number within its bound
pub natural_back : (most n : ℕ) → n ≤ most → n < 2 ^ 64 → natural_of most (decimal n) ≡ Some n
natural_back most n within small =
    let some : nat_lt 0 (length (decimal n)) ≡ true = lt-ltb 0 (length (decimal n)) (decimal_nonempty n small) in
    let fits : nat_le (digits_value (decimal n)) most ≡ true = ap (λ v. nat_le v most) (decimal_value n small) ∙ le-leb n most within in
    rw (some, decimal_digits n small, fits) (ap Some (decimal_value n small))

pub place_back : (n : ℕ) → n < 2 ^ 32 → place_of (decimal n) ≡ Some n
place_back n small = natural_back (2 ^ 32 - 1) n (omega (arith, small)) (omega (arith, small))

-- one that may be below zero
no_minus : (most : ℕ) (text : List ℕ) → 0 < length text → list_all is_digit text ≡ true → integer_of most text ≡ option_map pos (natural_of most text)
no_minus most [] some all = absurd (omega (arith, some))
no_minus most (first ∷ rest) some all = let plain : (first == 45) ≡ false = grind arith in rw plain refl

pub integer_back : (most : ℕ) (z : ℤ) → most < 2 ^ 63 → neg_ℤ (pos most) ≤ℤ z → z ≤ℤ pos most → integer_of most (signed_decimal z) ≡ Some z
integer_back most (pos n) small low high =
    let within : n ≤ most = grind (arith, high) in
    no_minus most (decimal n) (decimal_nonempty n (omega (arith, within, small))) (decimal_digits n (omega (arith, within, small)))
    ∙ ap (λ o. option_map pos o) (natural_back most n within (omega (arith, within, small)))
integer_back most (negsuc n) small low high =
    let within : suc n ≤ most = grind (arith, low) in
    rw (natural_back most (suc n) within (omega (arith, within, small))) refl

-- a whole number in the grammar of numbers
pub whole_text : (n : ℕ) → milli_text (pos (n * 1000)) ≡ decimal n
whole_text n =
    let quotient : n * 1000 / 1000 ≡ n = omega arith in
    let rest : n * 1000 % 1000 ≡ 0 = omega arith in
    rw (quotient, rest) (append-nil (decimal n))

pub whole_back : (n : ℕ) → n ≤ 10 ^ 9 → whole_of (decimal n) ≡ Some n
whole_back n small =
    let in_range : IsMilli (pos (n * 1000)) = (grind arith, grind arith) in
    let quotient : n * 1000 / 1000 ≡ n = omega arith in
    let rest : n * 1000 % 1000 ≡ 0 = omega arith in
    ap (λ t. option_and_then whole_part (milli_of t)) (sym (whole_text n)) ∙ ap (λ o. option_and_then whole_part o) (milli_back (pos (n * 1000)) in_range)
    ∙ rw (rest, quotient) refl

-- thousandths without a sign, in the grammar of numbers with a sign and of those without
pub weight_back : (n : ℕ) → n ≤ 10 ^ 12 → milli_of (unsigned_text n) ≡ Some (pos n)
weight_back n small = milli_back (pos n) (grind arith, grind (arith, small))

pub sum_back : (n : ℕ) → n ≤ 64 * 10 ^ 12 → sum_word (unsigned_text n) ≡ Some n
sum_back n few = unsigned_back n (omega (arith, few)) (64 * 10 ^ 12) few

-- a byte that stands in a field: visible, and no `:`
pub record InField (byte : ℕ) : Type 0 where
  pub ink : 33 ≤ byte
  pub apart : (byte == 58) ≡ false

digit_field : (byte : ℕ) → is_digit byte ≡ true → InField byte
digit_field byte digit = record { ink = grind arith; apart = grind arith }

pub decimal_field : (n : ℕ) → n < 2 ^ 64 → Each InField (decimal n)
decimal_field n small = each_weaker (λ byte. is_digit byte ≡ true) InField digit_field (decimal n) (each_true is_digit (decimal n) (decimal_digits n small))

pub unsigned_field : (n : ℕ) → n < 2 ^ 64 → Each InField (unsigned_text n)
unsigned_field n small = unsigned_bytes InField digit_field (record { ink = omega arith; apart = refl }) n small

pub milli_field : (z : ℤ) → IsMilli z → Each InField (milli_text z)
milli_field z within = milli_bytes InField digit_field (record { ink = omega arith; apart = refl }) (record { ink = omega arith; apart = refl }) z within

pub ink_of : (text : List ℕ) → Each InField text → Each (λ byte. 33 ≤ byte) text
ink_of text each = each_weaker InField (λ byte. 33 ≤ byte) (λ byte is. is.ink) text each

-- printed numbers are words
pub decimal_word : (n : ℕ) → n < 2 ^ 64 → IsWord (decimal n)
decimal_word n small = record { some = decimal_nonempty n small; ink = ink_of (decimal n) (decimal_field n small) }

pub unsigned_word : (n : ℕ) → n < 2 ^ 64 → IsWord (unsigned_text n)
unsigned_word n small = record {
  some = omega (arith, length-append (decimal (n / 1000)) (decimals_text (n % 1000)), decimal_nonempty (n / 1000) (omega (arith, small)));
  ink = ink_of (unsigned_text n) (unsigned_field n small);
}

pub signed_word : (most : ℕ) (z : ℤ) → most < 2 ^ 63 → neg_ℤ (pos most) ≤ℤ z → z ≤ℤ pos most → IsWord (signed_decimal z)
signed_word most (pos n) small low high = let within : n ≤ most = grind (arith, high) in decimal_word n (omega (arith, within, small))
signed_word most (negsuc n) small low high =
    let within : suc n ≤ most = grind (arith, low) in
    record { some = omega arith; ink = (omega arith, ink_of (decimal (suc n)) (decimal_field (suc n) (omega (arith, within, small)))) }
