-- The numbers of every file and of the report: what a text stands for, and what a number prints as, in thousandths.
use Rattle.std.specs.Prelude.{ℕ, suc, ◌+◌, ◌-◌, ◌*◌, ◌/◌, ◌%◌, ◌^◌, ℤ, pos, negsuc, neg_ℤ, Bool, ◌&&◌, ◌==◌, nat_le, if◌then◌else◌, List, [], ◌∷◌, ◌++◌, length, take, drop, fold, codes, decimal, Option, Some, None, option_map, option_and_then}
use Rattle.std.specs.List.{list_all, position_or_len}
use Rattle.moos_post.specs.Words.{is_digit}

-- the number that digits spell, the most significant first
abbrev pub digits_value : List ℕ → ℕ
digits_value digits = fold (λ value digit. value * 10 + (digit - 48)) 0 digits

-- the whole part and three decimals, as thousandths; further decimals are dropped
abbrev pub thousandths_of : List ℕ → List ℕ → ℕ
thousandths_of whole decimals = digits_value whole * 1000 + digits_value (take 3 (decimals ++ codes "000"))

-- the whole part and the decimals of a number: digits both, one at least in all, of a value of at most `most` thousandths
abbrev pub is_numeral : ℕ → List ℕ → List ℕ → Bool
is_numeral most whole decimals =
    list_all is_digit whole && list_all is_digit decimals && nat_le 1 (length whole + length decimals)
    && nat_le (thousandths_of whole decimals) most

-- where the first point is, or the end
abbrev pub point_place : List ℕ → ℕ
point_place text = position_or_len (λ byte. byte == 46) text

-- a number without a sign, of at most `most` thousandths: digits with at most one point
abbrev pub unsigned_within : ℕ → List ℕ → Option ℕ
unsigned_within most text =
    let whole = take (point_place text) text in
    let decimals = drop (suc (point_place text)) text in
    if is_numeral most whole decimals then Some (thousandths_of whole decimals) else None

-- a number without a sign, of at most 10^12 thousandths
abbrev pub unsigned_of : List ℕ → Option ℕ
unsigned_of text = unsigned_within (10 ^ 12) text

-- The number that a text stands for, in thousandths: a sign or none, and then a number without a sign.
abbrev pub milli_of : List ℕ → Option ℤ
milli_of [] = None
milli_of (first ∷ rest) =
    if first == 43 then option_map pos (unsigned_of rest)
    else if first == 45 then option_map (λ n. neg_ℤ (pos n)) (unsigned_of rest)
    else option_map pos (unsigned_of (first ∷ rest))

-- thousandths that are a whole number, not below zero
abbrev pub whole_part : ℤ → Option ℕ
whole_part (pos n) = if n % 1000 == 0 then Some (n / 1000) else None
whole_part (negsuc n) = None

-- the whole number, not below zero, that a text stands for: a number without thousandths; as in every number further decimals are
-- dropped, so `12.0004` is 12
abbrev pub whole_of : List ℕ → Option ℕ
whole_of text = option_and_then whole_part (milli_of text)

-- a digit as its byte
abbrev pub digit_text : ℕ → List ℕ
digit_text digit = (48 + digit) ∷ []

-- a number below 1,000 as a point and its decimals without trailing zeros, and nothing if it is 0
abbrev pub decimals_text : ℕ → List ℕ
decimals_text rest =
    if rest == 0 then []
    else if rest % 100 == 0 then codes "." ++ digit_text (rest / 100)
    else if rest % 10 == 0 then codes "." ++ digit_text (rest / 100) ++ digit_text (rest / 10 % 10)
    else codes "." ++ digit_text (rest / 100) ++ digit_text (rest / 10 % 10) ++ digit_text (rest % 10)

-- thousandths without a sign as they print: the whole part without leading zeros, and the decimals without trailing zeros
abbrev pub unsigned_text : ℕ → List ℕ
unsigned_text n = decimal (n / 1000) ++ decimals_text (n % 1000)

-- What a number of thousandths prints as.
abbrev pub milli_text : ℤ → List ℕ
milli_text (pos n) = unsigned_text n
milli_text (negsuc n) = codes "-" ++ unsigned_text (suc n)
