-- What a printed number is made of: digits, and decimals behind a point where there are any.
use Rattle.std.proofs.Common.{◌≡◌, ℕ, suc, ◌+◌, ◌-◌, ◌*◌, ◌/◌, ◌%◌, ◌^◌, ◌<◌, ◌≤◌, ◌⊎◌, inl, inr, Bool, true, false, ◌==◌, List, [], ◌∷◌, ◌++◌, take, refl, arith}
use Rattle.std.specs.Prelude.{All, ℤ, pos, negsuc, codes, decimal, fold}
use Rattle.std.specs.List.{list_all, AllByRecursion as Each}
use Rattle.std.proofs.lemmas.Fmt.{digits_decimal, digits_value-decimal}
use Rattle.std.proofs.lemmas.List.Elements.{All-append, All-cons, All-nil, All-weaker, recursion_from_All}
use Rattle.std.proofs.lemmas.List.Sums.{AllPass-from_list_all}
use Rattle.std.proofs.lemmas.Str.Parse.{IsNumeralModel, IsDigitsTest, numerals_by_fold}
use Rattle.moos_post.specs.Words.{is_digit, IsMilli}
use Rattle.moos_text.specs.Numbers.{decimals_text, digits_value, milli_text, unsigned_text}

digits_test : IsDigitsTest (λ text. list_all is_digit text ≡ true)
digits_test = record {
  empty = refl;
  parts = λ byte text digits. (grind arith, grind arith);
  more = λ byte text digit digits. grind arith;
}

own : IsNumeralModel (λ text. list_all is_digit text ≡ true) digits_value
own = numerals_by_fold (λ text. list_all is_digit text ≡ true) digits_test (fold (λ value digit. value * 10 + (digit - 48))) (record { empty = λ n. refl; more = λ n byte text digit. refl })

-- a printed whole number is digits, which spell it
pub decimal_digits : (n : ℕ) → n < 2 ^ 64 → list_all is_digit (decimal n) ≡ true
decimal_digits n small = digits_decimal own n small

pub decimal_value : (n : ℕ) → n < 2 ^ 64 → digits_value (decimal n) ≡ n
decimal_value n small = digits_value-decimal own n small

-- the decimals of a number below 1,000: none where it is 0, and else digits behind a point that stand for it
abbrev pub Shape : ℕ → Type 0
Shape rest = ((decimals_text rest ≡ []) × (rest ≡ 0))
    ⊎ ((decimals : List ℕ) × (decimals_text rest ≡ 46 ∷ decimals) × (list_all is_digit decimals ≡ true) × (digits_value (take 3 (decimals ++ codes "000")) ≡ rest))

glyph : (digit : ℕ) → digit < 10 → is_digit (48 + digit) ≡ true
glyph digit small = grind arith

pub decimals_shape : (rest : ℕ) → rest < 1000 → Shape rest
decimals_shape rest small = by (rest == 0) (rest % 100 == 0) (rest % 10 == 0) refl refl refl
  where
    by : (none tenths hundredths : Bool) → (rest == 0) ≡ none → (rest % 100 == 0) ≡ tenths → (rest % 10 == 0) ≡ hundredths → Shape rest
    by true tenths hundredths e0 e1 e2 = inl (rw e0 refl, grind arith)
    by false true hundredths e0 e1 e2 =
        let a = glyph (rest / 100) (omega arith) in
        let even : rest % 100 ≡ 0 = grind arith in
        inr ((48 + rest / 100) ∷ [], rw e0 (rw e1 refl), rw a refl, omega (arith, even))
    by false false true e0 e1 e2 =
        let a = glyph (rest / 100) (omega arith) in
        let b = glyph (rest / 10 % 10) (omega arith) in
        let even : rest % 10 ≡ 0 = grind arith in
        inr ((48 + rest / 100) ∷ (48 + rest / 10 % 10) ∷ [], rw e0 (rw e1 (rw e2 refl)), rw a (rw b refl), omega (arith, even))
    by false false false e0 e1 e2 =
        let a = glyph (rest / 100) (omega arith) in
        let b = glyph (rest / 10 % 10) (omega arith) in
        let d = glyph (rest % 10) (omega arith) in
        inr ((48 + rest / 100) ∷ (48 + rest / 10 % 10) ∷ (48 + rest % 10) ∷ [], rw e0 (rw e1 (rw e2 refl)), rw a (rw b (rw d refl)), omega arith)

-- what holds of each digit and of the point holds of each byte of a number in thousandths
pub unsigned_bytes : (P : ℕ → Type 0) → ((byte : ℕ) → is_digit byte ≡ true → P byte) → P 46 → (n : ℕ) → n < 2 ^ 64 → Each P (unsigned_text n)
unsigned_bytes P digit point n small =
    recursion_from_All P (unsigned_text n)
    (All-append P (decimal (n / 1000)) (decimals_text (n % 1000)) (all (decimal (n / 1000)) (decimal_digits (n / 1000) (omega (arith, small)))) (behind (decimals_shape (n % 1000) (omega arith))))
  where
    all : (text : List ℕ) → list_all is_digit text ≡ true → All P text
    all text digits = All-weaker (λ byte. is_digit byte ≡ true) P digit text (AllPass-from_list_all is_digit text digits)

    behind : Shape (n % 1000) → All P (decimals_text (n % 1000))
    behind (inl h) = rw h.0 (All-nil P)
    behind (inr h) = rw h.1 (All-cons P 46 h.0 point (all h.0 h.2))

-- and where it holds of the minus, of each byte of a number with its sign
pub milli_bytes : (P : ℕ → Type 0) → ((byte : ℕ) → is_digit byte ≡ true → P byte) → P 46 → P 45 → (z : ℤ) → IsMilli z → Each P (milli_text z)
milli_bytes P digit point minus (pos n) within = let small : n ≤ 10 ^ 12 = grind (arith, within.1) in unsigned_bytes P digit point n (omega (arith, small))
milli_bytes P digit point minus (negsuc n) within = let small : n ≤ 10 ^ 12 - 1 = grind (arith, within.0) in (minus, unsigned_bytes P digit point (suc n) (omega (arith, small)))
