-- Where the point of a number stands, and what digits spell.
use Rattle.std.proofs.Common.{◌≡◌, ◌≢◌, ℕ, zero, suc, ◌+◌, ◌-◌, ◌*◌, ◌<◌, ◌≤◌, Bool, true, false, ◌==◌, ◌&&◌, cond, nat_le, List, [], ◌∷◌, length, take, drop, get_or, refl, sym, arith}
use Rattle.std.specs.Prelude.{IfSome, None, Some}
use Rattle.std.specs.List.{list_all}
use Rattle.std.proofs.lemmas.Bool.{and_parts, leb-true}
use Rattle.std.proofs.lemmas.List.{take_all, length-drop}
use Rattle.std.proofs.lemmas.List.Sums.{fold_more}
use Rattle.moos_post.specs.Words.{is_digit}
use Rattle.moos_text.specs.Numbers.{digits_value, is_numeral, point_place, thousandths_of, unsigned_within}
use Rattle.moos_text.specs.Reading.{IsFront, IsParted}

-- one digit more
pub value_more : (text : List ℕ) (i : ℕ) → i < length text → digits_value (take (i + 1) text) ≡ digits_value (take i text) * 10 + (get_or text i 0 - 48)
value_more text i lt = fold_more (λ value digit. value * 10 + (digit - 48)) 0 text i 0 lt

no_point : (byte : ℕ) → is_digit byte ≡ true → (byte == 46) ≡ false
no_point byte digit = grind arith

-- the point stands right behind the digits at the front
pub point_behind : (count : ℕ) (text : List ℕ) → count ≤ length text → list_all is_digit (take count text) ≡ true → (count < length text → get_or text count 0 ≡ 46) → point_place text ≡ count
point_behind zero [] within digits point = refl
point_behind zero (byte ∷ text) within digits point = let here : byte ≡ 46 = point (omega arith) in grind arith
point_behind (suc count) [] within digits point = absurd (omega arith)
point_behind (suc count) (byte ∷ text) within digits point =
    let further : point_place text ≡ count = point_behind count text (omega arith) (grind arith) (λ lt. point (omega arith)) in
    let none : (byte == 46) ≡ false = no_point byte (grind arith) in grind arith

-- where another byte stands behind them, not all that stands before the point are digits
no_digits : (count : ℕ) (text : List ℕ) → count < length text → list_all is_digit (take count text) ≡ true → get_or text count 0 ≢ 46 → is_digit (get_or text count 0) ≡ false → list_all is_digit (take (point_place text) text) ≡ false
no_digits count [] within digits other none = absurd (omega arith)
no_digits zero (byte ∷ text) within digits other none =
    let here : point_place (byte ∷ text) ≡ suc (point_place text) = grind arith in rw here (rw none refl)
no_digits (suc count) (byte ∷ text) within digits other none =
    let digit : is_digit byte ≡ true = grind arith in
    let further : list_all is_digit (take (point_place text) text) ≡ false = no_digits count text (omega arith) (grind arith) other none in
    let here : point_place (byte ∷ text) ≡ suc (point_place text) = grind (arith, no_point byte digit) in rw here (rw further (rw digit refl))

-- the parts on both sides of the point
pub parted : (count : ℕ) (text decimals : List ℕ) → IsFront count text → (count < length text → get_or text count 0 ≡ 46) → drop (suc count) text ≡ decimals → IsParted text count decimals
parted count text decimals front point rest = record { point = point_behind count text front.within front.digits point; rest = rest }

-- another byte than a point behind the digits makes no number
pub unparted : (count : ℕ) (text : List ℕ) → IsFront count text → count < length text → get_or text count 0 ≢ 46 → (most : ℕ) → unsigned_within most text ≡ None
unparted count text front within other most =
    let none : list_all is_digit (take (point_place text) text) ≡ false = no_digits count text within front.digits other (front.ends within) in rw none refl

-- what a slice from a place to the end holds
pub from_place : (i : ℕ) (text : List ℕ) → drop i text ≡ take (length text - i) (drop i text)
from_place i text = sym (take_all (length text - i) (drop i text) (omega (arith, length-drop i text)))

-- a number without a sign is within its bound
pub unsigned_most : (most : ℕ) (text : List ℕ) → IfSome (unsigned_within most text) (λ n. n ≤ most)
unsigned_most most text = at (is_numeral most whole decimals) refl
  where
    whole : List ℕ
    whole = take (point_place text) text

    decimals : List ℕ
    decimals = drop (suc (point_place text)) text

    at : (b : Bool) → is_numeral most whole decimals ≡ b → IfSome (cond b (Some (thousandths_of whole decimals)) None) (λ n. n ≤ most)
    at true good =
        leb-true (thousandths_of whole decimals) most
        (and_parts (list_all is_digit whole && list_all is_digit decimals && nat_le 1 (length whole + length decimals)) (nat_le (thousandths_of whole decimals) most) good).1
    at false bad = tt
