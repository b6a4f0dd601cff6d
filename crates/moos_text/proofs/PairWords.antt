-- What a text says that stands for a pair: a name, and a value as its type lets it be.
use Rattle.std.proofs.Common.{◌≡◌, ℕ, ◌+◌, ◌^◌, ◌≤◌, Bool, true, false, ◌==◌, cond, nat_le, nat_lt, List, [], ◌∷◌, length, Some, None, refl, arith}
use Rattle.std.specs.Prelude.{ℤ, pos, neg_ℤ, Option, option_map, is_none, is_some, Result, Ok, Err, IfOk, IfSome, IsTrue}
use Rattle.std.specs.List.{before_first, after_first, position_or_len}
use Rattle.std.proofs.lemmas.Bool.{and_from, le-leb, ltb-false}
use Rattle.std.proofs.lemmas.Int.{ints}
use Rattle.moos_post.specs.declared.value.Value.{Value}
use Rattle.moos_post.specs.declared.value.Value.TheVariants.{Text}
use Rattle.moos_post.specs.Entries.{IsPair, IsValue}
use Rattle.moos_post.specs.Words.{control_place, is_name, IsMilli}
use Rattle.moos_text.specs.declared.pair.PairFault.{PairFault}
use Rattle.moos_text.specs.declared.pair.PairFault.TheVariants.{NoEquals, BadName, BadValue, TooLong}
use Rattle.moos_text.specs.Lines.{trimmed, without_last, ends_with}
use Rattle.moos_text.specs.Numbers.{milli_of, unsigned_of}
use Rattle.moos_text.specs.Pairs.{is_equals, is_quote, pair_of, plain_value, quoted_value, sides_pair, text_value, written_value, with_value}
use Rattle.moos_text.proofs.Judging.{cond_good}
use Rattle.moos_text.proofs.Numerals.{unsigned_most}

pub number_is : (text : List ℕ) → IfSome (milli_of text) IsMilli
number_is [] = tt
number_is (first ∷ rest) = by (first == 43) (first == 45)
  where
    above : (number : Option ℕ) → IfSome number (λ n. n ≤ 10 ^ 12) → IfSome (option_map pos number) IsMilli
    above None small = tt
    above (Some n) small = (omega (arith, ints), omega (arith, ints, small))

    below : (number : Option ℕ) → IfSome number (λ n. n ≤ 10 ^ 12) → IfSome (option_map (λ n. neg_ℤ (pos n)) number) IsMilli
    below None small = tt
    below (Some n) small = (omega (arith, ints, small), omega (arith, ints))

    by : (plus minus : Bool) → IfSome (cond plus (option_map pos (unsigned_of rest)) (cond minus (option_map (λ n. neg_ℤ (pos n)) (unsigned_of rest)) (option_map pos (unsigned_of (first ∷ rest))))) IsMilli
    by true minus = above (unsigned_of rest) (unsigned_most (10 ^ 12) rest)
    by false true = below (unsigned_of rest) (unsigned_most (10 ^ 12) rest)
    by false false = above (unsigned_of (first ∷ rest)) (unsigned_most (10 ^ 12) (first ∷ rest))

pub text_is : (bytes : List ℕ) → IfOk (text_value bytes) IsValue
text_is bytes =
    cond_good IsValue (is_some (control_place bytes)) (Err BadValue) (cond (nat_lt 4096 (length bytes)) (Err TooLong) (Ok (Text bytes))) (λ _. tt)
    (λ clean. cond_good IsValue (nat_lt 4096 (length bytes)) (Err TooLong) (Ok (Text bytes)) (λ _. tt)
    (λ short. and_from (nat_le (length bytes) 4096) (is_none (control_place bytes)) (le-leb (length bytes) 4096 (ltb-false 4096 (length bytes) short)) (none (control_place bytes) clean)))
  where
    none : (place : Option ℕ) → is_some place ≡ false → is_none place ≡ true
    none None clean = refl
    none (Some place) clean = absurd cc

quoted_is : (rest : List ℕ) → IfOk (quoted_value rest) IsValue
quoted_is rest =
    cond_good IsValue (position_or_len is_quote rest + 1 == length rest) (text_value (before_first is_quote rest)) (Err BadValue) (λ _. text_is (before_first is_quote rest)) (λ _. tt)

pub plain_is : (number : Option ℤ) (bytes : List ℕ) → IfSome number IsMilli → IfOk (plain_value number bytes) IsValue
plain_is (Some number) bytes is = is
plain_is None bytes is = text_is bytes

value_is : (as_text : Bool) (bytes : List ℕ) → IfOk (written_value as_text bytes) IsValue
value_is as_text [] = tt
value_is as_text (first ∷ rest) = by (is_quote first) as_text
  where
    by : (quoted as_text : Bool) → IfOk (cond quoted (quoted_value rest) (cond as_text (text_value (first ∷ rest)) (plain_value (milli_of (first ∷ rest)) (first ∷ rest)))) IsValue
    by true as_text = quoted_is rest
    by false true = text_is (first ∷ rest)
    by false false = plain_is (milli_of (first ∷ rest)) (first ∷ rest) (number_is (first ∷ rest))

sides_are : (var : List ℕ) (as_text : Bool) (value : List ℕ) → IfOk (sides_pair var as_text value) IsPair
sides_are var as_text value =
    cond_good IsPair (is_name var) (with_value var (written_value as_text value)) (Err BadName) (λ name. with name (written_value as_text value) (value_is as_text value)) (λ _. tt)
  where
    with : IsTrue (is_name var) → (r : Result Value PairFault) → IfOk r IsValue → IfOk (with_value var r) IsPair
    with name (Ok value) is = record { var = name; value = is }
    with name (Err fault) is = tt

pub pair_is : (text : List ℕ) → IfOk (pair_of text) IsPair
pair_is text =
    cond_good IsPair (nat_lt (position_or_len is_equals text) (length text)) (sides_pair (trimmed (without_last 58 side)) (ends_with 58 side) (trimmed (after_first is_equals text))) (Err NoEquals)
    (λ _. sides_are (trimmed (without_last 58 side)) (ends_with 58 side) (trimmed (after_first is_equals text))) (λ _. tt)
  where
    side : List ℕ
    side = before_first is_equals text
