-- Lines, words, numbers and refusals worked by hand.
use Rattle.std.proofs.Common.{◌≡◌, ℕ, zero, suc, [], ◌∷◌, length, refl, ap, arith}
use Rattle.std.specs.Prelude.{pos, negsuc, codes, Some, None, Result, Ok, Err, true, false}
use Rattle.std.specs.Fmt.{digits}
use Rattle.moos_text.specs.Lines.{raw_lines, behind_word, content_of, first_line, first_word, is_unclosed, trimmed, words_of}
use Rattle.moos_text.specs.Numbers.{milli_of, milli_text, unsigned_within}
use Rattle.moos_text.specs.Pairs.{pair_of, parts_of}
use Rattle.moos_text.specs.Reading.{IsFront, IsParted}
use Rattle.moos_text.specs.Refusals.{and_then, fault_at, IsFirst, IsLineFault}
use Rattle.moos_text.specs.declared.cause.Cause.{Cause}
use Rattle.moos_text.specs.declared.cause.Cause.TheVariants.{S2, S3}
use Rattle.moos_text.specs.declared.cause.LineFault.TheVariants.{Refused, NoMemory as OutOfMemory}
use Rattle.moos_text.specs.declared.cause.ReadFault.{ReadFault}
use Rattle.moos_text.specs.declared.cause.ReadFault.TheVariants.{At, NoMemory}
use Rattle.moos_text.specs.declared.pair.PairFault.TheVariants.{BadName, BadValue}
use Rattle.moos_post.specs.declared.value.Value.TheVariants.{Num, Text}

lines_end : raw_lines (codes "a\nb\n") ≡ codes "a" ∷ codes "b" ∷ []
lines_end = refl

last_line : raw_lines (codes "a\n\nb") ≡ codes "a" ∷ [] ∷ codes "b" ∷ []
last_line = refl

-- The first line ends at the first line feed, or with the file.
first_of_two : first_line (codes "a b\nc\n") ≡ codes "a b"
first_of_two = refl

first_and_last : first_line (codes "ab") ≡ codes "ab"
first_and_last = refl

empty_first : first_line (codes "\nab") ≡ []
empty_first = refl

quoted_slashes : content_of (codes "a \"//\" b // c\r") ≡ codes "a \"//\" b "
quoted_slashes = refl

open_quote : is_unclosed (codes "a \"b") ≡ true
open_quote = refl

two_blanks : words_of (codes "  ab \tc ") ≡ codes "ab" ∷ codes "c" ∷ []
two_blanks = refl

word_and_rest : (first_word (codes "  ab \tc ") ≡ codes "ab") × (behind_word (codes "  ab \tc ") ≡ codes " \tc ")
word_and_rest = (refl, refl)

no_word : (first_word (codes " \t") ≡ []) × (behind_word (codes " \t") ≡ [])
no_word = (refl, refl)

both_ends : trimmed (codes " a b\t") ≡ codes "a b"
both_ends = refl

decimals : milli_of (codes "2.5") ≡ Some (pos 2500)
decimals = refl

toward_zero : milli_of (codes "-0.0009") ≡ Some (pos 0)
toward_zero = refl

greatest : milli_of (codes "1000000000.0009") ≡ Some (pos 1000000000000)
greatest = refl

too_great : milli_of (codes "1000000001") ≡ None
too_great = refl

exponent : milli_of (codes "1e3") ≡ None
exponent = refl

no_whole_part : milli_of (codes ".5") ≡ Some (pos 500)
no_whole_part = refl

no_decimals : milli_of (codes "+5.") ≡ Some (pos 5000)
no_decimals = refl

no_digit : milli_of (codes "-.") ≡ None
no_digit = refl

two_points : milli_of (codes "1.2.3") ≡ None
two_points = refl

-- a number without a sign has its own bound, which is judged without further decimals
own_bound : (unsigned_within 64000 (codes "64.0009") ≡ Some 64000) × (unsigned_within 64000 (codes "64.001") ≡ None) × (unsigned_within 64000 (codes "+1") ≡ None)
own_bound = (refl, refl, refl)

printed : milli_text (negsuc 1049) ≡ codes "-1.05"
unfolding digits
printed = refl

printed_small : milli_text (pos 7) ≡ codes "0.007"
unfolding digits
printed_small = refl

printed_whole : milli_text (pos 40000) ≡ codes "40"
unfolding digits
printed_whole = refl

number_pair : pair_of (codes " X\t= -1.5 ") ≡ Ok (record { var = codes "X"; value = Num (negsuc 1499) })
number_pair = refl

text_pair : pair_of (codes "X:=1.5") ≡ Ok (record { var = codes "X"; value = Text (codes "1.5") })
text_pair = refl

quoted_pair : pair_of (codes "X=\" a=b \"") ≡ Ok (record { var = codes "X"; value = Text (codes " a=b ") })
quoted_pair = refl

third_quote : pair_of (codes "X=\"a\"\"") ≡ Err BadValue
third_quote = refl

apart_colon : pair_of (codes "X : = 1") ≡ Err BadName
apart_colon = refl

three_parts : parts_of (codes "A=\"#\"#B=1#") ≡ codes "A=\"#\"" ∷ codes "B=1" ∷ [] ∷ []
three_parts = refl

-- The digits at the front of 12.5 are the first two: not one alone, and not the point too.
front : IsFront 2 (codes "12.5")
front = record { within = omega arith; digits = refl; ends = λ more. refl }

digit_left : IsFront 1 (codes "12.5") → ⊥
digit_left found = let ends : true ≡ false = found.ends (omega arith) in cc

no_digit_more : IsFront 3 (codes "12.5") → ⊥
no_digit_more found = let digits : false ≡ true = found.digits in cc

all_digits : IsFront 2 (codes "12")
all_digits = record { within = omega arith; digits = refl; ends = λ more. absurd (omega (arith, more)) }

-- The decimals stand behind the first point, and there are none where there is no point.
parted : IsParted (codes "12.5") 2 (codes "5")
parted = record { point = refl; rest = refl }

first_point : IsParted (codes "1.2.5") 1 (codes "2.5")
first_point = record { point = refl; rest = refl }

no_point : IsParted (codes "12") 2 []
no_point = record { point = refl; rest = refl }

point_among_digits : IsParted (codes "12.5") 3 (codes "5") → ⊥
point_among_digits found = omega (arith, found.point)

past_the_end : IsParted (codes "12") 3 [] → ⊥
past_the_end found = omega (arith, found.point)

point_among_decimals : IsParted (codes "12.5") 2 (codes ".5") → ⊥
point_among_decimals found = omega (arith, ap length found.rest)

-- A file that is refused at line 2 for its stamp: no other line and no other cause is its first refusal.
abbrev refused : Result ℕ ReadFault
refused = Err (At 2 S2)

is_first : IsFirst (At 2 S2) refused
is_first = refl

other_line : IsFirst (At 3 S2) refused → ⊥
other_line same = cc

other_cause : IsFirst (At 2 S3) refused → ⊥
other_cause same = cc

-- A file that is read has no first refusal. Without memory a reader says nothing of the file.
abbrev good : Result ℕ ReadFault
good = Ok 5

none_of_good : IsFirst (At 2 S2) good → ⊥
none_of_good same = cc

no_memory : IsFirst NoMemory refused × IsFirst NoMemory good
no_memory = (tt, tt)

-- The same of one line.
abbrev refused_line : Result ℕ Cause
refused_line = Err S2

is_line_fault : IsLineFault (Refused S2) refused_line
is_line_fault = refl

other_fault : IsLineFault (Refused S3) refused_line → ⊥
other_fault same = cc

abbrev good_line : Result ℕ Cause
good_line = Ok 5

none_of_good_line : IsLineFault (Refused S2) good_line → ⊥
none_of_good_line same = cc

no_memory_for_line : IsLineFault OutOfMemory refused_line × IsLineFault OutOfMemory good_line
no_memory_for_line = (tt, tt)

numbered : (fault_at 7 (Refused S2) ≡ At 7 S2) × (fault_at 7 OutOfMemory ≡ NoMemory)
numbered = (refl, refl)

-- What follows a good value is done with it, and a refusal stays.
abbrev one_less : ℕ → Result ℕ Cause
one_less zero = Err S3
one_less (suc n) = Ok n

followed : (and_then one_less good_line ≡ Ok 4) × (and_then one_less (Ok 0) ≡ Err S3) × (and_then one_less refused_line ≡ Err S2)
followed = (refl, refl, refl)
