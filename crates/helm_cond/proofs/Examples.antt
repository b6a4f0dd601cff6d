-- Conditions worked by hand.
use Rattle.std.proofs.Common.{◌≡◌, ℕ, ◌*◌, true, false, List, [], ◌∷◌, ◌++◌, Some, None, refl}
use Rattle.std.specs.Prelude.{Bool, pos, neg_ℤ, codes, replicate, Option, option_map, is_none}
use Rattle.moos_post.specs.declared.value.Pair.{Pair}
use Rattle.moos_post.specs.declared.value.Value.{Value}
use Rattle.moos_post.specs.declared.value.Value.TheVariants.{Num, Text}
use Rattle.helm_cond.specs.declared.operator.Operator.{Operator}
use Rattle.helm_cond.specs.declared.operator.Operator.TheVariants.{Equal, Unequal, Below, AtMost, Above, AtLeast}
use Rattle.helm_cond.specs.Learnt.{Knowledge, latest_of}
use Rattle.helm_cond.specs.Conditions.{Condition, Compare, Not, And, Or, holds, parent_of, names_in}
use Rattle.helm_cond.specs.Grammar.{condition_of}

abbrev pair : List ℕ → Value → Pair
pair var value = record { var = var; value = value }

abbrev number : ℕ → Value
number units = Num (pos (1000 * units))

-- a comparison of a variable
abbrev compare : List ℕ → Operator → Value → Condition
compare var operator literal = Compare (record { var = var; operator = operator; literal = literal })

-- this variable is 1
abbrev is_one : List ℕ → Condition
is_one var = compare var Equal (number 1)

-- no condition
abbrev refused : List ℕ → Bool
refused text = is_none (condition_of text)

-- `or` binds weakest, then `and`, then `not`; these words ignore case.
binds : condition_of (codes "A=1 or B=1 and not C=1 AND D=1 Or E=1")
    ≡ Some (Or (is_one (codes "A")) (Or (And (And (is_one (codes "B")) (Not (is_one (codes "C")))) (is_one (codes "D"))) (is_one (codes "E"))))
binds = refl

-- Parentheses bind first, and blanks are needed only where words would run together.
groups : condition_of (codes "not(A=1 or(B=1)and C=1)and D=1")
    ≡ Some (And (Not (Or (is_one (codes "A")) (And (is_one (codes "B")) (is_one (codes "C"))))) (is_one (codes "D")))
groups = refl

twice : condition_of (codes "not not X = 1") ≡ Some (Not (Not (is_one (codes "X"))))
twice = refl

-- Each operator, with blanks and without.
equals : condition_of (codes "X = 1") ≡ Some (is_one (codes "X"))
equals = refl

equals_twice : condition_of (codes "X==1") ≡ Some (is_one (codes "X"))
equals_twice = refl

unequal : condition_of (codes " X !=1\t") ≡ Some (compare (codes "X") Unequal (number 1))
unequal = refl

below_one : condition_of (codes "X<1") ≡ Some (compare (codes "X") Below (number 1))
below_one = refl

at_most_one : condition_of (codes "X<= 1") ≡ Some (compare (codes "X") AtMost (number 1))
at_most_one = refl

above_one : condition_of (codes "X >1") ≡ Some (compare (codes "X") Above (number 1))
above_one = refl

at_least_one : condition_of (codes "X >= 1") ≡ Some (compare (codes "X") AtLeast (number 1))
at_least_one = refl

-- A literal in quotes is a text, also where it is a number or empty; one without is a number where it is one.
quoted : condition_of (codes "X = \"3\"") ≡ Some (compare (codes "X") Equal (Text (codes "3")))
quoted = refl

quoted_words : condition_of (codes "X=\"a or (b\"and Y=\"\"")
    ≡ Some (And (compare (codes "X") Equal (Text (codes "a or (b"))) (compare (codes "Y") Equal (Text [])))
quoted_words = refl

plain_text : condition_of (codes "X = a:b#c") ≡ Some (compare (codes "X") Equal (Text (codes "a:b#c")))
plain_text = refl

half : condition_of (codes "X = -0.5") ≡ Some (compare (codes "X") Equal (Num (neg_ℤ (pos 500))))
half = refl

-- After an operator the three words are literals; elsewhere they name no variable.
word_literal : condition_of (codes "X = or") ≡ Some (compare (codes "X") Equal (Text (codes "or")))
word_literal = refl

word_variable : refused (codes "or = 1") ≡ true
word_variable = refl

not_variable : refused (codes "Not = 1") ≡ true
not_variable = refl

-- What is no condition.
empty_text : refused [] ≡ true
empty_text = refl

open_group : refused (codes "(X = abc") ≡ true
open_group = refl

closed_twice : refused (codes "(X = abc))") ≡ true
closed_twice = refl

turned : refused (codes "X=1) or (Y=1") ≡ true
turned = refl

empty_group : refused (codes "()") ≡ true
empty_group = refl

no_literal : refused (codes "X =") ≡ true
no_literal = refl

no_operator : refused (codes "X 1") ≡ true
no_operator = refl

no_name : refused (codes "1X = 1") ≡ true
no_name = refl

no_join : refused (codes "X = 1 Y = 1") ≡ true
no_join = refl

no_right : refused (codes "X = 1 and") ≡ true
no_right = refl

no_left : refused (codes "or X = 1") ≡ true
no_left = refl

two_joins : refused (codes "X = 1 and or Y = 1") ≡ true
two_joins = refl

late_not : refused (codes "X = 1 not") ≡ true
late_not = refl

split_operator : refused (codes "X = = 1") ≡ true
split_operator = refl

long_operator : refused (codes "X === 1") ≡ true
long_operator = refl

turned_operator : refused (codes "X =< 1") ≡ true
turned_operator = refl

open_quote : refused (codes "X = \"a") ≡ true
open_quote = refl

quoted_name : refused (codes "\"X\" = 1") ≡ true
quoted_name = refl

run_on : refused (codes "X = 1and Y = 1") ≡ true
run_on = refl

bad_byte : refused (codes "X = a" ++ 1 ∷ []) ≡ true
bad_byte = refl

long_text : refused (codes "X = " ++ replicate 4097 97) ≡ true
long_text = refl

-- Parentheses nest 64 deep and no deeper, also behind others.
abbrev nested : ℕ → List ℕ
nested deep = replicate deep 40 ++ codes "X=1" ++ replicate deep 41

deepest : condition_of (codes "(X=1)or " ++ nested 64) ≡ Some (Or (is_one (codes "X")) (is_one (codes "X")))
deepest = refl

too_deep : refused (nested 65) ≡ true
too_deep = refl

-- nothing was learnt
abbrev nothing : Knowledge
nothing = latest_of []

-- whether the condition that a text stands for holds
abbrev says : Knowledge → List ℕ → List ℕ → Option Bool
says known mode text = option_map (holds known mode) (condition_of text)

-- The latest value counts, and a variable that was never mailed has none. Names are told apart by case.
abbrev learnt : Knowledge
learnt = latest_of (pair (codes "X") (number 1) ∷ pair (codes "Y") (number 2) ∷ pair (codes "X") (number 3) ∷ pair (codes "Y") (number 4) ∷ [])

latest : learnt (codes "X") ≡ Some (number 3)
latest = refl

unknown : learnt (codes "x") ≡ None
unknown = refl

-- X was never mailed: each comparison is false, and so the contrary of one is true.
never_unequal : says nothing [] (codes "X != 3") ≡ Some false
never_unequal = refl

never_not : says nothing [] (codes "not (X = 3)") ≡ Some true
never_not = refl

never_below : says nothing [] (codes "X < 3 or X >= 3") ≡ Some false
never_below = refl

-- X is the text `abc`.
abbrev text : List ℕ → Option Bool
text condition = says (latest_of (pair (codes "X") (Text (codes "abc")) ∷ [])) [] condition

text_order : text (codes "X < 3") ≡ Some false
text_order = refl

text_above : text (codes "X > 3 or X >= 3 or X <= 3 or X >= abc or X > aaa") ≡ Some false
text_above = refl

text_equal : text (codes "X = ABC") ≡ Some true
text_equal = refl

text_unequal : text (codes "X != 3") ≡ Some true
text_unequal = refl

-- X is 3.
abbrev three : List ℕ → Option Bool
three condition = says (latest_of (pair (codes "X") (number 3) ∷ [])) [] condition

equal : three (codes "X = 3.000") ≡ Some true
equal = refl

text_of_digits : three (codes "X = \"3\"") ≡ Some false
text_of_digits = refl

text_unlike : three (codes "X != \"3\"") ≡ Some true
text_unlike = refl

at_most : three (codes "X <= 3 and not X <= 2.999") ≡ Some true
at_most = refl

below : three (codes "X < 3.001 and not X < 3") ≡ Some true
below = refl

above : three (codes "X > 2.999 and not X > 3") ≡ Some true
above = refl

at_least : three (codes "X >= 3 and not X >= 3.001") ≡ Some true
at_least = refl

-- Both sides count.
both_sides : three (codes "X = 3 and X = 4 or X = 4 and X = 3") ≡ Some false
both_sides = refl

either_left : three (codes "X = 3 or X = 4") ≡ Some true
either_left = refl

either_right : three (codes "X = 4 or X = 3") ≡ Some true
either_right = refl

neither : three (codes "X = 4 or X = 5") ≡ Some false
neither = refl

-- The mode is ACTIVE:SURVEYING:LEG.
abbrev surveying : List ℕ → Option Bool
surveying condition = says nothing (codes "ACTIVE:SURVEYING:LEG") condition

whole : surveying (codes "MODE == active:surveying:leg") ≡ Some true
whole = refl

part : surveying (codes "MODE = Surveying") ≡ Some true
part = refl

parts : surveying (codes "MODE = SURVEYING:LEG") ≡ Some true
parts = refl

apart : surveying (codes "MODE = ACTIVE:LEG") ≡ Some false
apart = refl

half_name : surveying (codes "MODE = SURVEY") ≡ Some false
half_name = refl

too_long : surveying (codes "MODE = SURVEYING:LEG:END") ≡ Some false
too_long = refl

other_mode : surveying (codes "MODE != RETURNING") ≡ Some true
other_mode = refl

mode_order : surveying (codes "MODE <= ACTIVE or MODE < ZZZ or MODE >= ACTIVE or MODE > A") ≡ Some false
mode_order = refl

-- No mode is the empty text or a number; also where there is no mode.
empty : surveying (codes "MODE = \"\"") ≡ Some false
empty = refl

nowhere : says nothing [] (codes "MODE = \"\"") ≡ Some false
nowhere = refl

empty_part : says nothing (codes "A:B") (codes "MODE = A::B") ≡ Some false
empty_part = refl

numbered : surveying (codes "MODE != 3") ≡ Some true
numbered = refl

-- MODE means the helm's mode, also where a post of that name was mailed; `mode` is a variable like any other.
mailed : says (latest_of (pair (codes "MODE") (Text (codes "IDLE")) ∷ [])) (codes "ACTIVE") (codes "MODE = IDLE") ≡ Some false
mailed = refl

lower_case : says (latest_of (pair (codes "mode") (Text (codes "IDLE")) ∷ [])) (codes "ACTIVE") (codes "mode = IDLE") ≡ Some true
lower_case = refl

-- A parent line is a single comparison for equality with the mode.
abbrev parent : List ℕ → Option (Option Value)
parent condition = option_map parent_of (condition_of condition)

one_parent : parent (codes "MODE = ACTIVE") ≡ Some (Some (Text (codes "ACTIVE")))
one_parent = refl

grouped_parent : parent (codes "((MODE == A:B))") ≡ Some (Some (Text (codes "A:B")))
grouped_parent = refl

no_parent : parent (codes "not MODE = ACTIVE") ≡ Some None
no_parent = refl

unequal_parent : parent (codes "MODE != ACTIVE") ≡ Some None
unequal_parent = refl

joined_parent : parent (codes "MODE = ACTIVE and X = 1") ≡ Some None
joined_parent = refl

other_parent : parent (codes "MODES = ACTIVE") ≡ Some None
other_parent = refl

names : option_map names_in (condition_of (codes "not X < 3 or (MODE = A and X = 1)")) ≡ Some (codes "X" ∷ codes "MODE" ∷ codes "X" ∷ [])
names = refl
