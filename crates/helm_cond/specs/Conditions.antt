-- Conditions, and whether one holds of what is known and of the mode's text.
use Rattle.std.specs.Prelude.{ℕ, ℤ, Bool, true, false, not, ◌&&◌, ◌||◌, ◌==◌, if◌then◌else◌, List, [], ◌∷◌, ◌++◌, codes, bytes_eq, int_lt, int_le, Option, Some, None, IsTrue}
use Rattle.std.specs.List.{All, slice_split}
use Rattle.std.specs.Ordering.{int_eq}
use Rattle.std.specs.Str.{str_eq_ignore_ascii_case}
use Rattle.moos_post.specs.declared.value.Value.{Value}
use Rattle.moos_post.specs.declared.value.Value.TheVariants.{Num, Text}
use Rattle.moos_post.specs.Words.{is_name}
use Rattle.helm_cond.specs.declared.comparison.Comparison.{Comparison}
use Rattle.helm_cond.specs.declared.operator.Operator.{Operator}
use Rattle.helm_cond.specs.declared.operator.Operator.TheVariants.{Equal, Unequal, Below, AtMost, Above, AtLeast}
use Rattle.helm_cond.specs.Learnt.{Knowledge}

-- a condition: a comparison, or what `not`, `and` and `or` make of conditions
pub data Condition : Type 0 where
  Compare : Comparison → Condition
  Not : Condition → Condition
  And : Condition → Condition → Condition
  Or : Condition → Condition → Condition

-- the comparison names the helm's mode
abbrev pub is_of_mode : Comparison → Bool
is_of_mode comparison = bytes_eq comparison.var (codes "MODE")

-- equal numbers, or texts that are equal ignoring the case of ASCII letters
abbrev pub same_value : Value → Value → Bool
same_value (Num a) (Num b) = int_eq a b
same_value (Text a) (Text b) = str_eq_ignore_ascii_case a b
same_value (Num a) (Text b) = false
same_value (Text a) (Num b) = false

-- two numbers in this order; never if one is a text
abbrev pub in_order : (ℤ → ℤ → Bool) → Value → Value → Bool
in_order order (Num a) (Num b) = order a b
in_order order (Num a) (Text b) = false
in_order order (Text a) b = false

-- the value is to the literal as the operator says
abbrev pub compares : Operator → Value → Value → Bool
compares Equal value literal = same_value value literal
compares Unequal value literal = not (same_value value literal)
compares Below value literal = in_order int_lt value literal
compares AtMost value literal = in_order int_le value literal
compares Above value literal = in_order int_lt literal value
compares AtLeast value literal = in_order int_le literal value

-- a comparison with a value that is not known is false
abbrev pub known_compares : Operator → Option Value → Value → Bool
known_compares operator None literal = false
known_compares operator (Some value) literal = compares operator value literal

-- the names that a mode's text, or a text that is compared with it, has between its `:`; an empty text has one empty name
abbrev pub mode_names : List ℕ → List (List ℕ)
mode_names text = slice_split (λ byte. byte == 58) text

-- the parts of a mode's path, which has none if its text is empty
abbrev pub mode_parts : List ℕ → List (List ℕ)
mode_parts [] = []
mode_parts (byte ∷ bytes) = mode_names (byte ∷ bytes)

-- the path begins with these parts, ignoring the case of ASCII letters
abbrev pub begins_with : List (List ℕ) → List (List ℕ) → Bool
begins_with [] path = true
begins_with (part ∷ parts) [] = false
begins_with (part ∷ parts) (name ∷ path) = str_eq_ignore_ascii_case part name && begins_with parts path

-- the parts are one behind the other somewhere in the path
abbrev pub stands_in : List (List ℕ) → List (List ℕ) → Bool
stands_in parts [] = false
stands_in parts (name ∷ path) = begins_with parts (name ∷ path) || stands_in parts path

-- the mode is, or has in it, what the literal says; a number is no mode
abbrev pub is_mode : List ℕ → Value → Bool
is_mode mode (Num number) = false
is_mode mode (Text text) = stands_in (mode_names text) (mode_parts mode)

-- the mode is equal to the literal or not, and is in no order with it
abbrev pub mode_compares : Operator → List ℕ → Value → Bool
mode_compares Equal mode literal = is_mode mode literal
mode_compares Unequal mode literal = not (is_mode mode literal)
mode_compares Below mode literal = false
mode_compares AtMost mode literal = false
mode_compares Above mode literal = false
mode_compares AtLeast mode literal = false

-- a comparison of the mode, or of the latest value of its variable
abbrev pub comparison_holds : Knowledge → List ℕ → Comparison → Bool
comparison_holds known mode comparison =
    if is_of_mode comparison then mode_compares comparison.operator mode comparison.literal
    else known_compares comparison.operator (known comparison.var) comparison.literal

-- Whether a condition holds of what is known and of the mode's text.
abbrev pub holds : Knowledge → List ℕ → Condition → Bool
holds known mode (Compare comparison) = comparison_holds known mode comparison
holds known mode (Not one) = not (holds known mode one)
holds known mode (And one other) = holds known mode one && holds known mode other
holds known mode (Or one other) = holds known mode one || holds known mode other

-- the literal of a comparison for equality with the mode
abbrev pub mode_named : Comparison → Operator → Option Value
mode_named comparison Equal = if is_of_mode comparison then Some comparison.literal else None
mode_named comparison operator = None

-- The literal of a condition that is one comparison `MODE = X`, and nothing of any other condition.
abbrev pub parent_of : Condition → Option Value
parent_of (Compare comparison) = mode_named comparison comparison.operator
parent_of (Not one) = None
parent_of (And one other) = None
parent_of (Or one other) = None

-- the variables of a condition's comparisons, from left to right, MODE too
abbrev pub names_in : Condition → List (List ℕ)
names_in (Compare comparison) = comparison.var ∷ []
names_in (Not one) = names_in one
names_in (And one other) = names_in one ++ names_in other
names_in (Or one other) = names_in one ++ names_in other

-- each of its variables is a name
abbrev pub HasNames : Condition → Type 0
HasNames condition = All (λ name. IsTrue (is_name name)) (names_in condition)
