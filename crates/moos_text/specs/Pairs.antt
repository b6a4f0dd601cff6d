-- Pairs of a variable and its value, as the lines of a file give them, and the parts of a line that gives several.
use Rattle.std.specs.Prelude.{ℕ, ℤ, ◌+◌, Bool, false, not, ◌&&◌, ◌==◌, nat_lt, if◌then◌else◌, List, [], ◌∷◌, length, Option, Some, None, is_some, Result, Ok, Err}
use Rattle.std.specs.List.{before_first, after_first, position_or_len}
use Rattle.moos_post.specs.Words.{is_name, control_place}
use Rattle.moos_post.specs.declared.value.Pair.{Pair}
use Rattle.moos_post.specs.declared.value.Value.{Value}
use Rattle.moos_post.specs.declared.value.Value.TheVariants.{Num, Text}
use Rattle.moos_text.specs.declared.pair.PairFault.{PairFault}
use Rattle.moos_text.specs.declared.pair.PairFault.TheVariants.{NoEquals, BadName, BadValue, TooLong}
use Rattle.moos_text.specs.Lines.{trimmed, without_last, ends_with, is_quoted_after, onto_first}
use Rattle.moos_text.specs.Numbers.{milli_of}

-- `=`
abbrev pub is_equals : ℕ → Bool
is_equals byte = byte == 61

-- what is before the first `=` of a text and behind it, without blanks at the ends
pub record Sides : Type 0 where
  pub name : List ℕ
  pub value : List ℕ

-- what is on both sides of the first `=` of a text, if there is one
abbrev pub sides_of : List ℕ → Option Sides
sides_of text =
    if nat_lt (position_or_len is_equals text) (length text)
    then Some (record { name = trimmed (before_first is_equals text); value = trimmed (after_first is_equals text) })
    else None

-- `"`
abbrev pub is_quote : ℕ → Bool
is_quote byte = byte == 34

-- a text as a value: no byte that a text can't hold, and at most 4,096 in all
abbrev pub text_value : List ℕ → Result Value PairFault
text_value bytes =
    if is_some (control_place bytes) then Err BadValue
    else if nat_lt 4096 (length bytes) then Err TooLong
    else Ok (Text bytes)

-- what follows a `"`: a text and then a `"`, which is the last byte and the only other one
abbrev pub quoted_value : List ℕ → Result Value PairFault
quoted_value rest =
    if position_or_len is_quote rest + 1 == length rest then text_value (before_first is_quote rest) else Err BadValue

-- a number if the bytes are one, and else a text
abbrev pub plain_value : Option ℤ → List ℕ → Result Value PairFault
plain_value (Some number) bytes = Ok (Num number)
plain_value None bytes = text_value bytes

-- the value on the right: quoted, or not empty and a text if it must be one
abbrev pub written_value : Bool → List ℕ → Result Value PairFault
written_value as_text [] = Err BadValue
written_value as_text (first ∷ rest) =
    if is_quote first then quoted_value rest
    else if as_text then text_value (first ∷ rest)
    else plain_value (milli_of (first ∷ rest)) (first ∷ rest)

-- the pair of this variable and the value, or the value's fault
abbrev pub with_value : List ℕ → Result Value PairFault → Result Pair PairFault
with_value var (Ok value) = Ok (record { var = var; value = value })
with_value var (Err fault) = Err fault

-- the variable on the left and the value on the right
abbrev pub sides_pair : List ℕ → Bool → List ℕ → Result Pair PairFault
sides_pair var as_text value = if is_name var then with_value var (written_value as_text value) else Err BadName

-- The pair that a text stands for, or its first fault: it is cut at the first `=`, and a `:` directly before makes the
-- value a text.
abbrev pub pair_of : List ℕ → Result Pair PairFault
pair_of text =
    let side = before_first is_equals text in
    if nat_lt (position_or_len is_equals text) (length text)
    then sides_pair (trimmed (without_last 58 side)) (ends_with 58 side) (trimmed (after_first is_equals text))
    else Err NoEquals

-- the parts of a text from a place on, inside or outside quotes
abbrev pub parts_from : Bool → List ℕ → List (List ℕ)
parts_from quoted [] = [] ∷ []
parts_from quoted (byte ∷ rest) =
    if not quoted && byte == 35 then [] ∷ parts_from false rest
    else onto_first byte (parts_from (is_quoted_after quoted byte) rest)

-- The parts of a text that gives several: it is cut at each `#` outside quotes.
abbrev pub parts_of : List ℕ → List (List ℕ)
parts_of text = parts_from false text
