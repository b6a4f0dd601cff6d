-- The words of a line of a problem, and the numbers and axes that words spell.
use Rattle.std.specs.Prelude.{ℕ, ◌^◌, ◌-◌, ℤ, pos, neg_ℤ, ◌&&◌, ◌==◌, nat_lt, nat_le, if◌then◌else◌, List, [], ◌∷◌, length, take, drop, codes, bytes_eq, Option, Some, None, option_map}
use Rattle.std.specs.List.{list_all}
use Rattle.moos_post.specs.Words.{is_digit}
use Rattle.moos_text.specs.Lines.{without_return, trimmed, words_of}
use Rattle.moos_text.specs.Numbers.{digits_value}
use Rattle.axis_reader.specs.Fields.{axis_from, fields_of}
use Rattle.ivp_domain.specs.declared.axis.Axis.{Axis}

-- a line without the `%% ` that it may begin with
abbrev pub without_prefix : List ℕ → List ℕ
without_prefix line = if bytes_eq (take 3 line) (codes "%% ") then drop 3 line else line

-- the words of a line: it is trimmed, and then a `%% ` in front is dropped
abbrev pub line_words : List ℕ → List (List ℕ)
line_words raw = words_of (without_prefix (trimmed (without_return raw)))

-- a number from 0 to the greatest that is allowed, as digits alone spell it
abbrev pub natural_of : ℕ → List ℕ → Option ℕ
natural_of most word =
    if nat_lt 0 (length word) && list_all is_digit word && nat_le (digits_value word) most then Some (digits_value word) else None

-- a place on an axis, a number of a path, or an index
abbrev pub place_of : List ℕ → Option ℕ
place_of word = natural_of (2 ^ 32 - 1) word

-- a number of at most so much either way: digits, behind a `-` or not
abbrev pub integer_of : ℕ → List ℕ → Option ℤ
integer_of most [] = None
integer_of most (first ∷ rest) =
    if first == 45 then option_map (λ n. neg_ℤ (pos n)) (natural_of most rest) else option_map pos (natural_of most (first ∷ rest))

-- the axis that a word spells, which is cut at each `:`
abbrev pub axis_of : List ℕ → Option Axis
axis_of word = axis_from (fields_of word)
