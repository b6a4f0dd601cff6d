-- What the values of a behaviour's parameters say: numbers in a range, words, and lists of places.
use Rattle.std.specs.Prelude.{ℕ, ◌^◌, ◌==◌, ℤ, pos, int_le, nat_abs, Bool, true, false, ◌&&◌, ◌||◌, not, nat_le, if◌then◌else◌, List, [], ◌∷◌, length, take, drop, map, filter, codes, bytes_eq, Option, Some, None, option_map, option_and_then}
use Rattle.std.specs.List.{slice_split}
use Rattle.moos_post.specs.Words.{is_name}
use Rattle.moos_text.specs.Lines.{ends_with, is_blank, without_last}
use Rattle.moos_text.specs.Numbers.{milli_of, whole_of}
use Rattle.helm_geo.specs.declared.spot.Spot.{Spot}
use Rattle.helm_geo.specs.Polygons.{convex}
use Rattle.bhv_file.specs.declared.setting.Setting.{Setting}
use Rattle.bhv_file.specs.declared.setting.Setting.TheVariants.{Number, Time, Flag, Repeat, Places, Place, Contact, Size}
use Rattle.bhv_file.specs.declared.table.ValueRange.{ValueRange}
use Rattle.bhv_file.specs.declared.table.ValueRange.TheVariants.{Number as OfNumber, Time as OfTime, Flag as OfFlag, Order as OfOrder, Repeat as OfRepeat, Places as OfPlaces, Polygon as OfPolygon, Place as OfPlace, Contact as OfContact, Size as OfSize}

-- what was read, if it passes a test
abbrev pub kept_if : {A : Type 0} → (A → Bool) → Option A → Option A
kept_if test None = None
kept_if test (Some x) = if test x then Some x else None

-- a number from low to high
abbrev pub lies_between : ℤ → ℤ → ℤ → Bool
lies_between low high number = int_le low number && int_le number high

-- a number from low to high, in thousandths
abbrev pub number_value : ℤ → ℤ → List ℕ → Option ℤ
number_value low high text = kept_if (lies_between low high) (milli_of text)

-- a number of seconds up to 1,000,000, in milliseconds
abbrev pub time_value : List ℕ → Option ℕ
time_value text = option_map nat_abs (number_value (pos 0) (pos (10 ^ 9)) text)

-- a time, or `no-time-limit`
abbrev pub duration_of : List ℕ → Option (Option ℕ)
duration_of text = if bytes_eq text (codes "no-time-limit") then Some None else option_map (λ time. Some time) (time_value text)

-- a weight: a number up to 10,000, in thousandths
abbrev pub weight_of : List ℕ → Option ℕ
weight_of text = option_map nat_abs (number_value (pos 0) (pos (10 ^ 7)) text)

-- `true` or `false`
abbrev pub flag_of : List ℕ → Option Bool
flag_of text = if bytes_eq text (codes "true") then Some true else if bytes_eq text (codes "false") then Some false else None

-- `spawn` for a template, or `disallowed`
abbrev pub templating_of : List ℕ → Option Bool
templating_of text = if bytes_eq text (codes "spawn") then Some true else if bytes_eq text (codes "disallowed") then Some false else None

-- `reverse` or `reversed`, which turns an order round, or `normal`
abbrev pub order_of : List ℕ → Option Bool
order_of text =
    if bytes_eq text (codes "reverse") || bytes_eq text (codes "reversed") then Some true
    else if bytes_eq text (codes "normal") then Some false else None

-- how often places are begun again: a whole number up to 1,000,000, or `forever`
abbrev pub repeat_of : List ℕ → Option (Option ℕ)
repeat_of text =
    if bytes_eq text (codes "forever") then Some None
    else option_map (λ number. Some number) (kept_if (λ number. nat_le number (10 ^ 6)) (whole_of text))

-- the place of two numbers, east and north
abbrev pub spot_of_numbers : Option ℤ → Option ℤ → Option Spot
spot_of_numbers x y = option_and_then (λ east. option_map (λ north. record { x = east; y = north }) y) x

-- the place of two numbers as texts
abbrev pub spot_of_parts : List (List ℕ) → Option Spot
spot_of_parts (x ∷ y ∷ []) = spot_of_numbers (milli_of x) (milli_of y)
spot_of_parts parts = None

-- a place: two numbers with a comma between
abbrev pub spot_of_text : List ℕ → Option Spot
spot_of_text text = spot_of_parts (slice_split (λ byte. byte == 44) text)

-- all of these, if each is there
abbrev pub all_of : {A : Type 0} → List (Option A) → Option (List A)
all_of [] = Some []
all_of (first ∷ more) = option_and_then (λ x. option_map (λ xs. x ∷ xs) (all_of more)) first

-- the text without a `pts={` in front and a `}` behind, if it has both
abbrev pub without_pts : List ℕ → List ℕ
without_pts text = if bytes_eq (take 5 text) (codes "pts={") && ends_with 125 text then without_last 125 (drop 5 text) else text

-- the text without its blanks, those within a number too: `1 2` becomes `12`
abbrev pub without_blanks : List ℕ → List ℕ
without_blanks text = filter (λ byte. not (is_blank byte)) text

-- the places with `:` between
abbrev pub spots_between : List ℕ → Option (List Spot)
spots_between text = all_of (map spot_of_text (slice_split (λ byte. byte == 58) text))

-- A list of 1 to 64 places with `:` between, whose blanks count for nothing. There is always one, since even an empty text is cut
-- into one part.
abbrev pub spots_of : List ℕ → Option (List Spot)
spots_of text = kept_if (λ spots. nat_le (length spots) 64) (spots_between (without_pts (without_blanks text)))

-- the one place of a list of one
abbrev pub only_spot : List Spot → Option Spot
only_spot (spot ∷ []) = Some spot
only_spot spots = None

-- the one place that a text says; none if it says several
abbrev pub spot_of : List ℕ → Option Spot
spot_of text = option_and_then only_spot (spots_of text)

-- the vertices of a convex polygon
abbrev pub polygon_of : List ℕ → Option (List Spot)
polygon_of text = kept_if convex (spots_of text)

-- a contact's name: one of at most 32 bytes
abbrev pub is_contact : List ℕ → Bool
is_contact name = nat_le (length name) 32 && is_name name

-- a contact's name as a value
abbrev pub contact_of : List ℕ → Option (List ℕ)
contact_of text = if is_contact text then Some text else None

-- a piece has 1 to 268,435,456 places on an axis
abbrev pub is_piece_size : ℕ → Bool
is_piece_size number = nat_le 1 number && nat_le number 268435456

-- how many places a piece has on an axis, as a whole number from 1 to 268,435,456
abbrev pub piece_size_of : List ℕ → Option ℕ
piece_size_of text = kept_if is_piece_size (whole_of text)

-- What a value of a parameter says, if it is one of its range.
abbrev pub setting_of : ValueRange → List ℕ → Option Setting
setting_of (OfNumber low high) text = option_map Number (number_value low high text)
setting_of OfTime text = option_map Time (time_value text)
setting_of OfFlag text = option_map Flag (flag_of text)
setting_of OfOrder text = option_map Flag (order_of text)
setting_of OfRepeat text = option_map Repeat (repeat_of text)
setting_of OfPlaces text = option_map Places (spots_of text)
setting_of OfPolygon text = option_map Places (polygon_of text)
setting_of OfPlace text = option_map Place (spot_of text)
setting_of OfContact text = option_map Contact (contact_of text)
setting_of OfSize text = option_map Size (piece_size_of text)
