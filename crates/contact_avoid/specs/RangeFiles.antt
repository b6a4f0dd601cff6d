-- What the bytes of a contacts file stand for: the two ranges, or the first refusal with its line and cause.
use Rattle.std.specs.Prelude.{ℕ, ℤ, pos, nat_abs, int_le, nat_le, ◌&&◌, if◌then◌else◌, List, [], ◌∷◌, codes, Option, Some, None, Result, Ok, Err}
use Rattle.std.specs.Str.{str_eq_ignore_ascii_case}
use Rattle.moos_text.specs.declared.cause.Cause.{Cause}
use Rattle.moos_text.specs.declared.cause.Cause.TheVariants.{C1, C2, C3}
use Rattle.moos_text.specs.declared.cause.ReadFault.{ReadFault}
use Rattle.moos_text.specs.declared.cause.ReadFault.TheVariants.{At}
use Rattle.moos_text.specs.Lines.{last_line}
use Rattle.moos_text.specs.Numbers.{milli_of}
use Rattle.moos_text.specs.Pairs.{Sides, sides_of}
use Rattle.moos_text.specs.Refusals.{and_then}
use Rattle.moos_text.specs.Sections.{made_of, made_of_all, Statement, statements_of}
use Rattle.contact_avoid.specs.declared.range_name.RangeName.{RangeName}
use Rattle.contact_avoid.specs.declared.range_name.RangeName.TheVariants.{Alert, Clear}
use Rattle.contact_avoid.specs.declared.ranges.Ranges.{Ranges}

-- the ranges if a file sets nothing: 50 and 60 metres
abbrev pub usual_ranges : Ranges
usual_ranges = record { alert = 50000; clear = 60000 }

-- the ranges with this distance for the one of this name
abbrev pub with_range : Ranges → RangeName → ℕ → Ranges
with_range ranges Alert distance = record ranges { alert = distance }
with_range ranges Clear distance = record ranges { clear = distance }

-- the range of this name, in letters of either case
abbrev pub range_named : List ℕ → Option RangeName
range_named name =
    if str_eq_ignore_ascii_case name (codes "alert_range") then Some Alert
    else if str_eq_ignore_ascii_case name (codes "clear_range") then Some Clear
    else None

-- a number from 0 to 10,000, in thousandths, as a distance
abbrev pub range_distance : ℤ → Option ℕ
range_distance number = if int_le (pos 0) number && int_le number (pos 10000000) then Some (nat_abs number) else None

-- the ranges with a distance for the one of this name; without a distance the line is refused
abbrev pub with_range_distance : Ranges → RangeName → Option ℕ → Result Ranges Cause
with_range_distance ranges range None = Err C2
with_range_distance ranges range (Some distance) = Ok (with_range ranges range distance)

-- the ranges with a number for the one of this name; one that is missing or no distance is refused
abbrev pub with_range_number : Ranges → RangeName → Option ℤ → Result Ranges Cause
with_range_number ranges range None = Err C2
with_range_number ranges range (Some number) = with_range_distance ranges range (range_distance number)

-- the ranges with a number for the one that a line names; a line that names none is refused
abbrev pub with_range_named : Ranges → Option RangeName → Option ℤ → Result Ranges Cause
with_range_named ranges None number = Err C1
with_range_named ranges (Some range) number = with_range_number ranges range number

-- what a line `name = value` sets; of lines with one name the last one counts
abbrev pub with_range_line : Ranges → Option Sides → Result Ranges Cause
with_range_line ranges None = Err C1
with_range_line ranges (Some set) = with_range_named ranges (range_named set.name) (milli_of set.value)

-- the ranges after a line that says something
abbrev pub with_statement : Ranges → Statement → Result Ranges Cause
with_statement ranges said = with_range_line ranges (sides_of said.text)

-- the clear range may not be below the alert range, in a file with this last line
abbrev pub ordered : ℕ → Ranges → Result Ranges ReadFault
ordered last ranges = if nat_le ranges.alert ranges.clear then Ok ranges else Err (At last C3)

-- What the bytes of a contacts file stand for. Lines are counted from 1.
abbrev pub ranges_of : List ℕ → Result Ranges ReadFault
ranges_of bytes = and_then (ordered (last_line bytes)) (made_of_all C1 with_statement usual_ranges (statements_of bytes))

-- a line by its number and its text, which says nothing if it is blank; this serves the reader alone
abbrev pub with_text : ℕ → Ranges → List ℕ → Result Ranges ReadFault
with_text line ranges [] = Ok ranges
with_text line ranges (byte ∷ bytes) = made_of C1 with_statement ranges (record { line = line; text = byte ∷ bytes })
