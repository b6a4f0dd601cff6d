-- Node reports: what a text tells of a contact, if it is a good report.
use Rattle.std.specs.Prelude.{ℕ, ℤ, pos, neg_ℤ, ◌==◌, int_le, Bool, ◌&&◌, nat_le, if◌then◌else◌, List, [], ◌∷◌, length, codes, filter_map, Option, Some, None, is_some}
use Rattle.std.specs.Borrow.{Bor}
use Rattle.std.specs.List.{list_all, slice_split}
use Rattle.std.specs.Str.{str_eq_ignore_ascii_case}
use Rattle.moos_post.specs.Words.{is_name}
use Rattle.moos_text.specs.Numbers.{milli_of}
use Rattle.moos_text.specs.Pairs.{Sides, sides_of}
use Rattle.contact_avoid.specs.declared.report.Report.{Report}

-- `,`
abbrev pub is_comma : ℕ → Bool
is_comma byte = byte == 44

-- the fields of a report are between its commas; an empty text is one empty field
abbrev pub report_fields : List ℕ → List (List ℕ)
report_fields text = slice_split is_comma text

-- the fields of what is left, if something is; this serves the reader alone
abbrev pub fields_left : Option (Bor (List ℕ)) → List (List ℕ)
fields_left None = []
fields_left (Some rest) = report_fields rest.now

-- a field has the form KEY=value
abbrev pub has_sides : List ℕ → Bool
has_sides field = is_some (sides_of field)

-- all fields of a text have the form KEY=value
abbrev pub have_sides : List ℕ → Bool
have_sides text = list_all has_sides (report_fields text)

-- the value beside this key, in letters of either case
abbrev pub value_beside : List ℕ → Option Sides → Option (List ℕ)
value_beside key None = None
value_beside key (Some side) = if str_eq_ignore_ascii_case side.name key then Some side.value else None

-- the value of a field with this key
abbrev pub value_under : List ℕ → List ℕ → Option (List ℕ)
value_under key field = value_beside key (sides_of field)

-- the value of a list that has just one
abbrev pub sole : List (List ℕ) → Option (List ℕ)
sole [] = None
sole (value ∷ []) = Some value
sole (value ∷ other ∷ more) = None

-- the value of the key, if the key occurs once
abbrev pub value_of : List ℕ → List ℕ → Option (List ℕ)
value_of key text = sole (filter_map (value_under key) (report_fields text))

-- a number, if it is in this range
abbrev pub kept_in : ℤ → ℤ → Option ℤ → Option ℤ
kept_in low high None = None
kept_in low high (Some number) = if int_le low number && int_le number high then Some number else None

-- the number that a value is, if it is in this range
abbrev pub number_in_range : ℤ → ℤ → Option (List ℕ) → Option ℤ
number_in_range low high None = None
number_in_range low high (Some value) = kept_in low high (milli_of value)

-- the number under this key, in thousandths, if it is in this range
abbrev pub number_under : List ℕ → List ℕ → ℤ → ℤ → Option ℤ
number_under text key low high = number_in_range low high (value_of key text)

-- a value as a contact's name: a name of at most 32 bytes
abbrev pub name_in : Option (List ℕ) → Option (List ℕ)
name_in None = None
name_in (Some value) = if nat_le (length value) 32 && is_name value then Some value else None

-- the contact's name that a text gives
abbrev pub contact_name : List ℕ → Option (List ℕ)
contact_name text = name_in (value_of (codes "NAME") text)

-- the report of these values, if all are good
abbrev pub report_with : Option ℤ → Option ℤ → Option ℤ → Option ℤ → Option (List ℕ) → Option Report
report_with None y speed heading name = None
report_with (Some x) None speed heading name = None
report_with (Some x) (Some y) None heading name = None
report_with (Some x) (Some y) (Some speed) None name = None
report_with (Some x) (Some y) (Some speed) (Some heading) None = None
report_with (Some x) (Some y) (Some speed) (Some heading) (Some name) = Some (record { name = name; x = x; y = y; speed = speed; heading = heading })

-- The report that a text is: fields KEY=value between commas, if each of the keys NAME, X, Y, SPD and HDG occurs once and
-- has a good value; other keys are passed over. None if it is no good report.
abbrev pub report_of : List ℕ → Option Report
report_of text =
    if have_sides text then
    report_with (number_under text (codes "X") (neg_ℤ (pos 1000000000)) (pos 1000000000))
    (number_under text (codes "Y") (neg_ℤ (pos 1000000000)) (pos 1000000000))
    (number_under text (codes "SPD") (pos 0) (pos 100000))
    (number_under text (codes "HDG") (pos 0) (pos 360000))
    (contact_name text)
    else None
