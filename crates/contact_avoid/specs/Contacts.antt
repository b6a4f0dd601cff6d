-- The contact manager: what it knows at each of its turns, which contacts are inside, and what it posts.
use Rattle.std.specs.Prelude.{ℕ, ℤ, Bool, true, false, nat_lt, ◌||◌, if◌then◌else◌, List, [], ◌∷◌, ◌++◌, length, fold, find, codes, bytes_eq, Option, Some, None}
use Rattle.std.specs.List.{flat_map, list_any}
use Rattle.moos_post.specs.declared.value.Pair.{Pair}
use Rattle.moos_post.specs.declared.value.Value.{Value}
use Rattle.moos_post.specs.declared.value.Value.TheVariants.{Num, Text}
use Rattle.moos_text.specs.Numbers.{milli_text}
use Rattle.helm_cond.specs.Learnt.{latest_of}
use Rattle.helm_geo.specs.declared.spot.Spot.{Spot}
use Rattle.helm_geo.specs.Plane.{within}
use Rattle.contact_avoid.specs.declared.ranges.Ranges.{Ranges}
use Rattle.contact_avoid.specs.declared.report.Report.{Report}
use Rattle.contact_avoid.specs.Reports.{report_of}

-- what the mails of the manager's turns say, turn by turn
abbrev pub Turns : Type 0
Turns = List (List Pair)

-- all that they say
abbrev pub said_in_all : Turns → List Pair
said_in_all turns = flat_map (λ said. said) turns

-- the report that a value is, if it is a text
abbrev pub report_in : Value → Option Report
report_in (Num number) = None
report_in (Text text) = report_of text

-- the report that a pair gives, if it is one of NODE_REPORT
abbrev pub reported : Pair → Option Report
reported pair = if bytes_eq (codes "NODE_REPORT") pair.var then report_in pair.value else None

-- a report is of the contact of this name
abbrev pub is_report_of : List ℕ → Report → Bool
is_report_of name report = bytes_eq report.name name

-- the reports with this one in the place of its contact's, and behind them if there is none of its contact
abbrev pub with_report : Report → List Report → List Report
with_report report [] = report ∷ []
with_report report (other ∷ more) = if is_report_of report.name other then report ∷ more else other ∷ with_report report more

-- the contacts once a pair was heard: a good report is learnt of a known contact, and of a new one while fewer than 32 are known
abbrev pub contacts_with : List Report → Option Report → List Report
contacts_with known None = known
contacts_with known (Some report) =
    if list_any (is_report_of report.name) known || nat_lt (length known) 32 then with_report report known else known

-- the contacts after all this, in the order of their first reports, each by its latest one
abbrev pub contacts_after : List Pair → List Report
contacts_after heard = fold (λ known pair. contacts_with known (reported pair)) [] heard

-- a value as a number
abbrev pub known_number : Option Value → Option ℤ
known_number None = None
known_number (Some (Num number)) = Some number
known_number (Some (Text text)) = None

-- the own position of these coordinates, if both are known
abbrev pub own_spot : Option ℤ → Option ℤ → Option Spot
own_spot None y = None
own_spot (Some x) None = None
own_spot (Some x) (Some y) = Some (record { x = x; y = y })

-- the own position after all this, known if the latest values of NAV_X and of NAV_Y are numbers
abbrev pub own_after : List Pair → Option Spot
own_after heard = own_spot (known_number (latest_of heard (codes "NAV_X"))) (known_number (latest_of heard (codes "NAV_Y")))

-- what the manager knows at a turn: the own position, and the contacts by their latest reports
pub record Picture : Type 0 where
  pub own : Option Spot
  pub contacts : List Report

-- the picture after all this
abbrev pub picture_after : List Pair → Picture
picture_after heard = record { own = own_after heard; contacts = contacts_after heard }

-- the picture of each of these turns, if this was heard before them
abbrev pub pictures_from : List Pair → Turns → List Picture
pictures_from before [] = []
pictures_from before (said ∷ later) = picture_after (before ++ said) ∷ pictures_from (before ++ said) later

-- the picture of each turn
abbrev pub pictures_of : Turns → List Picture
pictures_of turns = pictures_from [] turns

-- where a contact was, by its report
abbrev pub contact_place : Report → Spot
contact_place report = record { x = report.x; y = report.y }

-- Whether a contact is inside at a turn, by whether it was before: from outside it must be within the alert range, and from
-- inside within the clear range. While the own position isn't known nothing changes. A contact that isn't known is outside.
abbrev pub inside_at : Ranges → Bool → Option Spot → Option Report → Bool
inside_at ranges before own None = false
inside_at ranges before None (Some report) = before
inside_at ranges before (Some own) (Some report) = within (contact_place report) own (if before then ranges.clear else ranges.alert)

-- the contact of this name is inside after turns of these pictures; before the first it is outside
abbrev pub is_inside : Ranges → List ℕ → List Picture → Bool
is_inside ranges name pictures =
    fold (λ before (picture : Picture). inside_at ranges before picture.own (find (is_report_of name) picture.contacts)) false pictures

-- the pair of a variable and a text
abbrev pub pair_saying : List ℕ → List ℕ → Pair
pair_saying var text = record { var = var; value = Text text }

-- the name of a contact's behaviour, as an update gives it
abbrev pub behavior_name : Report → List ℕ
behavior_name report = codes "name=avd_" ++ report.name

-- what the behaviour of an inside contact is told: its name and the contact's, and where the contact was and how it moved by its
-- latest report
abbrev pub inside_text : Report → List ℕ
inside_text report =
    behavior_name report ++ codes " # contact=" ++ report.name ++ codes " # contact_x=" ++ milli_text report.x ++ codes " # contact_y="
    ++ milli_text report.y ++ codes " # contact_speed=" ++ milli_text report.speed ++ codes " # contact_heading=" ++ milli_text report.heading

-- what the behaviour of a contact is told once that is outside
abbrev pub outside_text : Report → List ℕ
outside_text report = behavior_name report ++ codes " # resolved=" ++ codes "true"

-- What is posted of a contact at a turn, by whether it was inside before and whether it is now: an alert at the crossing inward,
-- a resolution at the crossing outward, and while it is inside where it was and how it moved by its latest report.
abbrev pub contact_posts : Bool → Bool → Report → List Pair
contact_posts false false report = []
contact_posts false true report = pair_saying (codes "CONTACT_ALERT") report.name ∷ pair_saying (codes "CONTACT_INFO") (inside_text report) ∷ []
contact_posts true true report = pair_saying (codes "CONTACT_INFO") (inside_text report) ∷ []
contact_posts true false report = pair_saying (codes "CONTACT_RESOLVED") report.name ∷ pair_saying (codes "CONTACT_INFO") (outside_text report) ∷ []

-- what is posted of all contacts at the turn of this picture, after turns of those pictures
abbrev pub batch_at : Ranges → List Picture → Picture → List Pair
batch_at ranges before picture =
    flat_map (λ (report : Report). contact_posts (is_inside ranges report.name before) (is_inside ranges report.name (before ++ picture ∷ [])) report) picture.contacts

-- what each turn of these pictures posts, after turns of those
abbrev pub batches_from : Ranges → List Picture → List Picture → List (List Pair)
batches_from ranges before [] = []
batches_from ranges before (picture ∷ later) = batch_at ranges before picture ∷ batches_from ranges (before ++ picture ∷ []) later

-- What the manager posts at each of its turns.
abbrev pub batches_of : Ranges → Turns → List (List Pair)
batches_of ranges turns = batches_from ranges [] (pictures_of turns)
