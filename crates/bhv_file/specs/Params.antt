-- A behaviour's own parameters: what one more of them makes of it, and what has to hold of all of them together.
use Rattle.std.specs.Prelude.{ℕ, ℤ, int_lt, Bool, true, false, ◌||◌, not, if◌then◌else◌, List, [], ◌∷◌, codes, bytes_eq, Option, Some, is_some, option_map, option_and_then}
use Rattle.std.specs.List.{list_all, list_any}
use Rattle.helm_geo.specs.declared.spot.Spot.{Spot}
use Rattle.ivp_domain.specs.declared.axis.Axis.{Axis}
use Rattle.bhv_file.specs.declared.setting.Setting.{Setting}
use Rattle.bhv_file.specs.declared.setting.Setting.TheVariants.{Number, Time, Flag, Repeat, Places, Place, Contact as ContactName, Size}
use Rattle.bhv_file.specs.declared.spec.Avoidance.{Avoidance}
use Rattle.bhv_file.specs.declared.spec.Shape.{Shape}
use Rattle.bhv_file.specs.declared.spec.Shape.TheVariants.{Heading, Speed, Depth, MaxDepth, Timer, Waypoint, Loiter, StationKeep, OpRegion, AvoidCollision}
use Rattle.bhv_file.specs.declared.spec.Spec.{Spec}
use Rattle.bhv_file.specs.declared.table.Parameter.{Parameter}
use Rattle.bhv_file.specs.declared.table.Parameter.TheVariants.{Heading as OfHeading, Speed as OfSpeed, Depth as OfDepth, PeakWidth, BaseWidth, SummitDelta, MaxDepth as OfMaxDepth, CaptureRadius, SlipRadius, InnerRadius, OuterRadius, OuterSpeed, ContactX, ContactY, ContactSpeed, ContactHeading, NearDistance, FarDistance}
use Rattle.bhv_file.specs.Table.{parameter_of, value_range, is_called_common}
use Rattle.bhv_file.specs.declared.table.CommonParameter.TheVariants.{Weight}
use Rattle.bhv_file.specs.Values.{setting_of, weight_of}

-- the parameters of a behaviour that keeps clear of a contact, with this number in the field of one
abbrev pub with_approach : Avoidance → Parameter → ℤ → Avoidance
with_approach avoidance ContactX n = record avoidance { contact_x = Some n }
with_approach avoidance ContactY n = record avoidance { contact_y = Some n }
with_approach avoidance ContactSpeed n = record avoidance { contact_speed = Some n }
with_approach avoidance ContactHeading n = record avoidance { contact_heading = Some n }
with_approach avoidance NearDistance n = record avoidance { near = n }
with_approach avoidance FarDistance n = record avoidance { far = n }
with_approach avoidance parameter n = avoidance

-- a behaviour with this number in the field of a parameter
abbrev pub with_number_field : Shape → Parameter → ℤ → Shape
with_number_field (Heading summit peak base delta) OfHeading n = Heading n peak base delta
with_number_field (Heading summit peak base delta) PeakWidth n = Heading summit n base delta
with_number_field (Heading summit peak base delta) BaseWidth n = Heading summit peak n delta
with_number_field (Heading summit peak base delta) SummitDelta n = Heading summit peak base n
with_number_field (Speed summit peak base delta) OfSpeed n = Speed n peak base delta
with_number_field (Speed summit peak base delta) PeakWidth n = Speed summit n base delta
with_number_field (Speed summit peak base delta) BaseWidth n = Speed summit peak n delta
with_number_field (Speed summit peak base delta) SummitDelta n = Speed summit peak base n
with_number_field (Depth summit peak base delta) OfDepth n = Depth n peak base delta
with_number_field (Depth summit peak base delta) PeakWidth n = Depth summit n base delta
with_number_field (Depth summit peak base delta) BaseWidth n = Depth summit peak n delta
with_number_field (Depth summit peak base delta) SummitDelta n = Depth summit peak base n
with_number_field (MaxDepth depth base) OfMaxDepth n = MaxDepth n base
with_number_field (MaxDepth depth base) BaseWidth n = MaxDepth depth n
with_number_field (Waypoint points speed capture slip reverse repeat) OfSpeed n = Waypoint points n capture slip reverse repeat
with_number_field (Waypoint points speed capture slip reverse repeat) CaptureRadius n = Waypoint points speed n slip reverse repeat
with_number_field (Waypoint points speed capture slip reverse repeat) SlipRadius n = Waypoint points speed capture n reverse repeat
with_number_field (Loiter polygon speed capture slip clockwise) OfSpeed n = Loiter polygon n capture slip clockwise
with_number_field (Loiter polygon speed capture slip clockwise) CaptureRadius n = Loiter polygon speed n slip clockwise
with_number_field (Loiter polygon speed capture slip clockwise) SlipRadius n = Loiter polygon speed capture n clockwise
with_number_field (StationKeep point anew inner outer speed) InnerRadius n = StationKeep point anew n outer speed
with_number_field (StationKeep point anew inner outer speed) OuterRadius n = StationKeep point anew inner n speed
with_number_field (StationKeep point anew inner outer speed) OuterSpeed n = StationKeep point anew inner outer n
with_number_field (OpRegion polygon depth time) OfMaxDepth n = OpRegion polygon (Some n) time
with_number_field (AvoidCollision avoidance) parameter n = AvoidCollision (with_approach avoidance parameter n)
with_number_field shape parameter n = shape

-- a behaviour with this time, if its type has one
abbrev pub with_time : Shape → ℕ → Shape
with_time (OpRegion polygon depth time) t = OpRegion polygon depth (Some t)
with_time shape t = shape

-- a behaviour with this flag, if its type has one
abbrev pub with_flag : Shape → Bool → Shape
with_flag (Waypoint points speed capture slip reverse repeat) flag = Waypoint points speed capture slip flag repeat
with_flag (Loiter polygon speed capture slip clockwise) flag = Loiter polygon speed capture slip flag
with_flag (StationKeep point anew inner outer speed) flag = StationKeep point flag inner outer speed
with_flag (AvoidCollision avoidance) flag = AvoidCollision (record avoidance { resolved = flag })
with_flag shape flag = shape

-- a behaviour with this number of repeats, if its type has one
abbrev pub with_repeat : Shape → Option ℕ → Shape
with_repeat (Waypoint points speed capture slip reverse repeat) n = Waypoint points speed capture slip reverse n
with_repeat shape n = shape

-- a behaviour with these places, if its type has some
abbrev pub with_places : Shape → List Spot → Shape
with_places (Waypoint points speed capture slip reverse repeat) spots = Waypoint spots speed capture slip reverse repeat
with_places (Loiter polygon speed capture slip clockwise) spots = Loiter spots speed capture slip clockwise
with_places (OpRegion polygon depth time) spots = OpRegion (Some spots) depth time
with_places shape spots = shape

-- a behaviour with this one place, if its type has one
abbrev pub with_place : Shape → Spot → Shape
with_place (StationKeep point anew inner outer speed) spot = StationKeep (Some spot) anew inner outer speed
with_place shape spot = shape

-- a behaviour with this contact, if its type has one
abbrev pub with_contact : Shape → List ℕ → Shape
with_contact (AvoidCollision avoidance) name = AvoidCollision (record avoidance { contact = Some name })
with_contact shape name = shape

-- a behaviour with pieces of this size, if its type has them
abbrev pub with_size : Shape → ℕ → Shape
with_size (AvoidCollision avoidance) size = AvoidCollision (record avoidance { piece_size = size })
with_size shape size = shape

-- a behaviour with this value in the field of a parameter
abbrev pub with_field : Shape → Parameter → Setting → Shape
with_field shape parameter (Number n) = with_number_field shape parameter n
with_field shape parameter (Time t) = with_time shape t
with_field shape parameter (Flag flag) = with_flag shape flag
with_field shape parameter (Repeat n) = with_repeat shape n
with_field shape parameter (Places spots) = with_places shape spots
with_field shape parameter (Place spot) = with_place shape spot
with_field shape parameter (ContactName name) = with_contact shape name
with_field shape parameter (Size size) = with_size shape size

-- a behaviour with a parameter's value as it is in a file, if it is one of its range
abbrev pub with_value_of : Shape → Parameter → List ℕ → Option Shape
with_value_of shape parameter value = option_map (with_field shape parameter) (setting_of (value_range parameter) value)

-- a behaviour with the value of the parameter of its type that has this name
abbrev pub with_named : Shape → List ℕ → List ℕ → Option Shape
with_named shape name value = option_and_then (λ parameter. with_value_of shape parameter value) (parameter_of shape name)

-- A behaviour with one more pair: its weight or a parameter of its type, with a value of its range. The relations between
-- parameters aren't judged.
abbrev pub with_param : Spec → List ℕ → List ℕ → Option Spec
with_param spec name value =
    if is_called_common name Weight then option_map (λ weight. record spec { weight = weight }) (weight_of value)
    else option_map (λ shape. record spec { shape = shape }) (with_named spec.shape name value)

-- a list of places isn't given, or a station that isn't taken anew
abbrev pub lacks_places : Shape → Bool
lacks_places (Waypoint [] speed capture slip reverse repeat) = true
lacks_places (Loiter [] speed capture slip clockwise) = true
lacks_places (StationKeep point anew inner outer speed) = not (is_some point || anew)
lacks_places other = false

-- the outer radius of a station is above the inner one, and the far distance of a contact above the near one
abbrev pub keeps_relations : Shape → Bool
keeps_relations (StationKeep point anew inner outer speed) = int_lt inner outer
keeps_relations (AvoidCollision avoidance) = int_lt avoidance.near avoidance.far
keeps_relations other = true

-- a behaviour that keeps clear of a contact
abbrev pub is_avoid : Shape → Bool
is_avoid (AvoidCollision avoidance) = true
is_avoid other = false

-- the names of the axes that a behaviour's function mentions; that of a station mentions course also within the inner radius,
-- where it wants nothing of it
abbrev pub axes_of : Shape → List (List ℕ)
axes_of (Heading summit peak base delta) = codes "course" ∷ []
axes_of (Speed summit peak base delta) = codes "speed" ∷ []
axes_of (Depth summit peak base delta) = codes "depth" ∷ []
axes_of (MaxDepth depth base) = codes "depth" ∷ []
axes_of Timer = []
axes_of (Waypoint points speed capture slip reverse repeat) = codes "course" ∷ codes "speed" ∷ []
axes_of (Loiter polygon speed capture slip clockwise) = codes "course" ∷ codes "speed" ∷ []
axes_of (StationKeep point anew inner outer speed) = codes "course" ∷ codes "speed" ∷ []
axes_of (OpRegion polygon depth time) = []
axes_of (AvoidCollision avoidance) = codes "course" ∷ codes "speed" ∷ []

-- the domain has an axis of this name
abbrev pub has_axis : List Axis → List ℕ → Bool
has_axis domain name = list_any (λ axis. bytes_eq axis.name name) domain

-- the domain has the axes that a behaviour needs
abbrev pub has_axes : List Axis → Shape → Bool
has_axes domain shape = list_all (has_axis domain) (axes_of shape)
