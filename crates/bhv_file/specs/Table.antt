-- The table of the parameters of behaviours: by which names a file sets each, which values it may have, which
-- types have it, and what it is if it isn't given.
use Rattle.std.specs.Prelude.{ℕ, pos, neg_ℤ, Bool, true, false, if◌then◌else◌, List, [], ◌∷◌, codes, bytes_eq, find, Option, Some, None}
use Rattle.std.specs.List.{list_any}
use Rattle.std.specs.Str.{str_eq_ignore_ascii_case}
use Rattle.bhv_file.specs.declared.spec.Shape.{Shape}
use Rattle.bhv_file.specs.declared.spec.Shape.TheVariants.{Heading, Speed, Depth, MaxDepth, Timer, Waypoint, Loiter, StationKeep, OpRegion, AvoidCollision}
use Rattle.bhv_file.specs.declared.table.Parameter.{Parameter}
use Rattle.bhv_file.specs.declared.table.Parameter.TheVariants.{Heading as OfHeading, Speed as OfSpeed, Depth as OfDepth, PeakWidth, BaseWidth, SummitDelta, MaxDepth as OfMaxDepth, Points, CaptureRadius, SlipRadius, Order, Repeat, Polygon, Clockwise, StationPoint, CenterActivate, InnerRadius, OuterRadius, OuterSpeed, MaxTime, Contact, ContactX, ContactY, ContactSpeed, ContactHeading, NearDistance, FarDistance, Resolved, PieceSize}
use Rattle.bhv_file.specs.declared.table.CommonParameter.{CommonParameter}
use Rattle.bhv_file.specs.declared.table.CommonParameter.TheVariants.{Name, Weight, Condition, RunFlag, IdleFlag, ActiveFlag, InactiveFlag, EndFlag, Updates, Duration, IdleDecay, Perpetual, Templating}
use Rattle.bhv_file.specs.declared.table.ValueRange.{ValueRange}
use Rattle.bhv_file.specs.declared.table.ValueRange.TheVariants.{Number, Time, Flag, Order as OrderWord, Repeat as Repeats, Places, Polygon as PolygonOf, Place, Contact as ContactName, Size}

-- the names of a parameter, the first of them its own
abbrev pub parameter_names : Parameter → List (List ℕ)
parameter_names OfHeading = codes "heading" ∷ []
parameter_names OfSpeed = codes "speed" ∷ []
parameter_names OfDepth = codes "depth" ∷ []
parameter_names PeakWidth = codes "peakwidth" ∷ []
parameter_names BaseWidth = codes "basewidth" ∷ []
parameter_names SummitDelta = codes "summitdelta" ∷ []
parameter_names OfMaxDepth = codes "max_depth" ∷ []
parameter_names Points = codes "points" ∷ codes "point" ∷ codes "polygon" ∷ []
parameter_names CaptureRadius = codes "capture_radius" ∷ codes "radius" ∷ []
parameter_names SlipRadius = codes "slip_radius" ∷ []
parameter_names Order = codes "order" ∷ []
parameter_names Repeat = codes "repeat" ∷ []
parameter_names Polygon = codes "polygon" ∷ []
parameter_names Clockwise = codes "clockwise" ∷ []
parameter_names StationPoint = codes "station_pt" ∷ codes "point" ∷ []
parameter_names CenterActivate = codes "center_activate" ∷ []
parameter_names InnerRadius = codes "inner_radius" ∷ []
parameter_names OuterRadius = codes "outer_radius" ∷ []
parameter_names OuterSpeed = codes "outer_speed" ∷ []
parameter_names MaxTime = codes "max_time" ∷ []
parameter_names Contact = codes "contact" ∷ []
parameter_names ContactX = codes "contact_x" ∷ []
parameter_names ContactY = codes "contact_y" ∷ []
parameter_names ContactSpeed = codes "contact_speed" ∷ []
parameter_names ContactHeading = codes "contact_heading" ∷ []
parameter_names NearDistance = codes "min_util_cpa_dist" ∷ []
parameter_names FarDistance = codes "max_util_cpa_dist" ∷ []
parameter_names Resolved = codes "resolved" ∷ []
parameter_names PieceSize = codes "piece_size" ∷ []

-- numbers from `low` to `high`, in thousandths
abbrev pub numbers : ℕ → ℕ → ValueRange
numbers low high = Number (pos low) (pos high)

-- numbers up to this one, either way
abbrev pub numbers_within : ℕ → ValueRange
numbers_within most = Number (neg_ℤ (pos most)) (pos most)

-- the values that a parameter may have: widths and radii are up to 1,000,000, speeds up to 1,000, depths and distances up to
-- 10,000; a contact is within 1,000,000 either way, and its speed is up to 100
abbrev pub value_range : Parameter → ValueRange
value_range OfHeading = numbers 0 360000
value_range OfSpeed = numbers 0 1000000
value_range OfDepth = numbers 0 10000000
value_range PeakWidth = numbers 0 1000000000
value_range BaseWidth = numbers 0 1000000000
value_range SummitDelta = numbers 0 100000
value_range OfMaxDepth = numbers 0 10000000
value_range Points = Places
value_range CaptureRadius = numbers 1 1000000000
value_range SlipRadius = numbers 0 1000000000
value_range Order = OrderWord
value_range Repeat = Repeats
value_range Polygon = PolygonOf
value_range Clockwise = Flag
value_range StationPoint = Place
value_range CenterActivate = Flag
value_range InnerRadius = numbers 1 1000000000
value_range OuterRadius = numbers 0 1000000000
value_range OuterSpeed = numbers 0 1000000
value_range MaxTime = Time
value_range Contact = ContactName
value_range ContactX = numbers_within 1000000000
value_range ContactY = numbers_within 1000000000
value_range ContactSpeed = numbers 0 100000
value_range ContactHeading = numbers 0 360000
value_range NearDistance = numbers 0 10000000
value_range FarDistance = numbers 0 10000000
value_range Resolved = Flag
value_range PieceSize = Size

-- the parameters of a type
abbrev pub parameters_of : Shape → List Parameter
parameters_of (Heading summit peak base delta) = OfHeading ∷ PeakWidth ∷ BaseWidth ∷ SummitDelta ∷ []
parameters_of (Speed summit peak base delta) = OfSpeed ∷ PeakWidth ∷ BaseWidth ∷ SummitDelta ∷ []
parameters_of (Depth summit peak base delta) = OfDepth ∷ PeakWidth ∷ BaseWidth ∷ SummitDelta ∷ []
parameters_of (MaxDepth depth base) = OfMaxDepth ∷ BaseWidth ∷ []
parameters_of Timer = []
parameters_of (Waypoint points speed capture slip reverse repeat) = Points ∷ OfSpeed ∷ CaptureRadius ∷ SlipRadius ∷ Order ∷ Repeat ∷ []
parameters_of (Loiter polygon speed capture slip clockwise) = Polygon ∷ OfSpeed ∷ CaptureRadius ∷ SlipRadius ∷ Clockwise ∷ []
parameters_of (StationKeep point anew inner outer speed) = StationPoint ∷ CenterActivate ∷ InnerRadius ∷ OuterRadius ∷ OuterSpeed ∷ []
parameters_of (OpRegion polygon depth time) = Polygon ∷ OfMaxDepth ∷ MaxTime ∷ []
parameters_of (AvoidCollision avoidance) =
    Contact ∷ ContactX ∷ ContactY ∷ ContactSpeed ∷ ContactHeading ∷ NearDistance ∷ FarDistance ∷ Resolved ∷ PieceSize ∷ []

-- a type by its name in a file, and its parameters if they aren't given
pub record TypeRow : Type 0 where
  pub type : List ℕ
  pub defaults : Shape

-- the types; what has no default is 0, or no place, until it is given
abbrev pub types : List TypeRow
types =
    record { type = codes "BHV_ConstantHeading"; defaults = Heading (pos 0) (pos 10000) (pos 170000) (pos 25000) }
    ∷ record { type = codes "BHV_ConstantSpeed"; defaults = Speed (pos 0) (pos 100) (pos 1000) (pos 25000) }
    ∷ record { type = codes "BHV_ConstantDepth"; defaults = Depth (pos 0) (pos 2000) (pos 20000) (pos 25000) }
    ∷ record { type = codes "BHV_MaxDepth"; defaults = MaxDepth (pos 0) (pos 20000) }
    ∷ record { type = codes "BHV_Timer"; defaults = Timer }
    ∷ record { type = codes "BHV_Waypoint"; defaults = Waypoint [] (pos 0) (pos 3000) (pos 15000) false (Some 0) }
    ∷ record { type = codes "BHV_Loiter"; defaults = Loiter [] (pos 0) (pos 10000) (pos 20000) true }
    ∷ record { type = codes "BHV_StationKeep"; defaults = StationKeep None false (pos 4000) (pos 15000) (pos 1200) }
    ∷ record { type = codes "BHV_OpRegion"; defaults = OpRegion None None None }
    ∷ record {
      type = codes "BHV_AvoidCollision";
      defaults = AvoidCollision (record { contact = None; contact_x = None; contact_y = None; contact_speed = None; contact_heading = None; near = pos 10000; far = pos 75000; resolved = false; piece_size = 12 });
    } ∷ []

-- the defaults of the type of this name among these; the case of letters counts
abbrev pub defaults_among : List ℕ → List TypeRow → Option Shape
defaults_among name [] = None
defaults_among name (row ∷ rows) = if bytes_eq name row.type then Some row.defaults else defaults_among name rows

-- the defaults of the type of this name
abbrev pub defaults_of : List ℕ → Option Shape
defaults_of name = defaults_among name types

-- the type has a number without a default
abbrev pub needs_number : Shape → Bool
needs_number Timer = false
needs_number (StationKeep point anew inner outer speed) = false
needs_number (OpRegion polygon depth time) = false
needs_number (AvoidCollision avoidance) = false
needs_number other = true

-- the parameter is the one number without a default of a type that has such a number
abbrev pub is_needed : Parameter → Bool
is_needed OfHeading = true
is_needed OfSpeed = true
is_needed OfDepth = true
is_needed OfMaxDepth = true
is_needed other = false

-- the parameter has this name; letters of both cases are the same
abbrev pub is_called : Parameter → List ℕ → Bool
is_called parameter name = list_any (str_eq_ignore_ascii_case name) (parameter_names parameter)

-- the parameter of a type that has this name
abbrev pub parameter_of : Shape → List ℕ → Option Parameter
parameter_of shape name = find (λ parameter. is_called parameter name) (parameters_of shape)

-- the parameters that all types have
abbrev pub common_parameters : List CommonParameter
common_parameters =
    Name ∷ Weight ∷ Condition ∷ RunFlag ∷ IdleFlag ∷ ActiveFlag ∷ InactiveFlag ∷ EndFlag ∷ Updates ∷ Duration ∷ IdleDecay ∷ Perpetual ∷ Templating ∷ []

-- the name of a common parameter
abbrev pub common_name : CommonParameter → List ℕ
common_name Name = codes "name"
common_name Weight = codes "pwt"
common_name Condition = codes "condition"
common_name RunFlag = codes "runflag"
common_name IdleFlag = codes "idleflag"
common_name ActiveFlag = codes "activeflag"
common_name InactiveFlag = codes "inactiveflag"
common_name EndFlag = codes "endflag"
common_name Updates = codes "updates"
common_name Duration = codes "duration"
common_name IdleDecay = codes "duration_idle_decay"
common_name Perpetual = codes "perpetual"
common_name Templating = codes "templating"

-- the common parameter has this name; letters of both cases are the same
abbrev pub is_called_common : List ℕ → CommonParameter → Bool
is_called_common name parameter = str_eq_ignore_ascii_case name (common_name parameter)

-- the common parameter of this name
abbrev pub common_named : List ℕ → Option CommonParameter
common_named name = find (is_called_common name) common_parameters
