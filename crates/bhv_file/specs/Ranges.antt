-- The ranges of a behaviour's parameters.
use Rattle.std.specs.Prelude.{ℤ, ◌≤◌, ◌^◌, Bool, true, not, ◌&&◌, ◌||◌, nat_le, List, length, IsTrue, IfSome}
use Rattle.helm_geo.specs.declared.spot.Spot.{Spot}
use Rattle.helm_geo.specs.Plane.{is_spot}
use Rattle.helm_geo.specs.Polygons.{are_spots, convex}
use Rattle.bhv_file.specs.declared.spec.Avoidance.{Avoidance}
use Rattle.bhv_file.specs.declared.spec.Shape.{Shape}
use Rattle.bhv_file.specs.declared.spec.Shape.TheVariants.{Heading, Speed, Depth, MaxDepth, Timer, Waypoint, Loiter, StationKeep, OpRegion, AvoidCollision}
use Rattle.bhv_file.specs.declared.spec.Spec.{Spec}
use Rattle.bhv_file.specs.declared.table.Parameter.{Parameter}
use Rattle.bhv_file.specs.declared.table.Parameter.TheVariants.{Heading as OfHeading, Speed as OfSpeed, Depth as OfDepth, PeakWidth, BaseWidth, SummitDelta, MaxDepth as OfMaxDepth, CaptureRadius, SlipRadius, InnerRadius, OuterRadius, OuterSpeed, ContactX, ContactY, ContactSpeed, ContactHeading, NearDistance, FarDistance}
use Rattle.bhv_file.specs.declared.table.ValueRange.{ValueRange}
use Rattle.bhv_file.specs.declared.table.ValueRange.TheVariants.{Number}
use Rattle.bhv_file.specs.Table.{value_range}
use Rattle.bhv_file.specs.Values.{is_contact, is_piece_size, lies_between}

-- the number is one of a range of numbers
abbrev pub InRange : ValueRange → ℤ → Type 0
InRange (Number low high) number = IsTrue (lies_between low high number)
InRange other number = Unit {0}

-- the number is one that the table allows the parameter
abbrev pub IsAllowed : Parameter → ℤ → Type 0
IsAllowed parameter number = InRange (value_range parameter) number

-- up to 64 places, and at least one if they must be given
abbrev pub are_places : Bool → List Spot → Bool
are_places given spots = (nat_le 1 (length spots) || not given) && nat_le (length spots) 64 && are_spots spots

-- the vertices of a convex polygon, or none if they needn't be given
abbrev pub are_vertices : Bool → List Spot → Bool
are_vertices given spots = (convex spots || (not given && nat_le (length spots) 0)) && are_spots spots

-- each parameter of a behaviour that keeps clear of a contact is in its range
abbrev pub AvoidsInRanges : Avoidance → Type 0
AvoidsInRanges avoidance =
    IfSome avoidance.contact (λ name. IsTrue (is_contact name))
    × IfSome avoidance.contact_x (λ x. IsAllowed ContactX x) × IfSome avoidance.contact_y (λ y. IsAllowed ContactY y)
    × IfSome avoidance.contact_speed (λ speed. IsAllowed ContactSpeed speed) × IfSome avoidance.contact_heading (λ heading. IsAllowed ContactHeading heading)
    × IsAllowed NearDistance avoidance.near × IsAllowed FarDistance avoidance.far × IsTrue (is_piece_size avoidance.piece_size)

-- Each parameter of a behaviour is in its range. A list of places may be empty if it needn't be given yet.
abbrev pub InRanges : Bool → Shape → Type 0
InRanges given (Heading summit peak base delta) = IsAllowed OfHeading summit × IsAllowed PeakWidth peak × IsAllowed BaseWidth base × IsAllowed SummitDelta delta
InRanges given (Speed summit peak base delta) = IsAllowed OfSpeed summit × IsAllowed PeakWidth peak × IsAllowed BaseWidth base × IsAllowed SummitDelta delta
InRanges given (Depth summit peak base delta) = IsAllowed OfDepth summit × IsAllowed PeakWidth peak × IsAllowed BaseWidth base × IsAllowed SummitDelta delta
InRanges given (MaxDepth depth base) = IsAllowed OfMaxDepth depth × IsAllowed BaseWidth base
InRanges given Timer = Unit {0}
InRanges given (Waypoint points speed capture slip reverse repeat) =
    IsTrue (are_places given points) × IsAllowed OfSpeed speed × IsAllowed CaptureRadius capture × IsAllowed SlipRadius slip × IfSome repeat (λ times. times ≤ 10 ^ 6)
InRanges given (Loiter polygon speed capture slip clockwise) =
    IsTrue (are_vertices given polygon) × IsAllowed OfSpeed speed × IsAllowed CaptureRadius capture × IsAllowed SlipRadius slip
InRanges given (StationKeep point anew inner outer speed) =
    IfSome point (λ spot. IsTrue (is_spot spot)) × IsAllowed InnerRadius inner × IsAllowed OuterRadius outer × IsAllowed OuterSpeed speed
InRanges given (OpRegion polygon depth time) =
    IfSome polygon (λ vertices. IsTrue (are_vertices true vertices)) × IfSome depth (λ number. IsAllowed OfMaxDepth number) × IfSome time (λ milliseconds. milliseconds ≤ 10 ^ 9)
InRanges given (AvoidCollision avoidance) = AvoidsInRanges avoidance

-- A behaviour's weight is at most 10,000, in thousandths, and each of its parameters is in its range.
pub record KeepsRanges (spec : Spec) : Type 0 where
  pub weight : spec.weight ≤ 10 ^ 7
  pub parameters : InRanges true spec.shape
