-- Utilities: shapes on named axes, and the function of each.
use Rattle.std.specs.Prelude.{ℕ, ◌+◌, ◌*◌, ℤ, pos, List, codes}
use Rattle.ivp_domain.specs.declared.axis.Axis.{Axis}
use Rattle.ivp_domain.specs.declared.boxes.Point.{Point}
use Rattle.ivp_func.specs.declared.piece.Piece.{Piece}
use Rattle.ivp_func.specs.Functions.{Function}
use Rattle.ivp_build.specs.declared.shape.Peak.{Peak}
use Rattle.ivp_build.specs.Builders.{at_most_pieces, flat_pieces, peak_pieces}
use Rattle.ivp_build.specs.Shapes.{at_most_at, peak_at}
use Rattle.ivp_build.specs.Sums.{couple_pieces}
use Rattle.helm_geo.specs.declared.spot.Spot.{Spot}
use Rattle.bhv_file.specs.declared.spec.Avoidance.{Avoidance}
use Rattle.bhv_file.specs.Named.{axis_number, named_axis, place_on}
use Rattle.contact_avoid.specs.declared.motion.Track.{Track}
use Rattle.contact_avoid.specs.Avoids.{clearance_pieces, sampled_clearance}

-- what a behaviour wants: one value everywhere, a peak or an upper limit on an axis, the sum of two, or to keep clear of a contact
-- that moves so, from where the vehicle is
pub data Utility : Type 0 where
  Flat : ℕ → Utility
  PeakOn : List ℕ → Peak → Utility
  AtMostOn : List ℕ → ℤ → ℕ → ℕ → Utility
  Sum : Utility → Utility → Utility
  Clear : Avoidance → Spot → Track → Utility

-- what a utility is worth at a point; keeping clear of a contact is worth what its sampled pieces say
abbrev pub worth_at : List Axis → Utility → Point → ℕ
worth_at axes (Flat value) point = value
worth_at axes (PeakOn name peak) point = peak_at (named_axis axes name) peak (place_on axes name point)
worth_at axes (AtMostOn name limit basewidth max) point = at_most_at (named_axis axes name) limit basewidth max (place_on axes name point)
worth_at axes (Sum one other) point = worth_at axes one point + worth_at axes other point
worth_at axes (Clear avoidance here track) point = sampled_clearance axes avoidance here track point

-- the pieces of a utility over these axes
abbrev pub utility_pieces : List Axis → Utility → List Piece
utility_pieces axes (Flat value) = flat_pieces axes (pos value)
utility_pieces axes (PeakOn name peak) = peak_pieces axes (axis_number axes name) peak
utility_pieces axes (AtMostOn name limit basewidth max) = at_most_pieces axes (axis_number axes name) limit basewidth max
utility_pieces axes (Sum one other) = couple_pieces (utility_pieces axes one) (utility_pieces axes other)
utility_pieces axes (Clear avoidance here track) = clearance_pieces axes avoidance here track

-- the function of a utility over these axes
abbrev pub function_of : List Axis → Utility → Function
function_of axes utility = record { axes = axes; pieces = utility_pieces axes utility }

-- a peak of these widths, in thousandths
abbrev pub peak_of : List ℕ → ℤ → ℤ → ℤ → ℤ → ℕ → Utility
peak_of name summit peakwidth basewidth summitdelta max =
    PeakOn name (record { summit = summit; peakwidth = peakwidth; basewidth = basewidth; summitdelta = summitdelta; max = pos max })

-- to steer a course of `degree` degrees
abbrev pub steer : ℕ → Utility
steer degree = peak_of (codes "course") (pos (degree * 1000)) (pos 20000) (pos 160000) (pos 12500) 50000

-- to cruise at a speed
abbrev pub cruise : ℕ → Utility
cruise speed = peak_of (codes "speed") (pos speed) (pos 500) (pos 2000) (pos 12500) 50000
