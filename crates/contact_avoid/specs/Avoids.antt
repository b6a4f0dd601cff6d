-- The behaviour that keeps clear of a contact: what its updates make of its parameters, and what its steps give.
use Rattle.std.specs.Prelude.{◌≡◌, ℕ, ℤ, pos, nat_abs, Bool, true, false, if◌then◌else◌, List, codes, Option, Some, None, option_map, option_and_then, is_some, IsTrue}
use Rattle.ivp_domain.specs.declared.axis.Axis.{Axis}
use Rattle.ivp_domain.specs.declared.boxes.Point.{Point}
use Rattle.ivp_domain.specs.Axes.{value_on}
use Rattle.ivp_func.specs.declared.piece.Piece.{Piece}
use Rattle.ivp_func.specs.Functions.{Function}
use Rattle.ivp_build.specs.Sampled.{uniform_at, uniform_pieces}
use Rattle.helm_cond.specs.Learnt.{Knowledge}
use Rattle.helm_geo.specs.declared.spot.Spot.{Spot}
use Rattle.bhv_file.specs.declared.out.BhvFault.TheVariants.{NoPosition}
use Rattle.bhv_file.specs.declared.out.Out.{Out}
use Rattle.bhv_file.specs.declared.spec.Avoidance.{Avoidance}
use Rattle.bhv_file.specs.declared.spec.Shape.{Shape}
use Rattle.bhv_file.specs.declared.spec.Shape.TheVariants.{AvoidCollision}
use Rattle.bhv_file.specs.declared.spec.Spec.{Spec}
use Rattle.bhv_file.specs.Known.{position_of}
use Rattle.bhv_file.specs.Named.{named_axis, place_on}
use Rattle.bhv_file.specs.Params.{has_axes, is_avoid}
use Rattle.bhv_file.specs.Serving.{suits}
use Rattle.bhv_file.specs.Validity.{IsValidSpec}
use Rattle.contact_avoid.specs.declared.motion.Track.{Track}
use Rattle.contact_avoid.specs.Approach.{approach_utility}

-- valid parameters of a behaviour that keeps clear of a contact
pub record IsAvoid (spec : Spec) : Type 0 where
  pub valid : IsValidSpec spec
  pub avoids : is_avoid spec.shape ≡ true

-- the functions of a behaviour can be made over these axes: they have those that it needs, and suit it
pub record CanServe (axes : List Axis) (spec : Spec) : Type 0 where
  pub named : IsTrue (has_axes axes spec.shape)
  pub suited : IsTrue (suits axes spec.shape)

-- where the contact was reported to be and how it moved, if these four numbers are given
abbrev pub track_from : Option ℤ → Option ℤ → Option ℤ → Option ℤ → Option Track
track_from x y speed heading =
    option_and_then (λ east. option_and_then (λ north. option_and_then (λ fast. option_map (λ angle. record { x = east; y = north; speed = fast; heading = angle }) heading) speed) y) x

-- where the contact of these parameters was last reported to be and how it moved, however long ago that was, if all four numbers
-- are given
abbrev pub track_in : Avoidance → Option Track
track_in avoidance = track_from avoidance.contact_x avoidance.contact_y avoidance.contact_speed avoidance.contact_heading

-- the number at the place that a point has on the axis of this name
abbrev pub number_named : List Axis → List ℕ → Point → ℤ
number_named axes name point = value_on (named_axis axes name) (place_on axes name point)

-- The utility of a point's speed and course by the closest approach of the contact, before it is sampled.
abbrev pub clearance_at : List Axis → Avoidance → Spot → Track → Point → ℕ
clearance_at axes avoidance own track point =
    approach_utility (nat_abs avoidance.near) (nat_abs avoidance.far) own track (number_named axes (codes "speed") point) (number_named axes (codes "course") point)

-- the pieces of keeping clear of a contact: its utility, sampled in boxes of the piece size
abbrev pub clearance_pieces : List Axis → Avoidance → Spot → Track → List Piece
clearance_pieces axes avoidance own track = uniform_pieces axes avoidance.piece_size (λ point. pos (clearance_at axes avoidance own track point))

-- what keeping clear of a contact is worth at a point: the value there of its utility, sampled in boxes of the piece size
abbrev pub sampled_clearance : List Axis → Avoidance → Spot → Track → Point → ℕ
sampled_clearance axes avoidance own track point = nat_abs (uniform_at axes avoidance.piece_size (λ at. pos (clearance_at axes avoidance own track at)) point)

-- the function of keeping clear of a contact, of those sampled pieces
abbrev pub clearance_function : List Axis → Avoidance → Spot → Track → Function
clearance_function axes avoidance own track = record { axes = axes; pieces = clearance_pieces axes avoidance own track }

-- a step that gives nothing
abbrev pub nothing_out : Out
nothing_out = record { func = None; course = false; speed = false; depth = false; done = false; fault = None }

-- what keeping clear of a contact gives: the function of one that moves so, if that is known
abbrev pub out_clear_of : List Axis → Avoidance → Spot → Option Track → Out
out_clear_of axes avoidance own None = nothing_out
out_clear_of axes avoidance own (Some track) =
    record { func = Some (clearance_function axes avoidance own track); course = true; speed = true; depth = false; done = false; fault = None }

-- what keeping clear of a contact gives at the own position; if that isn't known, there is a fault
abbrev pub out_seen_from : List Axis → Avoidance → Option Spot → Out
out_seen_from axes avoidance None = record nothing_out { fault = Some NoPosition }
out_seen_from axes avoidance (Some own) = out_clear_of axes avoidance own (track_in avoidance)

-- what keeping clear of a contact gives: it is done if the contact is clear for good
abbrev pub out_by : List Axis → Avoidance → Knowledge → Out
out_by axes avoidance known = if avoidance.resolved then record nothing_out { done = true } else out_seen_from axes avoidance (position_of known)

-- What a step gives over these axes, by what is known; nothing if it is of another type.
abbrev pub avoid_out : List Axis → Shape → Knowledge → Out
avoid_out axes (AvoidCollision avoidance) known = out_by axes avoidance known
avoid_out axes other known = nothing_out

-- the behaviour keeps clear of a contact, and the four numbers of that are given
abbrev pub has_track : Shape → Bool
has_track (AvoidCollision avoidance) = is_some (track_in avoidance)
has_track other = false

-- the utility at a point by a contact that moves so; none if that isn't known
abbrev pub utility_clear_of : List Axis → Avoidance → Spot → Point → Option Track → ℕ
utility_clear_of axes avoidance own point None = 0
utility_clear_of axes avoidance own point (Some track) = clearance_at axes avoidance own track point

-- The utility of a point if the own ship is here; none if its type is another.
abbrev pub avoid_utility : List Axis → Shape → Spot → Point → ℕ
avoid_utility axes (AvoidCollision avoidance) own point = utility_clear_of axes avoidance own point (track_in avoidance)
avoid_utility axes other own point = 0
