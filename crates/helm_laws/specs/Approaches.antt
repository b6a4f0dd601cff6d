-- What keeping clear of a contact is worth by its closest approach, without sampling.
use Rattle.std.specs.Prelude.{◌≡◌, ℕ, ◌*◌, ◌/◌, ◌<◌, true, false, IsTrue, List, slice_index, Some}
use Rattle.ivp_domain.specs.declared.axis.Axis.{Axis}
use Rattle.ivp_domain.specs.declared.boxes.Point.{Point}
use Rattle.ivp_domain.specs.Domains.{is_domain}
use Rattle.ivp_build.specs.Sampled.{first_of_run}
use Rattle.bhv_file.specs.declared.spec.Avoidance.{Avoidance}
use Rattle.bhv_file.specs.declared.spec.Shape.TheVariants.{AvoidCollision}
use Rattle.bhv_file.specs.Known.{position_of}
use Rattle.bhv_file.specs.Params.{has_axes}
use Rattle.bhv_kinds.specs.Changes.{params_at}
use Rattle.bhv_life.specs.Lives.{is_stepped}
use Rattle.contact_avoid.specs.declared.motion.Track.{Track}
use Rattle.contact_avoid.specs.Avoids.{clearance_at, track_in}
use Rattle.helm_geo.specs.declared.spot.Spot.{Spot}
use Rattle.helm_core.specs.Behaviors.{BhvSoFar, beginning_at, judged_at, past_so_far}
use Rattle.helm_core.specs.Ticks.{Seen}
use Rattle.helm_core.specs.Worths.{worth_to}
use Rattle.helm_laws.specs.Bounds.{weight_in}

-- the behaviour is stepped, and after its updates it keeps clear of a contact that isn't clear for good; the vehicle is seen here, and
-- it is known how the contact moves
pub record KeepsClear (axes : List Axis) (seen : Seen) (one : BhvSoFar) (avoidance : Avoidance) (here : Spot) (track : Track) : Type 0 where
  pub stepped : is_stepped one.block.common (past_so_far one) (beginning_at seen one.block.common) ≡ true
  pub shape : (params_at one.block.spec (judged_at axes seen one).changes).shape ≡ AvoidCollision avoidance
  pub served : IsTrue (has_axes axes (AvoidCollision avoidance))
  pub unresolved : avoidance.resolved ≡ false
  pub position : position_of seen.known ≡ Some here
  pub moves : track_in avoidance ≡ Some track

-- each place of the point is the first of its run of this size, so the point is the low corner of its box
abbrev pub IsSampledPoint : ℕ → Point → Type 0
IsSampledPoint size point = (axis : ℕ) → axis < 4 → first_of_run size (slice_index point.at axis / size) ≡ slice_index point.at axis

-- At such a point it is worth its weight times the utility of the closest approach itself.
abbrev pub WorthOfApproach : Type 0
WorthOfApproach = (axes : List Axis) (seen : Seen) (one : BhvSoFar) (avoidance : Avoidance) (here : Spot) (track : Track) → IsTrue (is_domain axes) → KeepsClear axes seen one avoidance here track
    → (point : Point) → IsSampledPoint avoidance.piece_size point → worth_to axes seen point one ≡ weight_in axes seen one * clearance_at axes avoidance here track point

-- With boxes of one place each it is so at every point.
abbrev pub WorthOfEachApproach : Type 0
WorthOfEachApproach = (axes : List Axis) (seen : Seen) (one : BhvSoFar) (avoidance : Avoidance) (here : Spot) (track : Track) → IsTrue (is_domain axes) → KeepsClear axes seen one avoidance here track
    → avoidance.piece_size ≡ 1 → (point : Point) → worth_to axes seen point one ≡ weight_in axes seen one * clearance_at axes avoidance here track point
