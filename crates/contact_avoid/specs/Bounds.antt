-- Bounds of whole numbers and of vectors.
use Rattle.std.specs.Prelude.{ℕ, ℤ, pos, neg_ℤ, ◌≤ℤ◌, int_lt, List, codes, IsTrue, ◌^◌}
use Rattle.ivp_domain.specs.declared.axis.Axis.{Axis}
use Rattle.bhv_file.specs.declared.spec.Avoidance.{Avoidance}
use Rattle.bhv_file.specs.Params.{has_axis}
use Rattle.bhv_file.specs.Ranges.{AvoidsInRanges}
use Rattle.bhv_file.specs.Serving.{is_slow}
use Rattle.contact_avoid.specs.declared.motion.Track.{Track}
use Rattle.contact_avoid.specs.declared.vector.Vector.{Vector}

-- a number lies between two others, which may be it
abbrev pub LiesBetween : ℤ → ℤ → ℤ → Type 0
LiesBetween low high number = (low ≤ℤ number) × (number ≤ℤ high)

-- a number is no farther from 0 than this
abbrev pub LiesWithin : ℕ → ℤ → Type 0
LiesWithin limit number = LiesBetween (neg_ℤ (pos limit)) (pos limit) number

-- neither part of a vector is
abbrev pub PartsLieWithin : ℕ → Vector → Type 0
PartsLieWithin limit vector = LiesWithin limit vector.x × LiesWithin limit vector.y

-- a contact's numbers are in their ranges
pub record IsTrack (track : Track) : Type 0 where
  pub x : LiesWithin (10 ^ 9) track.x
  pub y : LiesWithin (10 ^ 9) track.y
  pub speed : LiesBetween (pos 0) (pos 100000) track.speed
  pub heading : LiesBetween (pos 0) (pos 360000) track.heading

-- the utility of these parameters is there at each point of these axes
pub record MayServe (axes : List Axis) (avoidance : Avoidance) : Type 0 where
  pub ranges : AvoidsInRanges avoidance
  pub apart : IsTrue (int_lt avoidance.near avoidance.far)
  pub course : IsTrue (has_axis axes (codes "course"))
  pub speed : IsTrue (has_axis axes (codes "speed"))
  pub slow : IsTrue (is_slow axes)
