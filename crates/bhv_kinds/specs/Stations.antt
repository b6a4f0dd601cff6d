-- Keeping a station: where it is, and how fast the vehicle goes back to it.
use Rattle.std.specs.Prelude.{ℕ, ◌-◌, ◌*◌, ◌/◌, nat_le, Bool, if◌then◌else◌, List, [], ◌∷◌, Option, None}
use Rattle.std.specs.Option.{option_or}
use Rattle.helm_geo.specs.declared.spot.Spot.{Spot}
use Rattle.helm_geo.specs.Plane.{distance_squared, isqrt}
use Rattle.bhv_file.specs.Known.{position_of}
use Rattle.bhv_kinds.specs.Changes.{KindChange, Updated, Stepped}

-- the centre after a step: as it was, or the vehicle's place if it is taken anew or wasn't known
abbrev pub centre_after : Bool → Option Spot → Option Spot → Option Spot
centre_after fresh centre here = if fresh then here else option_or centre here

-- where the vehicle was at the first step with a known position since the last fresh one
abbrev pub centre_at : List KindChange → Option Spot
centre_at [] = None
centre_at (Updated axes text ∷ past) = centre_at past
centre_at (Stepped step ∷ past) = centre_after step.fresh (centre_at past) (position_of step.known)

-- the distance of two places, rounded down
abbrev pub distance_of : Spot → Spot → ℕ
distance_of p q = isqrt (distance_squared p q)

-- the speed at a distance beyond the inner radius: it rises from there, and is the outer speed from the outer radius on
abbrev pub return_speed : ℕ → ℕ → ℕ → ℕ → ℕ
return_speed inner outer speed distance = if nat_le outer distance then speed else speed * (distance - inner) / (outer - inner)
