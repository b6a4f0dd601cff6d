-- Targets: which place a behaviour makes for, when it has it, and which comes next.
use Rattle.std.specs.Prelude.{ℕ, suc, ◌-◌, ◌==◌, pos, nat_abs, nat_le, nat_lt, Bool, true, false, ◌&&◌, ◌||◌, not, if◌then◌else◌, List, [], ◌∷◌, length, fold, Option, Some, None, slice_get, unwrap_or}
use Rattle.std.specs.List.{range_with_len}
use Rattle.helm_geo.specs.declared.spot.Spot.{Spot}
use Rattle.helm_geo.specs.Plane.{distance_squared, is_right_of, within}
use Rattle.bhv_file.specs.declared.spec.Shape.{Shape}
use Rattle.bhv_file.specs.declared.spec.Shape.TheVariants.{Waypoint, Loiter}
use Rattle.bhv_file.specs.declared.spec.Spec.{Spec}
use Rattle.bhv_kinds.specs.declared.waypoint.Headway.{Headway}
use Rattle.bhv_file.specs.Updates.{gives_places}
use Rattle.bhv_file.specs.Known.{position_of}
use Rattle.bhv_kinds.specs.Changes.{KindStep, KindChange, Updated, Stepped, params_at, params_at_step}

-- the place of this number in a list; (0, 0) if there is none
abbrev pub spot_at : List Spot → ℕ → Spot
spot_at places number = unwrap_or (slice_get places number) (record { x = pos 0; y = pos 0 })

-- where the last step found the vehicle, however long ago that was, unless the places were given anew since
abbrev pub last_position : Spec → List KindChange → Option Spot
last_position spec [] = None
last_position spec (Updated axes text ∷ past) = if gives_places axes (params_at spec past) text then None else last_position spec past
last_position spec (Stepped step ∷ past) = position_of step.known

-- the vehicle was within the slip radius at the step before, however long ago that was, and is farther away now
abbrev pub has_slipped : ℕ → Spot → Option Spot → Spot → Bool
has_slipped slip target None now = false
has_slipped slip target (Some before) now = within before target slip && nat_lt (distance_squared before target) (distance_squared now target)

-- The target is captured within the capture radius, or if it was the target before and is slipped past.
abbrev pub is_captured : ℕ → ℕ → Spot → Bool → Option Spot → Spot → Bool
is_captured capture slip target same before now = within now target capture || (same && has_slipped slip target before now)

-- at the first point, for the first time
abbrev pub first_headway : Headway
first_headway = record { captured = 0; again = 0 }

-- a list is taken from the last point to the first
abbrev pub is_reversed : Shape → Bool
is_reversed (Waypoint points speed capture slip reverse repeat) = reverse
is_reversed other = false

-- the number of the target in a list of `count` points, once `captured` of them are captured, in their order or in reverse
abbrev pub target_number : ℕ → Bool → ℕ → ℕ
target_number count reverse captured = if reverse then count - 1 - captured else captured

-- a list may be begun again
abbrev pub may_repeat : Option ℕ → ℕ → Bool
may_repeat None again = true
may_repeat (Some limit) again = nat_lt again limit

-- the last point is captured next, and there are no repeats left
abbrev pub is_last_of : List Spot → Option ℕ → Headway → Bool
is_last_of points repeat headway = nat_le (length points) (suc headway.captured) && not (may_repeat repeat headway.again)

-- a waypoint behaviour is at its last point, and there are no repeats left
abbrev pub is_last : Shape → Headway → Bool
is_last (Waypoint points speed capture slip reverse repeat) headway = is_last_of points repeat headway
is_last other headway = false

-- how far a behaviour has come with one more point captured: after the last the list begins again, and when all is done so do the repeats
abbrev pub with_captured : List Spot → Option ℕ → Headway → Headway
with_captured points repeat headway =
    if is_last_of points repeat headway then first_headway
    else if nat_lt (suc headway.captured) (length points) then record { captured = suc headway.captured; again = headway.again }
    else record { captured = 0; again = suc headway.again }

-- a waypoint behaviour that has come so far captures its target at a place
abbrev pub captures_at : Shape → Bool → ℕ → Option Spot → Option Spot → Bool
captures_at (Waypoint points speed capture slip reverse repeat) was_reversed captured before (Some now) =
    let target = target_number (length points) reverse captured in
    is_captured (nat_abs capture) (nat_abs slip) (spot_at points target) (target == target_number (length points) was_reversed captured) before now
captures_at other was_reversed captured before now = false

-- how far a behaviour has come after a step that captured its target or not
abbrev pub headway_after : Shape → Bool → Headway → Headway
headway_after (Waypoint points speed capture slip reverse repeat) true headway = with_captured points repeat headway
headway_after other captured headway = headway

-- a step behind these changes captures the target of a waypoint behaviour that has come so far
abbrev pub captures : Spec → List KindChange → Headway → KindStep → Bool
captures spec past headway step =
    captures_at (params_at spec past).shape (is_reversed (params_at_step spec past).shape) headway.captured (last_position spec past) (position_of step.known)

-- How far a waypoint behaviour has come after these changes: an update of the points begins at the first.
abbrev pub headway_at : Spec → List KindChange → Headway
headway_at spec [] = first_headway
headway_at spec (Updated axes text ∷ past) =
    if gives_places axes (params_at spec past) text then record { captured = 0; again = (headway_at spec past).again } else headway_at spec past
headway_at spec (Stepped step ∷ past) = headway_after (params_at spec past).shape (captures spec past (headway_at spec past) step) (headway_at spec past)

-- the one of two vertices that is nearer, and the first if both are as near
abbrev pub nearer_vertex : List Spot → Spot → ℕ → ℕ → ℕ
nearer_vertex polygon here best other =
    if nat_lt (distance_squared (spot_at polygon other) here) (distance_squared (spot_at polygon best) here) then other else best

-- the vertex nearest to a place, and the first of several
abbrev pub nearest_vertex : List Spot → Spot → ℕ
nearest_vertex polygon here = fold (nearer_vertex polygon here) 0 (range_with_len 0 (length polygon))

-- the vertices of a convex polygon run clockwise, x pointing east and y north
abbrev pub is_clockwise : List Spot → Bool
is_clockwise (a ∷ b ∷ c ∷ others) = is_right_of a b c
is_clockwise vertices = false

-- the vertex after this one, clockwise or the other way
abbrev pub next_vertex : List Spot → Bool → ℕ → ℕ
next_vertex polygon clockwise vertex =
    if (if clockwise then is_clockwise polygon else not (is_clockwise polygon)) then (if nat_lt (suc vertex) (length polygon) then suc vertex else 0)
    else (if vertex == 0 then length polygon - 1 else vertex - 1)

-- there is a number, and it is this one
abbrev pub is_number : ℕ → Option ℕ → Bool
is_number number None = false
is_number number (Some other) = number == other

-- a step at a place captures the vertex that it makes for
abbrev pub captures_vertex : Shape → ℕ → Option ℕ → Option Spot → Spot → Bool
captures_vertex (Loiter polygon speed capture slip clockwise) vertex old before now =
    is_captured (nat_abs capture) (nat_abs slip) (spot_at polygon vertex) (is_number vertex old) before now
captures_vertex other vertex old before now = false

-- the vertex after one that a step makes for: the next, if it is captured
abbrev pub vertex_beyond : Shape → ℕ → Bool → ℕ
vertex_beyond (Loiter polygon speed capture slip clockwise) vertex true = next_vertex polygon clockwise vertex
vertex_beyond other vertex captured = vertex

-- the vertex after a step at a place: it makes for the one before, or for the nearest if none was chosen
abbrev pub vertex_after : Shape → Option ℕ → Option ℕ → Option Spot → Option Spot → Option ℕ
vertex_after (Loiter polygon speed capture slip clockwise) old chosen before (Some now) =
    let shape = Loiter polygon speed capture slip clockwise in
    let vertex = unwrap_or chosen (nearest_vertex polygon now) in
    Some (vertex_beyond shape vertex (captures_vertex shape vertex old before now))
vertex_after other old chosen before now = chosen

-- what was chosen, unless it is to be chosen anew
abbrev pub unless_fresh : Bool → Option ℕ → Option ℕ
unless_fresh fresh vertex = if fresh then None else vertex

-- The vertex that a loiter behaviour makes for after these changes: none if it is to be chosen anew.
abbrev pub vertex_at : Spec → List KindChange → Option ℕ
vertex_at spec [] = None
vertex_at spec (Updated axes text ∷ past) = if gives_places axes (params_at spec past) text then None else vertex_at spec past
vertex_at spec (Stepped step ∷ past) =
    vertex_after (params_at spec past).shape (vertex_at spec past) (unless_fresh step.fresh (vertex_at spec past)) (last_position spec past) (position_of step.known)
