-- What keeping clear of a contact is worth where its utility is sampled.
use Rattle.std.proofs.Common.{◌≡◌, ◌+ℤ◌, ◌*ℤ◌, ◌-◌, ◌*◌, ◌/◌, ◌<◌, ℕ, zero, suc, ℤ, pos, nat_abs, Bool, true, false, List, codes, Option, Some, refl, ap, ◌∙◌, arith}
use Rattle.std.specs.Prelude.{◌&&◌, if◌then◌else◌, slice_index, slice_index_or}
use Rattle.std.proofs.lemmas.Bool.{and_parts}
use Rattle.std.proofs.lemmas.Int.{ints}
use Rattle.ivp_domain.specs.declared.axis.Axis.{Axis}
use Rattle.ivp_domain.specs.declared.boxes.BoxN.{BoxN}
use Rattle.ivp_domain.specs.declared.boxes.Point.{Point}
use Rattle.ivp_domain.specs.Axes.{value_on}
use Rattle.ivp_domain.specs.Domains.{is_domain}
use Rattle.ivp_domain.proofs.Sizes.{four_axes}
use Rattle.ivp_build.specs.Sampled.{box_of, first_of_run, grown_at, low_corner, sampled_at, sampled_slopes, stays_in_range}
use Rattle.bhv_file.specs.declared.spec.Avoidance.{Avoidance}
use Rattle.bhv_file.specs.declared.spec.Shape.{Shape}
use Rattle.bhv_file.specs.declared.spec.Shape.TheVariants.{AvoidCollision}
use Rattle.bhv_file.specs.Known.{position_of}
use Rattle.bhv_file.specs.Named.{axis_number, named_axis}
use Rattle.bhv_file.specs.Params.{has_axis}
use Rattle.bhv_file.proofs.Named.{named_at}
use Rattle.bhv_kinds.specs.Changes.{params_at, step_of}
use Rattle.bhv_kinds.specs.Giving.{all_done, given_here, gives_by_type, keeping_clear, situation_at}
use Rattle.bhv_kinds.specs.Utilities.{Clear}
use Rattle.bhv_life.specs.Lives.{is_fresh, is_stepped}
use Rattle.contact_avoid.specs.declared.motion.Track.{Track}
use Rattle.contact_avoid.specs.Avoids.{clearance_at, sampled_clearance, track_in}
use Rattle.contact_avoid.specs.Approach.{approach_utility}
use Rattle.helm_geo.specs.declared.spot.Spot.{Spot}
use Rattle.helm_core.specs.Behaviors.{BhvSoFar, Judged, beginning_at, judged_at, past_so_far}
use Rattle.helm_core.specs.Ticks.{Seen}
use Rattle.helm_core.specs.Worths.{times_worth, wanted_by_step}
use Rattle.helm_laws.specs.Approaches.{IsSampledPoint, WorthOfApproach, WorthOfEachApproach}
use Rattle.helm_laws.specs.Bounds.{weight_in}

-- the low corner of its box has its places
corner : (axes : List Axis) (size : ℕ) (point : Point) → IsSampledPoint size point → (k : ℕ) → k < 4 → slice_index (box_of axes size point).low k ≡ slice_index point.at k
corner axes size point is zero h = is 0 (omega arith)
corner axes size point is (suc zero) h = is 1 (omega arith)
corner axes size point is (suc (suc zero)) h = is 2 (omega arith)
corner axes size point is (suc (suc (suc zero))) h = is 3 (omega arith)
corner axes size point is (suc (suc (suc (suc k)))) h = absurd (omega arith)

-- so nothing is added there
none_grown : (slope : ℤ) (place low : ℕ) → low ≡ place → slope *ℤ pos (place - low) ≡ pos 0
none_grown slope place low same = let none : place - low ≡ 0 = omega (arith, same) in rw none (omega (arith, ints))

four : (value a b c d : ℤ) → a ≡ pos 0 → b ≡ pos 0 → c ≡ pos 0 → d ≡ pos 0 → (value +ℤ a +ℤ b +ℤ c +ℤ d) ≡ value
four value a b c d p q r s = omega (arith, ints, p, q, r, s)

sampled : (utility : Point → ℤ) (area : BoxN) (point : Point) → ((k : ℕ) → k < 4 → slice_index area.low k ≡ slice_index point.at k) → sampled_at utility area point ≡ utility (low_corner area)
sampled utility area point same = by (stays_in_range area (utility (low_corner area)) (sampled_slopes utility area))
  where
    grown : (k : ℕ) → k < 4 → slice_index_or (sampled_slopes utility area) k (pos 0) *ℤ pos (slice_index point.at k - slice_index area.low k) ≡ pos 0
    grown k within = none_grown (slice_index_or (sampled_slopes utility area) k (pos 0)) (slice_index point.at k) (slice_index area.low k) (same k within)

    by : (b : Bool) → (if b then grown_at area (utility (low_corner area)) (sampled_slopes utility area) point else utility (low_corner area)) ≡ utility (low_corner area)
    by true = four (utility (low_corner area)) _ _ _ _ (grown 0 (omega arith)) (grown 1 (omega arith)) (grown 2 (omega arith)) (grown 3 (omega arith))
    by false = refl

-- and the utility is the same at both
clearance_same : (axes : List Axis) (avoidance : Avoidance) (here : Spot) (track : Track) (one other : Point) → slice_index one.at (axis_number axes (codes "speed")) ≡ slice_index other.at (axis_number axes (codes "speed"))
    → slice_index one.at (axis_number axes (codes "course")) ≡ slice_index other.at (axis_number axes (codes "course")) → clearance_at axes avoidance here track one ≡ clearance_at axes avoidance here track other
clearance_same axes avoidance here track one other speed course =
    ap (λ place. approach_utility (nat_abs avoidance.near) (nat_abs avoidance.far) here track (value_on (named_axis axes (codes "speed")) place) (value_on (named_axis axes (codes "course")) (slice_index one.at (axis_number axes (codes "course"))))) speed
    ∙ ap (λ place. approach_utility (nat_abs avoidance.near) (nat_abs avoidance.far) here track (value_on (named_axis axes (codes "speed")) (slice_index other.at (axis_number axes (codes "speed")))) (value_on (named_axis axes (codes "course")) place)) course

clearance_sampled : (axes : List Axis) (avoidance : Avoidance) (here : Spot) (track : Track) (point : Point) → is_domain axes ≡ true → has_axis axes (codes "course") ≡ true → has_axis axes (codes "speed") ≡ true
    → IsSampledPoint avoidance.piece_size point → sampled_clearance axes avoidance here track point ≡ clearance_at axes avoidance here track point
clearance_sampled axes avoidance here track point domain course speed is =
    let area = box_of axes avoidance.piece_size point in
    let same = corner axes avoidance.piece_size point is in
    let few = four_axes axes domain in
    let at_course = (named_at axes (codes "course") course).1 in
    let at_speed = (named_at axes (codes "speed") speed).1 in
    ap nat_abs (sampled (λ at. pos (clearance_at axes avoidance here track at)) area point same)
    ∙ clearance_same axes avoidance here track (low_corner area) point (same (axis_number axes (codes "speed")) (omega (arith, at_speed, few))) (same (axis_number axes (codes "course")) (omega (arith, at_course, few)))

-- what it wants
wants : (avoidance : Avoidance) (here : Option Spot) (own : Spot) (track : Track) → avoidance.resolved ≡ false → here ≡ Some own → track_in avoidance ≡ Some track
    → (if avoidance.resolved then all_done else given_here (keeping_clear avoidance) here).utility ≡ Some (Clear avoidance own track)
wants avoidance here own track unresolved is moves = rw (unresolved, is, moves) refl

worth_by : (axes : List Axis) (seen : Seen) (one : BhvSoFar) (judged : Judged) (stepped : Bool) (avoidance : Avoidance) (here : Spot) (track : Track) (point : Point) → stepped ≡ true
    → (params_at one.block.spec judged.changes).shape ≡ AvoidCollision avoidance → avoidance.resolved ≡ false → position_of seen.known ≡ Some here → track_in avoidance ≡ Some track
    → times_worth axes point (params_at one.block.spec judged.changes).weight (wanted_by_step axes seen one judged stepped) ≡ (params_at one.block.spec judged.changes).weight * sampled_clearance axes avoidance here track point
worth_by axes seen one judged false avoidance here track point is shape unresolved position moves = absurd (let e : false ≡ true = is in cc)
worth_by axes seen one judged true avoidance here track point is shape unresolved position moves =
    let found = situation_at one.block.spec judged.changes (step_of axes seen.known seen.stamp (is_fresh (past_so_far one))) in
    ap (λ (own : Shape). times_worth axes point (params_at one.block.spec judged.changes).weight (gives_by_type own seen.known found).utility) shape
    ∙ ap (times_worth axes point (params_at one.block.spec judged.changes).weight) (wants avoidance (position_of seen.known) here track unresolved position moves)

pub of_approach : WorthOfApproach
of_approach axes seen one avoidance here track domain is point sampled =
    let named = and_parts (has_axis axes (codes "course")) (has_axis axes (codes "speed") && true) is.served in
    worth_by axes seen one (judged_at axes seen one) (is_stepped one.block.common (past_so_far one) (beginning_at seen one.block.common)) avoidance here track point is.stepped is.shape is.unresolved is.position is.moves
    ∙ ap (λ worth. weight_in axes seen one * worth) (clearance_sampled axes avoidance here track point domain named.0 (and_parts (has_axis axes (codes "speed")) true named.1).0 sampled)

-- a run of one place begins at its place
single : (place : ℕ) → first_of_run 1 (place / 1) ≡ place
single place = grind arith

pub each_approach : WorthOfEachApproach
each_approach axes seen one avoidance here track domain is size point =
    of_approach axes seen one avoidance here track domain is point (λ axis within. ap (λ n. first_of_run n (slice_index point.at axis / n)) size ∙ single (slice_index point.at axis))
