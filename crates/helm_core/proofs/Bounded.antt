-- The number that a point of a domain has on an axis may be posted.
use Rattle.std.proofs.Common.{◌≡◌, ℕ, ℤ, ◌<◌, get_or, Bool, true, false, cond, List, length, Option, Some, None, refl, ap, subst, arith}
use Rattle.std.specs.Prelude.{IfSome, bytes_eq, pos, position, slice_get, slice_index}
use Rattle.std.proofs.lemmas.Bool.Decides.{nat_tests}
use Rattle.std.proofs.lemmas.Int.{ints}
use Rattle.std.proofs.lemmas.List.Quantifiers.{position-Some}
use Rattle.std.proofs.lemmas.Option.{slice_get-get_or}
use Rattle.moos_io.proofs.Lists.{each_at, each_true}
use Rattle.moos_post.specs.Words.{IsMilli}
use Rattle.ivp_domain.specs.declared.axis.Axis.{Axis}
use Rattle.ivp_domain.specs.declared.boxes.Point.{Point}
use Rattle.ivp_domain.specs.Axes.{is_end, is_good_axis, no_axis, value_on}
use Rattle.ivp_domain.specs.Domains.{is_domain, is_point, size_of_axis}
use Rattle.ivp_domain.proofs.Sizes.{four_axes, good_axes}
use Rattle.ivp_build.proofs.Nearest.{value_within}
use Rattle.ivp_cert.specs.declared.claim.Decision.{Decision}
use Rattle.ivp_problem.proofs.KeyOrder.{best_point}
use Rattle.helm_core.specs.declared.showing.TurnShown.{TurnShown}
use Rattle.ivp_cert.specs.Certificates.{best_decision}
use Rattle.helm_core.specs.Decisions.{active_problem, decision_made, number_at, number_on, some_active}
use Rattle.bhv_file.proofs.Named.{place_there}

end_milli : (number : ℤ) → is_end number ≡ true → IsMilli number
end_milli number is = (grind (arith, nat_tests, ints), grind (arith, nat_tests, ints))

pub zero_milli : IsMilli (pos 0)
zero_milli = end_milli (pos 0) refl

-- on the axis at this place
place_milli : (axes : List Axis) (point : Point) (k : ℕ) → is_domain axes ≡ true → is_point axes point ≡ true → k < length axes → IsMilli (number_at axes point (Some k))
place_milli axes point k lawful inside within =
    let axis = get_or axes k no_axis in
    let there : slice_get axes k ≡ Some axis = slice_get-get_or axes k no_axis within in
    let good : is_good_axis axis ≡ true = each_at (λ (axis : Axis). is_good_axis axis ≡ true) axes k axis (each_true is_good_axis axes (good_axes axes lawful)) there in
    let below : slice_index point.at k < axis.points
    = subst (λ n. slice_index point.at k < n) (ap size_of_axis there) (place_there axes point k lawful inside (four_axes axes lawful) within) in
    end_milli (value_on axis (slice_index point.at k)) (value_within axis (slice_index point.at k) good below)

-- on the axis of this name, or 0 where there is none
pub number_milli : (axes : List Axis) (name : List ℕ) (point : Point) → is_domain axes ≡ true → is_point axes point ≡ true → IsMilli (number_on axes name point)
number_milli axes name point lawful inside = by (position (λ axis. bytes_eq axis.name name) axes) refl
  where
    by : (place : Option ℕ) → position (λ (axis : Axis). bytes_eq axis.name name) axes ≡ place → IsMilli (number_at axes point place)
    by None none = zero_milli
    by (Some k) found = place_milli axes point k lawful inside (position-Some (λ (axis : Axis). bytes_eq axis.name name) axes k no_axis found).0

-- each number that is decided on may be posted
abbrev pub HasMillis : Decision → Type 0
HasMillis decision = (name : List ℕ) → IsMilli (number_on decision.problem.axes name decision.claim.point)

pub decided_millis : (axes : List Axis) (showings : List TurnShown) → is_domain axes ≡ true → IfSome (decision_made axes showings) HasMillis
decided_millis axes showings lawful = by (some_active showings)
  where
    by : (b : Bool) → IfSome (cond b (Some (best_decision (active_problem axes showings))) None) HasMillis
    by true = λ name. number_milli axes name _ lawful (best_point (active_problem axes showings))
    by false = tt
