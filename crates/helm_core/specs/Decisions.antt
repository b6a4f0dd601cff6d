-- The problem of an iteration, and what its best point decides.
use Rattle.std.specs.Prelude.{◌≡◌, ℕ, ℤ, pos, Bool, IsTrue, if◌then◌else◌, List, slice_index, slice_index_or, bytes_eq, position, Option, Some, None, option_map}
use Rattle.std.specs.List.{filter_map, list_any}
use Rattle.ivp_domain.specs.declared.axis.Axis.{Axis}
use Rattle.ivp_domain.specs.Axes.{no_axis, value_on}
use Rattle.ivp_domain.specs.Domains.{is_point}
use Rattle.ivp_domain.specs.declared.boxes.Point.{Point}
use Rattle.ivp_func.specs.Functions.{Function}
use Rattle.ivp_problem.specs.declared.term.Term.{Term}
use Rattle.ivp_problem.specs.Problems.{WeightedSum, is_weight}
use Rattle.ivp_cert.specs.declared.claim.Decision.{Decision}
use Rattle.ivp_cert.specs.Certificates.{best_decision}
use Rattle.helm_core.specs.declared.showing.TurnShown.{TurnShown}

-- a behaviour is active
abbrev pub some_active : List TurnShown → Bool
some_active showings = list_any (λ one. one.active) showings

-- a function with a weight
abbrev pub term_of : ℕ → Function → Term
term_of weight func = record { weight = weight; func = func }

-- the function of an active behaviour, with its weight
abbrev pub active_term : TurnShown → Option Term
active_term one = if one.active then option_map (term_of one.weight) one.out.func else None

-- the term is one of a problem over these axes
pub record IsFitTerm (axes : List Axis) (term : Term) : Type 0 where
  pub weight : IsTrue (is_weight term.weight)
  pub over : term.func.axes ≡ axes

-- the functions of the active behaviours over a domain, in the order of the list
abbrev pub active_problem : List Axis → List TurnShown → WeightedSum
active_problem axes showings = record { axes = axes; terms = filter_map active_term showings }

-- what is decided if a behaviour is active
abbrev pub decision_made : List Axis → List TurnShown → Option Decision
decision_made axes showings = if some_active showings then Some (best_decision (active_problem axes showings)) else None

-- the decision is that on its problem, and its point is one of the domain
pub record IsBestDecision (decision : Decision) : Type 0 where
  pub best : decision ≡ best_decision decision.problem
  pub point : IsTrue (is_point decision.problem.axes decision.claim.point)

-- the number that a point has on the axis at this place; 0 without a place
abbrev pub number_at : List Axis → Point → Option ℕ → ℤ
number_at axes point None = pos 0
number_at axes point (Some place) = value_on (slice_index_or axes place no_axis) (slice_index point.at place)

-- the number that a point has on the axis of this name; 0 if there is none
abbrev pub number_on : List Axis → List ℕ → Point → ℤ
number_on axes name point = number_at axes point (position (λ axis. bytes_eq axis.name name) axes)
