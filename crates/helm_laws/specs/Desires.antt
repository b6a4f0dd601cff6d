-- What is desired is in the domain: a value of its axis, and of one that an active behaviour's function mentions.
use Rattle.std.specs.Prelude.{◌≡◌, ℕ, ℤ, ◌<◌, ◌⊎◌, pos, Bool, true, IsTrue, List, bytes_eq, codes, slice_get, Some}
use Rattle.std.specs.List.{All}
use Rattle.moos_post.specs.declared.value.Pair.{Pair}
use Rattle.ivp_domain.specs.declared.axis.Axis.{Axis}
use Rattle.ivp_domain.specs.Axes.{value_on}
use Rattle.ivp_domain.specs.Domains.{is_domain}
use Rattle.bhv_file.specs.Params.{has_axis}
use Rattle.helm_core.specs.PastIterations.{PastIteration, past_iteration_at}
use Rattle.helm_core.specs.Plans.{Plan}
use Rattle.helm_core.specs.Posts.{mentions_course, mentions_depth, mentions_speed, number_pair}
use Rattle.helm_core.specs.Ticks.{Tick}
use Rattle.helm_laws.specs.Said.{desires_at}
use Rattle.helm_laws.specs.Stops.{must_stop}

-- the number is that of a place of an axis of this name
pub record IsValueOn (axes : List Axis) (name : List ℕ) (number : ℤ) : Type 0 where
  pub axis : Axis
  pub at : ℕ
  pub place : ℕ
  pub among : slice_get axes at ≡ Some axis
  pub named : bytes_eq axis.name name ≡ true
  pub within : place < axis.points
  pub is : number ≡ value_on axis place

-- the pair says of this variable a value of its axis, if the domain has that, and it is mentioned
pub record IsDesired (axes : List Axis) (var name : List ℕ) (mentioned : Bool) (pair : Pair) : Type 0 where
  pub number : ℤ
  pub is : pair ≡ number_pair var number
  pub mentions : mentioned ≡ true
  pub on : IsTrue (has_axis axes name) → IsValueOn axes name number

-- the pair is a heading, a speed or a depth of the domain, on an axis that an active behaviour's function mentions
abbrev pub IsInDomain : List Axis → PastIteration → Pair → Type 0
IsInDomain axes now pair =
    IsDesired axes (codes "DESIRED_HEADING") (codes "course") (mentions_course now.showings) pair
    ⊎ (IsDesired axes (codes "DESIRED_SPEED") (codes "speed") (mentions_speed now.showings) pair
    ⊎ IsDesired axes (codes "DESIRED_DEPTH") (codes "depth") (mentions_depth now.showings) pair)

-- the pair is the speed 0 of an iteration in which the vehicle must stop
pub record IsStopSpeed (plan : Plan) (ticks : List Tick) (i : ℕ) (pair : Pair) : Type 0 where
  pub stops : must_stop plan ticks i ≡ true
  pub is : pair ≡ number_pair (codes "DESIRED_SPEED") (pos 0)

-- Each pair that an iteration desires is in the domain, but for the speed 0 of a vehicle that must stop.
abbrev pub DesiresInDomain : Plan → Type 0
DesiresInDomain plan = (ticks : List Tick) (i : ℕ) → IsTrue (is_domain plan.axes)
    → All (λ pair. IsStopSpeed plan ticks i pair ⊎ IsInDomain plan.axes (past_iteration_at plan ticks i) pair) (desires_at plan ticks i)
