-- Problems: weighted functions over one domain, and the lists of them that make one.
use Rattle.std.specs.Prelude.{◌≡◌, ℕ, ◌<◌, ◌≤◌, Bool, true, false, ◌&&◌, ◌==◌, not, nat_le, nat_lt, if◌then◌else◌, IsTrue, Option, Some, None, Result, Ok, Err, List, [], ◌∷◌, length, slice_get, position}
use Rattle.std.specs.Ordering.{int_eq}
use Rattle.std.specs.Str.{bytes_eq}
use Rattle.ivp_domain.specs.declared.axis.Axis.{Axis}
use Rattle.ivp_domain.specs.Domains.{is_domain}
use Rattle.ivp_func.specs.Functions.{IsFunction}
use Rattle.ivp_problem.specs.declared.term.Term.{Term}
use Rattle.ivp_problem.specs.declared.term.ProblemFault.{ProblemFault}
use Rattle.ivp_problem.specs.declared.term.ProblemFault.TheVariants.{NoFunction, TooMany, BadWeight, OtherDomain}

-- a weighted sum of functions over a domain: its axes and its terms in order
pub record WeightedSum : Type 0 where
  pub axes : List Axis
  pub terms : List Term

-- from 1 to 10,000,000 thousandths
abbrev pub is_weight : ℕ → Bool
is_weight weight = nat_le 1 weight && nat_le weight 10000000

-- the axes agree in name, ends and points
abbrev pub same_axis : Axis → Axis → Bool
same_axis a b = bytes_eq a.name b.name && int_eq a.low b.low && int_eq a.high b.high && a.points == b.points

-- the domains have the same axes in the same order
abbrev pub same_domain : List Axis → List Axis → Bool
same_domain [] [] = true
same_domain [] (b ∷ bs) = false
same_domain (a ∷ more) [] = false
same_domain (a ∷ more) (b ∷ bs) = same_axis a b && same_domain more bs

-- the place of the first term whose weight is out of range
abbrev pub bad_weight : List Term → Option ℕ
bad_weight terms = position (λ term. not (is_weight term.weight)) terms

-- the place of the first term whose function is over another domain
abbrev pub other_domain : List Axis → List Term → Option ℕ
other_domain axes terms = position (λ term. not (same_domain axes term.func.axes)) terms

-- the weighted sum itself, or the refusal of a bad weight, or of another domain
abbrev pub judged_terms : List Axis → List Term → Option ℕ → Option ℕ → Result WeightedSum ProblemFault
judged_terms axes terms (Some place) other = Err (BadWeight place)
judged_terms axes terms None (Some place) = Err (OtherDomain place)
judged_terms axes terms None None = Ok (record { axes = axes; terms = terms })

-- the problem that these terms make, or the first refusal: no function, too many, a bad weight, another domain
abbrev pub problem_from : List Axis → List Term → Result WeightedSum ProblemFault
problem_from axes terms =
    if length terms == 0 then Err NoFunction else if nat_lt 64 (length terms) then Err TooMany else judged_terms axes terms (bad_weight terms) (other_domain axes terms)

-- the function of each term is over these axes
abbrev pub AreOver : List Axis → List Term → Type 0
AreOver axes terms = (place : ℕ) (term : Term) → slice_get terms place ≡ Some term → term.func.axes ≡ axes

-- what each term of a problem keeps
pub record IsTermOf (axes : List Axis) (term : Term) : Type 0 where
  pub weight : IsTrue (is_weight term.weight)
  pub domain : term.func.axes ≡ axes
  pub func : IsFunction term.func

-- what every problem keeps
pub record IsProblem (problem : WeightedSum) : Type 0 where
  pub domain : IsTrue (is_domain problem.axes)
  pub some : 0 < length problem.terms
  pub few : length problem.terms ≤ 64
  pub terms : (place : ℕ) (term : Term) → slice_get problem.terms place ≡ Some term → IsTermOf problem.axes term
