-- Incumbents: the greatest key found so far, or none.
use Rattle.std.specs.Prelude.{◌≡◌, ◌⊎◌, Bool, IsTrue, Option, Some}
use Rattle.ivp_domain.specs.declared.boxes.Point.{Point}
use Rattle.ivp_problem.specs.declared.key.Key.{Key}
use Rattle.ivp_problem.specs.Keys.{Reaches}
use Rattle.ivp_problem.specs.Problems.{WeightedSum}
use Rattle.ivp_problem.specs.Sums.{key_at}

-- the greatest of an incumbent and of the keys of the points that pass a test
pub record IsBest (problem : WeightedSum) (passes : Point → Bool) (incumbent best : Option Key) : Type 0 where
  pub kept : (key : Key) → Reaches incumbent key → Reaches best key
  pub above : (point : Point) → IsTrue (passes point) → Reaches best (key_at problem point)
  pub found : (best ≡ incumbent) ⊎ ((point : Point) × IsTrue (passes point) × (best ≡ Some (key_at problem point)))
