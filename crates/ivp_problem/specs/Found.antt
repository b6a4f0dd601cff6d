-- What a search may have found of a problem: a sum, or a key.
use Rattle.std.specs.Prelude.{◌≡◌, ℕ, ◌⊎◌, Option, Some, None, IsTrue}
use Rattle.ivp_domain.specs.declared.boxes.Point.{Point}
use Rattle.ivp_domain.specs.Domains.{is_point}
use Rattle.ivp_problem.specs.declared.key.Key.{Key}
use Rattle.ivp_problem.specs.Problems.{WeightedSum}
use Rattle.ivp_problem.specs.Sums.{key_at, sum_at}

-- 0, or the sum of a point of the problem
abbrev pub IsKnownSum : WeightedSum → ℕ → Type 0
IsKnownSum problem sum = (sum ≡ 0) ⊎ ((p : Point) × IsTrue (is_point problem.axes p) × (sum_at problem p ≡ sum))

-- none, or the key of a point of the problem
abbrev pub IsOwnKey : WeightedSum → Option Key → Type 0
IsOwnKey problem own = (own ≡ None) ⊎ ((p : Point) × IsTrue (is_point problem.axes p) × (own ≡ Some (key_at problem p)))
