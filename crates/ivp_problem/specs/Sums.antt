-- The weighted sum and the key of a point, and the best point of all.
use Rattle.std.specs.Prelude.{ℕ, ◌*◌, nat_abs, max, min, if◌then◌else◌, List, [], ◌∷◌}
use Rattle.std.specs.List.{fold, sum_by}
use Rattle.ivp_domain.specs.declared.boxes.Point.{Point}
use Rattle.ivp_domain.specs.Boxes.{point_from}
use Rattle.ivp_domain.specs.Domains.{index_of, points_of}
use Rattle.ivp_func.specs.Pieces.{value_at}
use Rattle.ivp_problem.specs.declared.term.Term.{Term}
use Rattle.ivp_problem.specs.declared.key.Key.{Key}
use Rattle.ivp_problem.specs.Keys.{is_at_most, key_of}
use Rattle.ivp_problem.specs.Problems.{WeightedSum}

-- the weighted value of a term at a point: weight times value, which is never below 0
abbrev pub weighted_at : Point → Term → ℕ
weighted_at point term = term.weight * nat_abs (value_at term.func.pieces point)

-- the weighted sum of these terms at a point
abbrev pub weighted_sum : List Term → Point → ℕ
weighted_sum terms point = sum_by (weighted_at point) terms

-- the weighted sum of a problem at a point
abbrev pub sum_at : WeightedSum → Point → ℕ
sum_at problem point = weighted_sum problem.terms point

-- the key of a point: its weighted sum with its index
abbrev pub key_at : WeightedSum → Point → Key
key_at problem point = key_of (sum_at problem point) (index_of problem.axes point)

-- the greatest of these numbers, one for each point; 0 if there is no point
abbrev pub greatest : (Point → ℕ) → List Point → ℕ
greatest number points = fold (λ most point. max most (number point)) 0 points

-- the least of these numbers, one for each point; 0 if there is no point
abbrev pub least : (Point → ℕ) → List Point → ℕ
least number [] = 0
least number (first ∷ points) = fold (λ least point. min least (number point)) (number first) points

-- the one of two points that has the greater key
abbrev pub better : WeightedSum → Point → Point → Point
better problem one other = if is_at_most (key_at problem other) (key_at problem one) then one else other

-- the point of greatest key among these; that of place 0 on each axis if there is none
abbrev pub best_among : WeightedSum → List Point → Point
best_among problem [] = point_from 0 0 0 0
best_among problem (point ∷ points) = fold (better problem) point points

-- the best point: the one of greatest key among all points of the domain
abbrev pub best_of : WeightedSum → Point
best_of problem = fold (better problem) (point_from 0 0 0 0) (points_of problem.axes)
