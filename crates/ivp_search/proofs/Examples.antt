-- The definition of a best key where no point passes the test, and where each point of a small problem does.
use Rattle.std.proofs.Common.{◌≡◌, Bool, true, false, inl, inr, pos, Option, Some, None, List, [], ◌∷◌, refl, sym, ap, subst, arith}
use Rattle.std.specs.Prelude.{codes}
use Rattle.ivp_domain.specs.declared.axis.Axis.{Axis}
use Rattle.ivp_domain.specs.declared.boxes.Point.{Point}
use Rattle.ivp_domain.specs.Boxes.{point_from}
use Rattle.ivp_domain.specs.Domains.{is_point}
use Rattle.ivp_func.specs.declared.piece.Piece.{Piece}
use Rattle.ivp_problem.specs.declared.key.Key.{Key}
use Rattle.ivp_problem.specs.Keys.{AtMost, key_of}
use Rattle.ivp_problem.specs.Problems.{WeightedSum}
use Rattle.ivp_problem.specs.Sums.{key_at}
use Rattle.ivp_problem.proofs.KeyOrder.{at_most_self, at_most_then, at_most_true, best_most, true_at_most}
use Rattle.ivp_search.specs.Incumbents.{IsBest}

abbrev none_pass : Point → Bool
none_pass _ = false

-- the incumbent stays, be it none or a key
stays : (problem : WeightedSum) (incumbent : Option Key) → IsBest problem none_pass incumbent incumbent
stays problem incumbent = record { kept = λ key reach. reach; above = λ p no. absurd (cc); found = inl refl }

-- and nothing above it is found
no_more : (problem : WeightedSum) → IsBest problem none_pass (Some (key_of 7 0)) (Some (key_of 8 0)) → ⊥
no_more problem best =
    elim best.found [
      | inl same ↦ let key : key_of 8 0 ≡ key_of 7 0 = cc in let sum : (key_of 8 0).sum ≡ (key_of 7 0).sum = ap (λ (k : Key). k.sum) key in absurd (omega arith)
      | inr point ↦ absurd (cc)
    ]

-- one function over two points, of value 5 and 6
abbrev axes : List Axis
axes = record { name = codes "a"; low = pos 0; high = pos 1000; points = 2 } ∷ []

abbrev rising : Piece
rising = record { area = record { low = 0 ∷ 0 ∷ 0 ∷ 0 ∷ []; high = 1 ∷ 0 ∷ 0 ∷ 0 ∷ [] }; base = pos 5; slope = pos 1 ∷ pos 0 ∷ pos 0 ∷ pos 0 ∷ [] }

abbrev one : WeightedSum
one = record { axes = axes; terms = record { weight = 1; func = record { axes = axes; pieces = rising ∷ [] } } ∷ [] }

-- the greatest key is the last point's, unless the incumbent is greater
last_is_best : IsBest one (is_point axes) None (Some (key_of 6 1))
last_is_best = record { kept = λ key none. absurd none; above = λ p inside. best_most one p inside; found = inr (point_from 1 0 0 0, refl, refl) }

incumbent_is_best : IsBest one (is_point axes) (Some (key_of 7 0)) (Some (key_of 7 0))
incumbent_is_best = record { kept = λ key reach. reach; above = λ p inside. at_most_then (key_at one p) (key_of 6 1) (key_of 7 0) (best_most one p inside) (at_most_true (key_of 6 1) (key_of 7 0) refl); found = inl refl }

-- not the first point's, which is less, nor a key that no point has; and no greater incumbent is given up
six_above_five : AtMost (key_of 6 1) (key_of 5 0) → ⊥
six_above_five most = let told : false ≡ true = true_at_most (key_of 6 1) (key_of 5 0) most in absurd (cc)

lesser_key : IsBest one (is_point axes) None (Some (key_of 5 0)) → ⊥
lesser_key is = six_above_five (is.above (point_from 1 0 0 0) refl)

seven_above_six : AtMost (key_of 7 0) (key_of 6 1) → ⊥
seven_above_six most = let told : false ≡ true = true_at_most (key_of 7 0) (key_of 6 1) most in absurd (cc)

key_of_no_point : IsBest one (is_point axes) None (Some (key_of 7 0)) → ⊥
key_of_no_point is =
    elim is.found [
      | inl same ↦ absurd (cc)
      | inr (point, inside, same) ↦ let key : key_of 7 0 ≡ key_at one point = cc in seven_above_six (subst (λ (k : Key). AtMost k (key_of 6 1)) (sym key) (best_most one point inside))
    ]

given_up : IsBest one (is_point axes) (Some (key_of 7 0)) (Some (key_of 6 1)) → ⊥
given_up is = seven_above_six (is.kept (key_of 7 0) (at_most_self (key_of 7 0)))
