-- What is known of keys: what outdoes a key outdoes a lesser one, and more knowledge outdoes no less.
use Rattle.std.proofs.Common.{◌≡◌, ◌≤◌, ◌⊎◌, inl, inr, Option, sym, subst, arith}
use Rattle.ivp_problem.specs.declared.key.Key.{Key}
use Rattle.ivp_problem.specs.Found.{IsOwnKey}
use Rattle.ivp_problem.specs.Keys.{AtMost, greater_own, Reaches}
use Rattle.ivp_problem.specs.Problems.{WeightedSum}
use Rattle.ivp_problem.proofs.KeyOrder.{at_most_sum, greater_own_one, reaches_less}
use Rattle.ivp_pool.specs.Parts.{Incumbent, KnowsMore, Outdoes}

pub outdoes_less : (knows : Incumbent) (a b : Key) → AtMost a b → Outdoes knows b → Outdoes knows a
outdoes_less knows a b le (inl less) = inl (omega (arith, at_most_sum a b le, less))
outdoes_less knows a b le (inr reach) = inr (reaches_less knows.own a b le reach)

-- a greater sum and a greater own key
pub knows_from : (old new : Incumbent) → old.low ≤ new.low → ((key : Key) → Reaches old.own key → Reaches new.own key) → KnowsMore old new
knows_from old new low own key (inl less) = inl (omega (arith, less, low))
knows_from old new low own key (inr reach) = inr (own key reach)

pub knows_same : (knows : Incumbent) → KnowsMore knows knows
knows_same knows key out = out

-- the greater of two own keys is one
pub owned_greater : (problem : WeightedSum) (one other : Option Key) → IsOwnKey problem one → IsOwnKey problem other → IsOwnKey problem (greater_own one other)
owned_greater problem one other is is' = by (greater_own_one one other)
  where
    by : (greater_own one other ≡ one) ⊎ (greater_own one other ≡ other) → IsOwnKey problem (greater_own one other)
    by (inl same) = subst (IsOwnKey problem) (sym same) is
    by (inr same) = subst (IsOwnKey problem) (sym same) is'
