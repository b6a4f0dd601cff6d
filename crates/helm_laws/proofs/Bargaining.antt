-- No behaviour is given up for nothing.
use Rattle.std.proofs.Common.{◌≡◌, ℕ, ◌+◌, ◌≤◌, inl, inr, List, [], ◌∷◌, ◌++◌, Option, Some, None, ap, ◌∙◌, arith}
use Rattle.std.specs.Prelude.{IfSome, sum_by}
use Rattle.std.proofs.lemmas.List.Sums.{sum_by-cons}
use Rattle.ivp_domain.specs.declared.boxes.Point.{Point}
use Rattle.ivp_cert.specs.declared.claim.Decision.{Decision}
use Rattle.helm_core.specs.Behaviors.{BhvSoFar}
use Rattle.helm_core.specs.Iterations.{iteration_at}
use Rattle.helm_core.specs.Plans.{Plan, plan_made}
use Rattle.helm_core.specs.Ticks.{Tick, seen_at}
use Rattle.helm_core.specs.Worths.{IsByWorth, ValidFilesDecideByWorth, worth_in, worth_to, worth_to_all}
use Rattle.helm_laws.specs.Files.{OfValidFiles}
use Rattle.helm_laws.specs.Bargains.{GivesUpForMore, NothingForNothing}

pub apart : {A : Type 0} (f : A → ℕ) (before after : List A) (one : A) → sum_by f (before ++ one ∷ after) ≡ f one + sum_by f (before ++ after)
apart f [] after one = sum_by-cons f one after
apart f (x ∷ before) after one =
    let e = sum_by-cons f x (before ++ one ∷ after) in
    let more = sum_by-cons f x (before ++ after) in
    let rest = apart f before after one in
    omega (arith, e, more, rest)

abbrev worth_of : Plan → List Tick → ℕ → BhvSoFar → Point → ℕ
worth_of plan ticks i one point = worth_to plan.axes (seen_at plan.decls ticks i) point one

most : (plan : Plan) (ticks : List Tick) (i : ℕ) (decision : Decision) → IsByWorth plan.axes (worth_in plan ticks i) decision → GivesUpForMore plan ticks i decision.claim.point
most plan ticks i decision is before after one point parts inside more =
    let decided = decision.claim.point in
    let split : (at : Point) → worth_in plan ticks i at ≡ worth_of plan ticks i one at + worth_to_all plan.axes (seen_at plan.decls ticks i) (before ++ after) at
    = λ at. ap (λ ones. worth_to_all plan.axes (seen_at plan.decls ticks i) ones at) parts ∙ apart (worth_to plan.axes (seen_at plan.decls ticks i) at) before after one in
    let here = split decided in
    let there = split point in
    let best : worth_in plan ticks i point ≤ worth_in plan ticks i decided = elim (is.first point inside) [ inl less ↦ omega (arith, less) | inr same ↦ omega (arith, same.0) ] in
    omega (arith, here, there, best, more)

pub bargain : ValidFilesDecideByWorth → OfValidFiles NothingForNothing
bargain law mission file valid read served ticks i = by (iteration_at (plan_made mission file) ticks i).decision (law mission file valid read served ticks i)
  where
    by : (made : Option Decision) → IfSome made (IsByWorth (plan_made mission file).axes (worth_in (plan_made mission file) ticks i))
        → IfSome made (λ decision. GivesUpForMore (plan_made mission file) ticks i decision.claim.point)
    by None is = tt
    by (Some decision) is = most (plan_made mission file) ticks i decision is
