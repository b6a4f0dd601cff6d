-- A behaviour that loses more beyond a bound than the others can gain keeps the decision within it.
use Rattle.std.proofs.Common.{◌≡◌, ℕ, ◌+◌, ◌<◌, ◌≤◌, inl, inr, Bool, true, false, List, ◌∷◌, ◌++◌, Option, Some, None, refl, ap, ◌∙◌, arith}
use Rattle.std.specs.Prelude.{IfSome, IsTrue}
use Rattle.ivp_domain.specs.declared.boxes.Point.{Point}
use Rattle.ivp_domain.specs.Domains.{is_point}
use Rattle.ivp_cert.specs.declared.claim.Decision.{Decision}
use Rattle.helm_core.specs.Behaviors.{BhvSoFar}
use Rattle.helm_core.specs.Iterations.{iteration_at}
use Rattle.helm_core.specs.Lists.{list_at}
use Rattle.helm_core.specs.Plans.{Plan, plan_made}
use Rattle.helm_core.specs.Ticks.{Tick, seen_at}
use Rattle.helm_core.specs.Worths.{IsByWorth, ValidFilesDecideByWorth, worth_in, worth_to, worth_to_all}
use Rattle.helm_laws.specs.Files.{OfValidFiles}
use Rattle.helm_laws.specs.Bounds.{BoundsKept, CostsMore}
use Rattle.helm_laws.proofs.Bargaining.{apart}

-- what is decided is never beyond
kept : (plan : Plan) (ticks : List Tick) (i : ℕ) (decision : Decision) → IsByWorth plan.axes (worth_in plan ticks i) decision → (before after : List BhvSoFar) (one : BhvSoFar) (beyond : Point → Bool) (within : Point)
    → list_at plan ticks i ≡ before ++ one ∷ after → IsTrue (is_point plan.axes within) → CostsMore plan.axes (seen_at plan.decls ticks i) one (before ++ after) beyond within → beyond decision.claim.point ≡ false
kept plan ticks i decision is before after one beyond within parts inside costs = by (beyond decided) (costs decided is.inside)
  where
    decided : Point
    decided = decision.claim.point

    split : (at : Point) → worth_in plan ticks i at ≡ worth_to plan.axes (seen_at plan.decls ticks i) at one + worth_to_all plan.axes (seen_at plan.decls ticks i) (before ++ after) at
    split at = ap (λ ones. worth_to_all plan.axes (seen_at plan.decls ticks i) ones at) parts ∙ apart (worth_to plan.axes (seen_at plan.decls ticks i) at) before after one

    best : worth_in plan ticks i within ≤ worth_in plan ticks i decided
    best = elim (is.first within inside) [ inl less ↦ omega (arith, less) | inr same ↦ omega (arith, same.0) ]

    by : (b : Bool)
        → (b ≡ true → worth_to plan.axes (seen_at plan.decls ticks i) decided one + worth_to_all plan.axes (seen_at plan.decls ticks i) (before ++ after) decided < worth_to plan.axes (seen_at plan.decls ticks i) within one)
        → b ≡ false
    by false less = refl
    by true less = let l = less refl in let here = split decided in let there = split within in let top = best in absurd (omega (arith, l, here, there, top))

pub bounds : ValidFilesDecideByWorth → OfValidFiles BoundsKept
bounds law mission file valid read served ticks i before after one parts beyond within inside costs =
    by (iteration_at (plan_made mission file) ticks i).decision (law mission file valid read served ticks i)
  where
    by : (made : Option Decision) → IfSome made (IsByWorth (plan_made mission file).axes (worth_in (plan_made mission file) ticks i)) → IfSome made (λ decision. beyond decision.claim.point ≡ false)
    by None is = tt
    by (Some decision) is = kept (plan_made mission file) ticks i decision is before after one beyond within parts inside costs
