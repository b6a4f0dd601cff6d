-- No behaviour is given up for nothing.
use Rattle.std.specs.Prelude.{◌≡◌, ℕ, ◌<◌, IsTrue, IfSome, List, ◌∷◌, ◌++◌}
use Rattle.ivp_domain.specs.declared.boxes.Point.{Point}
use Rattle.ivp_domain.specs.Domains.{is_point}
use Rattle.helm_core.specs.Behaviors.{BhvSoFar}
use Rattle.helm_core.specs.Iterations.{iteration_at}
use Rattle.helm_core.specs.Lists.{list_at}
use Rattle.helm_core.specs.Plans.{Plan}
use Rattle.helm_core.specs.Ticks.{Tick, seen_at}
use Rattle.helm_core.specs.Worths.{worth_to, worth_to_all}

-- A point of the domain that is worth more to one behaviour than this one is worth less to the others together.
abbrev pub GivesUpForMore : Plan → List Tick → ℕ → Point → Type 0
GivesUpForMore plan ticks i decided = (before after : List BhvSoFar) (one : BhvSoFar) (point : Point) → list_at plan ticks i ≡ before ++ one ∷ after → IsTrue (is_point plan.axes point)
    → worth_to plan.axes (seen_at plan.decls ticks i) decided one < worth_to plan.axes (seen_at plan.decls ticks i) point one
    → worth_to_all plan.axes (seen_at plan.decls ticks i) (before ++ after) point < worth_to_all plan.axes (seen_at plan.decls ticks i) (before ++ after) decided

-- What is decided gives up what any behaviour wants only for what is worth more to the others. So a nearer pass of a contact is never
-- taken for nothing.
abbrev pub NothingForNothing : Plan → Type 0
NothingForNothing plan = (ticks : List Tick) (i : ℕ) → IfSome (iteration_at plan ticks i).decision (λ decision. GivesUpForMore plan ticks i decision.claim.point)
