use Rattle.std.proofs.Common.{◌≡◌, ℕ, ◌<◌, not, Some, drop}
use Rattle.std.specs.Prelude.{slice_get}
use Rattle.std.specs.List.{position_from}
use Rattle.ivp_func.specs.Functions.{IsFunction}
use Rattle.ivp_problem.specs.declared.term.Term.{Term}
use Rattle.ivp_problem.specs.Problems.{other_domain, same_domain}
use Rattle.ivp_problem.proofs.problem.other_domain.Given as goal

abbrev pub invariant-loop-place : goal.invariant-loop-place
invariant-loop-place l =
    record {
      place : position_from (λ (term : Term). not (same_domain l.domain term.func.axes)) l.place (drop l.place l.terms) ≡ other_domain l.domain l.terms;
      functions : (k : ℕ) (term : Term) → k < l.place → slice_get l.terms k ≡ Some term → IsFunction term.func;
    }
