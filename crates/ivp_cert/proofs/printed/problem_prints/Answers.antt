use Rattle.std.proofs.Common.{◌≡◌, ℕ, ◌+◌, ◌<◌, Option, Some, None, List, get_or, length, refl, subst, arith}
use Rattle.std.specs.Prelude.{IfSome, IsTrue, slice_get}
use Rattle.std.proofs.lemmas.Option.{slice_get-get_or}
use Rattle.ivp_domain.specs.declared.axis.Axis.{Axis}
use Rattle.ivp_domain.specs.AxisNames.{is_axis_name}
use Rattle.ivp_func.specs.Functions.{Function}
use Rattle.ivp_problem.specs.declared.term.Term.{Term}
use Rattle.ivp_problem.proofs.Nodes.{blank_term}
use Rattle.ivp_cert.specs.Printed.{AllOf, HasFourPlaces}
use Rattle.ivp_cert.proofs.EachPart.{Below, below_all, below_more, below_none}
use Rattle.ivp_cert.proofs.printed.problem_prints.Goals as goal

abbrev Named : Axis → Type 0
Named axis = IsTrue (is_axis_name axis.name)

abbrev Prints : Term → Type 0
Prints term = AllOf HasFourPlaces term.func.pieces

-- a function by its number, as the code finds it
term_more : (terms : List Term) (i : ℕ) (func : Function) → Below Prints terms i → i < length terms → IfSome (slice_get terms i) (λ term. func ≡ term.func) → AllOf HasFourPlaces func.pieces → Below Prints terms (i + 1)
term_more terms i func before within is holds = by (slice_get terms i) refl (slice_get-get_or terms i blank_term within) is
  where
    by : (o : Option Term) → slice_get terms i ≡ o → slice_get terms i ≡ Some (get_or terms i blank_term) → IfSome o (λ term. func ≡ term.func) → Below Prints terms (i + 1)
    by None e some f = absurd (cc)
    by (Some term) e some f = below_more Prints terms i term before e (subst (λ (g : Function). AllOf HasFourPlaces g.pieces) f holds)

pub loop-number-init : goal.loop-number-init
loop-number-init c = below_none Prints c.args.problem.now.terms

pub loop-number-preserved : goal.loop-number-preserved
loop-number-preserved c = term_more c.args.problem.now.terms c.loop-number.number c.func.result.now c.loop-number.invariant (omega (arith, c.loop-number-test.true, c.len-number-end.ensures.len)) c.func.ensures.func c.pieces_print.ensures

pub returns : goal.returns
returns c = record {
  lawful = c.len-number-end.ensures.problem;
  names = subst (λ axes. AllOf Named axes) c.domain.ensures c.names_print.ensures;
  pieces = below_all Prints c.args.problem.now.terms c.loop-number.number (omega (arith, c.loop-number-test.false, c.len-number-end.ensures.len)) c.loop-number.invariant;
}
