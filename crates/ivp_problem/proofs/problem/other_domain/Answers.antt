use Rattle.std.proofs.Common.{◌≡◌, not, Some, sym, ◌∙◌, refl, length, arith}
use Rattle.std.specs.Prelude.{slice_get}
use Rattle.std.proofs.lemmas.Iterator.Adapters.{position_from-zero}
use Rattle.std.proofs.lemmas.Option.{slice_get_read, slice_get_within}
use Rattle.ivp_func.specs.Functions.{IsFunction}
use Rattle.ivp_problem.specs.declared.term.Term.{Term}
use Rattle.ivp_problem.specs.Problems.{same_domain}
use Rattle.ivp_problem.proofs.Makes.{below_next, position_next}
use Rattle.ivp_problem.proofs.problem.other_domain.Goals as goal

pub loop-place-init : goal.loop-place-init
loop-place-init c =
    record {
      place = sym (position_from-zero (λ (t : Term). not (same_domain c.args.domain.now t.func.axes)) c.args.terms.now);
      functions = λ k t below e. absurd (omega arith);
    }

pub loop-place-preserved : goal.loop-place-preserved
loop-place-preserved c =
    let terms = c.args.terms.now in
    let place = c.loop-place.place in
    let term = c.index-terms-place.result in
    let here : slice_get terms place ≡ Some term = slice_get_read terms (length terms) place term refl c.loop-place-test.true c.index-terms-place.is in
    record {
      place = sym (position_next c.args.domain.now terms place term here (sym c.if-not-is_over.false ∙ c.is_over.ensures.same)) ∙ c.loop-place.invariant.place;
      functions = below_next (λ (t : Term). IsFunction t.func) terms place term here c.is_over.ensures.function c.loop-place.invariant.functions;
    }

pub returns-clause-none : goal.returns-clause-none
returns-clause-none c = λ place term e. c.loop-place.invariant.functions place term (omega (arith, slice_get_within c.args.terms.now place term e, c.loop-place-test.false)) e
