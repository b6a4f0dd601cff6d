use Rattle.std.proofs.Common.{◌≡◌, ◌<◌, length, refl, sym, subst}
use Rattle.std.proofs.lemmas.Option.{slice_get_read}
use Rattle.ivp_problem.specs.Problems.{WeightedSum}
use Rattle.ivp_problem.proofs.problem.Problem.func.Goals as goal

pub returns-clause-function : goal.returns-clause-function
returns-clause-function c =
    let terms = c.self.inside.terms.items in
    let term = c.index.result.now in
    let within : c.args.i < length terms = subst (λ (s : WeightedSum). c.args.i < length s.terms) (sym c.self.view_is) c.requires in
    (c.self.invariant.0.terms c.args.i term (slice_get_read terms (length terms) c.args.i term refl within c.index.ensures)).func

pub returns-clause-domain : goal.returns-clause-domain
returns-clause-domain c =
    let terms = c.self.inside.terms.items in
    let term = c.index.result.now in
    let within : c.args.i < length terms = subst (λ (s : WeightedSum). c.args.i < length s.terms) (sym c.self.view_is) c.requires in
    subst (λ (s : WeightedSum). term.func.axes ≡ s.axes) c.self.view_is (c.self.invariant.0.terms c.args.i term (slice_get_read terms (length terms) c.args.i term refl within c.index.ensures)).domain
