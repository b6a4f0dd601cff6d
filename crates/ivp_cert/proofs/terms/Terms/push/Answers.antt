use Rattle.std.proofs.Common.{◌≡◌, ◌<◌, length, sym, subst}
use Rattle.ivp_problem.specs.Problems.{WeightedSum}
use Rattle.ivp_cert.proofs.Sums.{few_more, over_more, weights_more}
use Rattle.ivp_cert.proofs.terms.Terms.push.Goals as goal

pub invariant_of-self : goal.invariant_of-self
invariant_of-self c = rw c.in_err-push.ensures.items c.self.invariant

pub invariant_of-self-2 : goal.invariant_of-self-2
invariant_of-self-2 c =
    let before = c.self.inside.terms.items in
    let after = c.push.new.self.items in
    let term = c.args.term in
    let few = subst (λ (sum : WeightedSum). length sum.terms < 64) (sym c.self.view_is) c.requires.few in
    let domain = subst (λ (sum : WeightedSum). term.func.axes ≡ sum.axes) (sym c.self.view_is) c.requires.domain in
    let more = c.in_ok-push.ensures.items in (
      few_more before after term more few,
      weights_more before after term more c.self.invariant.1 c.requires.weight,
      over_more c.self.inside.domain before after term more c.self.invariant.2 domain,
    )
