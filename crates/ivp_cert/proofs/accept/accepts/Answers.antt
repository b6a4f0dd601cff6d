use Rattle.std.proofs.Common.{◌≡◌, Some, None, drop, length, eq-eqb, sym, ap, ◌∙◌, arith}
use Rattle.std.proofs.lemmas.Bool.Decides.{nat_tests}
use Rattle.std.proofs.lemmas.List.{drop_all}
use Rattle.ivp_domain.specs.Domains.{index_of}
use Rattle.ivp_problem.proofs.KeyOrder.{index_small}
use Rattle.ivp_cert.proofs.Accepting.{accepted_best, accepts_walked, claim_key, listed_in, walked_accepts}
use Rattle.ivp_cert.proofs.Stepping.{at_end, whole_tree}
use Rattle.ivp_cert.proofs.accept.accepts.Goals as goal

pub key_of-key-requires-clause-index : goal.key_of-key-requires-clause-index
key_of-key-requires-clause-index c =
    let problem = c.args.problem.now in
    let same = c.index_of.ensures.index ∙ ap (λ axes. index_of axes c.args.claim.now.point) c.domain.ensures in
    omega (arith, same, index_small problem.axes c.args.claim.now.point c.problem_law.ensures.domain c.requires)

pub returns-in-Some-clause-accepts : goal.returns-in-Some-clause-accepts
returns-in-Some-clause-accepts c =
    let problem = c.args.problem.now in
    let claim = c.args.claim.now in
    let cert = c.args.cert.now in
    let place = c.in-Some.place in
    let sum = c.if-claim-sum_at.false ∙ c.sum_at.ensures.sum in
    let key = claim_key problem claim c.domain.result c.index_of.result c.key_of-key.result c.sum_at.result c.domain.ensures c.index_of.ensures.index c.if-claim-sum_at.false c.sum_at.ensures.sum c.key_of-key.ensures in
    let walk = whole_tree problem c.key_of-key.result _ c.root.result c.new.result cert (Some (drop place cert)) c.root.ensures.root c.new.ensures key c.in-Some.ensures.behind in (
      λ test.
          let last : place ≡ length cert = grind (arith, nat_tests, c.len.ensures) in
          walked_accepts problem claim cert sum (sym walk ∙ ap Some (drop_all place cert (omega (arith, last)))),
      λ is.
          let last = at_end cert place c.in-Some.ensures.within (walk ∙ accepts_walked problem claim cert c.problem_law.ensures is) in
          eq-eqb place c.len.result (last ∙ sym c.len.ensures),
    )

pub returns-in-Some-clause-best : goal.returns-in-Some-clause-best
returns-in-Some-clause-best c = λ test.
    let problem = c.args.problem.now in
    let claim = c.args.claim.now in
    let listed = listed_in problem c.domain.result c.index_of.result claim.point c.domain.ensures c.index_of.ensures.index c.index_of.ensures.listed in
    accepted_best problem claim c.args.cert.now c.problem_law.ensures ((returns-in-Some-clause-accepts c).0 test) c.requires listed

pub returns-in-None-clause-accepts : goal.returns-in-None-clause-accepts
returns-in-None-clause-accepts c =
    let problem = c.args.problem.now in
    let claim = c.args.claim.now in
    let cert = c.args.cert.now in
    let key = claim_key problem claim c.domain.result c.index_of.result c.key_of-key.result c.sum_at.result c.domain.ensures c.index_of.ensures.index c.if-claim-sum_at.false c.sum_at.ensures.sum c.key_of-key.ensures in
    let walk = whole_tree problem c.key_of-key.result _ c.root.result c.new.result cert None c.root.ensures.root c.new.ensures key c.in-None.ensures.behind in
    (λ no. absurd (cc), λ is. let bad = walk ∙ accepts_walked problem claim cert c.problem_law.ensures is in absurd (cc))
