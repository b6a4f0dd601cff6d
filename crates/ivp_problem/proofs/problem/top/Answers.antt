use Rattle.std.proofs.Common.{◌≡◌, ◌*◌, ap, ◌∙◌, to_z, of_z, w64, arith}
use Rattle.std.specs.Prelude.{nat_abs}
use Rattle.std.proofs.lemmas.Int.{ints}
use Rattle.ivp_problem.proofs.Terms.{top_is}
use Rattle.ivp_problem.proofs.problem.top.Goals as goal

pub returns-clause-top : goal.returns-clause-top
returns-clause-top c =
    let term = c.args.term.now in
    let kept : to_z w64 (of_z w64 c.top-value.result) ≡ c.top-value.result = omega (arith, ints) in
    ap (λ z. term.weight * nat_abs z) kept ∙ ap (λ n. term.weight * n) (top_is term.func.axes term.func.pieces c.top-value.result c.requires.function.values c.top-value.ensures.top)
