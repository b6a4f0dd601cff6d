use Rattle.std.proofs.Common.{◌≡◌, IsTrue, sym, subst, to_z, of_z, w64, arith}
use Rattle.std.proofs.lemmas.Int.{ints}
use Rattle.ivp_func.specs.Pieces.{is_value}
use Rattle.ivp_func.proofs.func.Func.top.Goals as goal

pub returns-clause-range : goal.returns-clause-range
returns-clause-range c =
    let kept : to_z w64 (of_z w64 c.body.result.now.top) ≡ c.body.result.now.top = omega (arith, ints) in
    let top = c.body.ensures.kept.top.attained in
    subst (λ v. IsTrue (is_value v)) (sym kept) (subst (λ v. IsTrue (is_value v)) top.2 (c.body.ensures.kept.function.values top.0 top.1))
